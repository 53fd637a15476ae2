-- The laws that other crates cite.
pub use Rattle.apdu_le.proofs.Within.{one_at, two_at, three_at}
