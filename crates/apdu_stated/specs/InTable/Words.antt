-- The names that InTable.antt is written with.
pub use Rattle.std.specs.Prelude.{◌*◌, ◌↔◌, ◌+◌, ◌≤◌, ◌<◌, ◌≡◌, ◌∷◌, ◌++◌}
pub use Rattle.outcome.specs.Outcome.{Outcome, SW, Gives, HasStatus}
pub use Rattle.octets.specs.Bytes.{AreBytes}
pub use Rattle.apdu_stated.specs.Words.{ℕ, List, [], length, ApduHeader}
