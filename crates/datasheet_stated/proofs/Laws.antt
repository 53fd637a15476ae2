-- What other crates cite of this one: that a row is of a buffer within the bounds, and its figures the definition's.
pub use Rattle.datasheet_stated.proofs.Cases.{Within, row_is}
