-- The laws that other crates cite.
pub use Rattle.apdu_table_stated.proofs.Theorems.{SameReading as same_reading}
pub use Rattle.apdu_table_stated.proofs.AnyTable.{answers_exactly}
pub use Rattle.apdu_table_stated.proofs.OneRow.{one_fits, one_reads}
pub use Rattle.apdu_table_stated.proofs.Columns.{begins_other, begins_zero, begins_known, lc_three, le_one, Stands, fits_of, of_fits}
