-- The second reader for C: what its rows say in numbers, and that this is what the branching reader's call says. It mentions no function.
use Prim.Native.Nat.{ℕ}
use mathlib.Core.Path.{◌≡◌, ap, ◌∙◌}
use mathlib.Core.List.{List}
use Rattle.apdu_stated.specs.declared.Entry.{Entry}
use Rattle.apdu_table_stated.specs.Rows.{table_of}
use Rattle.apdu_table_stated.specs.Answers.{table_reading_of, read_by_rows, TableReading}
use Rattle.apdu_table_stated.proofs.Laws.{same_reading}
use Rattle.panel_stated.specs.Exports.{frame_numbers, reads_of}
use Rattle.panel_stated.specs.declared.FrameSaid.{FrameSaid}

module _ (reading : TableReading) where
  pub by_table : (entry : Entry) (frame : List ℕ) (r : FrameSaid) → table_reading_of reading ≡ read_by_rows (table_of entry) frame → r ≡ frame_numbers (table_reading_of reading) → r ≡ reads_of entry frame
  by_table entry frame r is e = e ∙ ap frame_numbers (is ∙ same_reading entry frame)
