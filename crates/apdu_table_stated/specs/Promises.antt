-- What each public function of `apdu_table` promises of its result, on every table and every frame. A table is lent as its rows, four numbers each.
use Rattle.std.specs.Prelude.{◌≡◌}
use Rattle.apdu_table_stated.specs.Words.{ℕ, List, map, Entry, Ordinary, Strict, Tried}
use Rattle.apdu_table_stated.specs.Rows.{rows_of, columns_of, table_of}
use Rattle.apdu_table_stated.specs.Trying.{tried_of}
use Rattle.apdu_table_stated.specs.Answers.{TableReading, table_reading_of, read_by_rows}

-- a table as data: its rows of Rows.antt, one after the other
abbrev pub TableRows : Entry → List (List ℕ) → Type 0
TableRows entry r = r ≡ map columns_of (table_of entry)

-- `ordinary`
abbrev pub OrdinaryRows : List (List ℕ) → Type 0
OrdinaryRows r = TableRows Ordinary r

-- `strict`
abbrev pub StrictRows : List (List ℕ) → Type 0
StrictRows r = TableRows Strict r

-- `try_rows`, by any table
abbrev pub TryRows : (table : List (List ℕ)) → (frame : List ℕ) → Tried → Type 0
TryRows table frame r = r ≡ tried_of (rows_of table) frame

-- `read_rows`, by any table
abbrev pub ReadRows : (table : List (List ℕ)) → (frame : List ℕ) → TableReading → Type 0
ReadRows table frame r = table_reading_of r ≡ read_by_rows (rows_of table) frame

-- by one of the two tables
abbrev pub ReadTable : Entry → List ℕ → TableReading → Type 0
ReadTable entry frame r = table_reading_of r ≡ read_by_rows (table_of entry) frame

-- `read`
abbrev pub ReadByTable : List ℕ → TableReading → Type 0
ReadByTable frame r = ReadTable Ordinary frame r

-- `read_strict`
abbrev pub ReadStrictByTable : List ℕ → TableReading → Type 0
ReadStrictByTable frame r = ReadTable Strict frame r
