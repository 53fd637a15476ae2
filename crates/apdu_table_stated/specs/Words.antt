-- The notation that the other files of specs/ are written in, and the words that they take from apdu_stated.
pub use Rattle.std.specs.Prelude.{ℕ, ◌+◌, ◌≤◌, ◌<◌, ◌≡◌, Bool, false, not, ◌&&◌, ◌||◌, List, [], ◌∷◌, ◌++◌, map, length, take, drop, leb, ltb, eqb, Result, Ok, Err}
pub use Rattle.outcome.specs.Notation.{when◌then◌else◌, AtMostOne}
pub use Rattle.outcome.specs.Outcome.{Outcome, Word, SW, Gives, word_of, missing_at, surplus_at, wrong_length}
pub use Rattle.octets.specs.Bytes.{AreBytes, byte, pair_at}
pub use Rattle.apdu_stated.specs.declared.ApduHeader.{ApduHeader}
pub use Rattle.apdu_stated.specs.declared.Case.{Case}
pub use Rattle.apdu_stated.specs.declared.Case.TheVariants.{Instruction, Le1, Lc1Data, Lc1DataLe1, Lc3Data, Lc3DataLe2, Le3}
pub use Rattle.apdu_stated.specs.Words.{shape_no}
pub use Rattle.apdu_stated.specs.Answers.{Says, Reading, reading_of}
pub use Rattle.apdu_stated.specs.Terms.{saying}
pub use Rattle.outcome.specs.declared.ApduStatusCode.{ApduStatusCode}
pub use Rattle.apdu_stated.specs.declared.Entry.{Entry}
pub use Rattle.apdu_stated.specs.declared.Entry.TheVariants.{Ordinary, Strict}
pub use Rattle.apdu_stated.specs.Table.{le_read}
pub use Rattle.apdu_table_stated.specs.declared.Row.{Row}
pub use Rattle.apdu_table_stated.specs.declared.NoRow.{NoRow}
pub use Rattle.apdu_table_stated.specs.declared.NoRow.TheVariants.{UnderFour, Early, Beyond}

-- what comes of trying a table's rows on a frame: the row that fits, or why none does
abbrev pub Tried : Type 0
Tried = Result Row NoRow
