-- The notation that the other files of specs/ are written in, and the words that they take from apdu_stated and apdu_table_stated.
pub use Rattle.std.specs.Prelude.{ℕ, ◌+◌, ◌≤◌, ◌<◌, ◌≡◌, Bool, true, false, not, ◌&&◌, List, [], ◌∷◌, ◌++◌, length, take, drop, ltb, eqb, Result, Ok, Err}
pub use Rattle.outcome.specs.Notation.{when◌then◌else◌, AtMostOne}
pub use Rattle.outcome.specs.Outcome.{StatusWord, Outcome, R, Word, Gives, word_of, refusal_no, wrong_length}
pub use Rattle.outcome.specs.declared.ApduStatusCode.{ApduStatusCode}
pub use Rattle.outcome.specs.declared.Refusal.{Refusal}
pub use Rattle.outcome.specs.declared.NotDone.{NotDone}
pub use Rattle.outcome.specs.declared.NotDone.TheVariants.{Refused, Status}
pub use Rattle.outcome.specs.NotDone.{not_done_of}
pub use Rattle.octets.specs.Bytes.{AreBytes, byte, pair_at, laid}
pub use Rattle.apdu_stated.specs.declared.ApduHeader.{ApduHeader}
pub use Rattle.apdu_stated.specs.declared.Case.{Case}
pub use Rattle.apdu_stated.specs.declared.Case.TheVariants.{Lc3DataLe2, Le3}
pub use Rattle.apdu_stated.specs.Answers.{Says}
pub use Rattle.apdu_stated.specs.Reading.{read_of, strict_of, data_of}
pub use Rattle.apdu_stated.specs.Writing.{Parts, parts_of, frame_of, writing_of}
pub use Rattle.apdu_stated.specs.Terms.{IsPair, OneByteLe, frame_with, InTable, IsFrameOf, OldForm}
pub use Rattle.apdu_table_stated.specs.declared.Row.{Row}
pub use Rattle.apdu_table_stated.specs.Rows.{numbered}
pub use Rattle.apdu_table_stated.specs.Answers.{read_by_rows}

-- what a conversion comes to: the length of what was written, or why nothing was
abbrev pub Converted : Type 0
Converted = Result ℕ NotDone
