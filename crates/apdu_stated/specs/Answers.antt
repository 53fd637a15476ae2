-- What each answer says, in the documents' numbers: a reading's, and a writing's.
use Rattle.std.specs.Prelude.{ℕ, ◌+◌, Result, Ok, Err}
use Rattle.outcome.specs.Outcome.{Outcome, R, Word, Gives, word_of, refusal_no}
use Rattle.outcome.specs.declared.ApduStatusCode.{ApduStatusCode}
use Rattle.outcome.specs.declared.Refusal.{Refusal}
use Rattle.apdu_stated.specs.Words.{shape_no}
use Rattle.apdu_stated.specs.Table.{lc_field}
pub use Rattle.apdu_stated.specs.InTable.{Says}
pub use Rattle.apdu_stated.specs.declared.Apdu.{Apdu}
pub use Rattle.apdu_stated.specs.declared.Place.{Place}

abbrev pub says_of : Apdu → Says
says_of a = record { header = a.header; shape = shape_no a.shape; data_at = 4 + lc_field a.shape; lc = a.lc; le = a.le }

-- the types of both: what the frame says, or a status word; and the frame's length, or a refusal
abbrev pub Reading : Type 0
Reading = Result Apdu ApduStatusCode

abbrev pub Written : Type 0
Written = Result ℕ Refusal

-- what a reading answers: what the frame says, or a status word with its pair
abbrev pub reading_of : Reading → Outcome Says
reading_of (Ok a) = Gives (says_of a)
reading_of (Err s) = Word (word_of s)

-- what a writing answers: the frame's length, or a refusal
abbrev pub written_of : Written → Outcome ℕ
written_of (Err r) = R (refusal_no r)
written_of (Ok n) = Gives n
