-- The names that the definitions here are written with, brought together from the shared words and from the source's types.
pub use Rattle.std.specs.Prelude.{ℕ, zero, suc, ◌+◌, ◌^◌, ◌<◌, ◌≤◌, ◌≡◌, Bool, true, false, not, ◌&&◌, ◌||◌, ltb, leb, eqb}
pub use Rattle.outcome.specs.Notation.{when◌then◌else◌, AtMostOne}
pub use Rattle.outcome.specs.declared.Refusal.{Refusal}
pub use Rattle.outcome.specs.Outcome.{StatusWord, Outcome, R, Word, Gives, refusal_no}
pub use Rattle.std.specs.Prelude.{Option, None, Some, Result, Ok, Err}
pub use Rattle.u2f_up_stated.specs.declared.Presence.{Presence}
pub use Rattle.u2f_up_stated.specs.declared.PresenceRecord.{PresenceRecord}
pub use Rattle.u2f_up_stated.specs.declared.Finding.{Finding}

-- A window: the moment that it was opened at, or `None` where it is closed.
abbrev pub Window : Type 0
Window = Option ℕ

-- A record to go on with, or why there is none.
abbrev pub Ready : Type 0
Ready = Result Presence Refusal

-- What touch, check and ask answer.
abbrev pub Answer : Type 0
Answer = Result Bool Refusal
