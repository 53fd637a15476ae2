-- What ends a call that can end in both ways without its result, in document 01's numbers: a refusal, or a status word with its pair.
use Rattle.outcome.specs.Outcome.{Outcome, R, Word, word_of, refusal_no}
pub use Rattle.outcome.specs.declared.NotDone.{NotDone}
pub use Rattle.outcome.specs.declared.NotDone.TheVariants.{Refused, Status}

abbrev pub not_done_of : {A : Type 0} → NotDone → Outcome A
not_done_of (Refused why) = R (refusal_no why)
not_done_of (Status status) = Word (word_of status)
