-- The types that src/lib.rt declares, and their cases, under one name; and an order as its head and its block.
use Rattle.std.specs.Prelude.{ℕ, List}
pub use Rattle.signing_stated.specs.declared.Kind.{Kind}
pub use Rattle.signing_stated.specs.declared.Kind.TheVariants.{Register, Authenticate}
pub use Rattle.signing_stated.specs.declared.Head.{Head}
pub use Rattle.std.specs.Prelude.{Result, Ok, Err}
pub use Rattle.outcome.specs.declared.NotDone.{NotDone}
pub use Rattle.outcome.specs.declared.NotDone.TheVariants.{Refused, Status}
pub use Rattle.signing_stated.specs.Replies.{Order}

-- what finishing comes to: a body of so many bytes at the front of the reply buffer, or why there is none
abbrev pub Finished : Type 0
Finished = Result ℕ NotDone

-- an order is its head and its block: the block is lent beside the head
abbrev pub head_of : Order → Head
head_of o = record { kind = o.kind; to_sign = o.to_sign; certificate_length = o.certificate_length }

abbrev pub order_with : Head → List ℕ → Order
order_with h block = record { kind = h.kind; to_sign = h.to_sign; certificate_length = h.certificate_length; bytes = block }
