-- What a decision is lent, and what it comes to. Document 01, 'The decision'; document 02, E2 and E7.
mod Words
use Words.*

-- "Lent in: frame, moment, whether CTAP1 is allowed .., reply buffer, and the hardware's answers": all of it but the moment, which stands
-- apart with the record; and "every decision .. names its side"
pub record Inputs : Type 0 where
  pub side : ℕ
  pub frame : List ℕ
  pub hardware : Hardware  -- allowed: Yes, No, Failed; stored (the new handle); attestation: Present, Missing, Failed; good (the given handle); counter: Some n, or None where its reading failed
  pub new_handle : List ℕ
  pub certificate : List ℕ
  pub x : List ℕ  -- the new public key's
  pub y : List ℕ
  pub room : ℕ  -- the reply buffer's length
  pub remainder : Remainder  -- what of the body in that buffer is still to be fetched: its place and count; `rest 0 0` is nothing
  pub part_room : ℕ  -- the length of the buffer for part and status, lent apart

-- what a decision comes to that is not refused and gives no status word: a body of n bytes, with 9000; an order; or the next part of an
-- earlier body, which is a response already: its length, and what remains after it
pub data DecisionGives : Type 0 where
  Body : ℕ → DecisionGives
  Ordered : DecisionGives
  Part : ℕ → Remainder → DecisionGives

-- the answer, the record afterwards, the order, whether the counter was taken
pub record DecisionResult : Type 0 where
  pub answer : Outcome DecisionGives
  pub presence : Presence
  pub order : Order
  pub taken : Bool

-- what decides: of the record, the moment and all that is lent
abbrev pub Decider : Type 0
Decider = Presence → ℕ → Inputs → DecisionResult
