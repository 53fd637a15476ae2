-- A body in parts, as C sends it: the first by brinecandle_next_part, each further one by brinecandle_decide on a GET RESPONSE, lent a session with what the last one left.
-- The body stands in the reply buffer; whatever else is lent may differ from call to call. Lists run from left to right.
mod Words
use Words.*

-- all that is lent, with this body in the reply buffer and this remainder of it (`lending presence session reply i`: i with these in place of its own)
abbrev pub fetching : (body : List ℕ) → Remainder → ToDecide → ToDecide
fetching body r i = lending i.presence (record { place = r.place; count = r.count; limit = (session_in i.session).limit }) body i

-- a frame with INS C0 that brinecandle_read takes, whatever else it says and whatever it is answered
abbrev pub IsC0 : Panel → ToDecide → Type 0
IsC0 P i = ((P.read i.frame).answer ≡ 0x9000) × ((P.read i.frame).ins ≡ 0xC0)

-- one that brinecandle_read_command takes, too (CLA, P1, P2 and Lc are 0), where CTAP1 is allowed
abbrev pub IsGetResponse : Panel → ToDecide → Type 0
IsGetResponse P i = ((P.read_command i.frame).answer ≡ 0x9000) × ((P.read_command i.frame).command ≡ 0xC0) × (i.hardware.allowed ≡ 1)

-- one that nothing stands against, where n bytes or fewer remain
pub record Unhindered (P : Panel) (n : ℕ) (i : ToDecide) : Type 0 where
  pub get_response : IsGetResponse P i
  pub window : (1 ≤ (presence_in i.presence).w) × ((presence_in i.presence).w ≤ 60000)  -- not R6
  pub sides : (i.side ≤ 1) × ((presence_in i.presence).asker ≤ 1)  -- nor R8
  pub moments : ((presence_in i.presence).last ≤ i.moment) × (i.moment < 2 ^ 48)  -- nor R1
  -- nor R2: as much room for part and status as a response of n bytes to this frame can take
  pub room : ((P.response_room i.frame n).answer ≡ 0x9000) × ((P.response_room i.frame n).length ≤ length i.part)

-- what C sends first of the body that finishing gave
abbrev pub first_part_of : Panel → ToDecide → ToFinish → (part : List ℕ) → AfterPart
first_part_of P i f part = P.next_part (record { place = 0; count = (P.finish f).said.length; limit = (session_in (P.decide i).session).limit }) (P.finish f).buffer part

-- each of them is so
pub data Each (Is : ToDecide → Type 0) : List ToDecide → Type 0 where
  none : Each Is []
  also : {i : ToDecide} {rest : List ToDecide} → Is i → Each Is rest → Each Is (i ∷ rest)

-- the bytes of the body that go out with a call: the response at the buffer's front, without its status; only where the answer is 0200, a part, or, for the
-- first part, 9000
abbrev pub bytes_of : AfterDeciding → List ℕ
bytes_of d = when eqb d.said.answer 0x0200 then response_body_of (take d.said.length d.part) else []

abbrev pub first_bytes : AfterPart → List ℕ
first_bytes p = when eqb p.said.answer 0x9000 then response_body_of (take p.said.length p.part) else []

module _ (P : Panel) (body : List ℕ) where
  -- one GET RESPONSE
  abbrev pub fetch : Remainder → ToDecide → AfterDeciding
  fetch r i = P.decide (fetching body r i)

  -- one after the other: what went out, joined; what is left
  unfoldable pub fetched : Remainder → List ToDecide → List ℕ
  fetched r [] = []
  fetched r (i ∷ later) = bytes_of (fetch r i) ++ fetched (remainder_in (fetch r i).session) later

  unfoldable pub left_after : Remainder → List ToDecide → Remainder
  left_after r [] = r
  left_after r (i ∷ later) = left_after (remainder_in (fetch r i).session) later
