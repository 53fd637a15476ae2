-- ONE THEOREM ON TOP, `OnTop`, of any panel P, that is any seventeen functions that C could link (Panel.antt): if each meets the contract of its export at every input,
-- then over any calls that C makes (Calls.antt, Sessions.antt) P meets the demands, last in this file. A history's words (Mark, held_at, server_of) are History.antt's. Calls: NEWEST FIRST.
mod Words
use Words.*

-- ---- demand 3 (Demand.antt), after the calls from `brinecandle_new w` on, over whatever the numbers were, of what C sees. In C's record a touch window is a number: 0
-- closed, m + 1 opened at m
abbrev pub Demand3 : (P : Panel) (old : PresenceRecord) (w : ℕ) → List CCall → Type 0
Demand3 P old w calls =
    RunMeets w as_call calls (history_of P old w calls) (came_next P old w calls) (λ earlier m. touch_number (record_after P old w earlier) ≡ m + 1) (asker_number (record_after P old w calls))

-- ---- the sentence on the box: no order that says a person was there without a touch of its own, of its own side

-- such an order: answer 0100, and a Register, or an Authenticate whose presence byte (block[32]) is 01
abbrev pub OrdersPresent : AfterDeciding → Type 0
OrdersPresent r = (r.said.answer ≡ 0x0100) × ((r.said.order.kind ≡ 1) ⊎ ((r.said.order.kind ≡ 2) × (byte r.block 32 ≡ 0x01)))

module _ (P : Panel) (old : PresenceRecord) (w : ℕ) where
  -- the next call is a decision, and gives such an order
  abbrev pub OrdersNext : (earlier : List CCall) → ToDecide → Type 0
  OrdersNext earlier i = OrdersPresent (P.decide (on (record_after P old w earlier) i))

  -- the touch that a call after these is served by, if it spends one
  abbrev pub ServedBy : (earlier : List CCall) → Mark → Type 0
  ServedBy earlier k = server_of w (history_of P old w earlier) ≡ some k

  pub record OrdersHaveTheirTouch : Type 0 where
    -- it has a touch: the latest accepted one, the only one held, and of the side that the decision names
    pub own : (earlier : List CCall) (i : ToDecide) → OrdersNext earlier i
        → (k : Mark) × ServedBy earlier k × (held_at w (history_of P old w earlier) i.moment ≡ k ∷ []) × (k.side ≡ i.side)
    -- and no later order has the same
    pub apart : (earlier later : List CCall) (i j : ToDecide) (k l : Mark)
        → OrdersNext earlier i → ServedBy earlier k
        → OrdersNext (later ++ Decide i ∷ earlier) j → ServedBy (later ++ Decide i ∷ earlier) l
        → k.number ≡ l.number → ⊥

-- ---- a body fetched by GET RESPONSEs, at any mixture of Le
pub record BodiesAreFetched (P : Panel) : Type 0 where
  -- a body of n bytes, a first part at any limit, any GET RESPONSEs, refused or not: what went out, joined and followed by what is left, is the body
  pub so_far : (body buffer : List ℕ) (n limit : ℕ) (fetches : List ToDecide) → n ≤ length body → Each (IsC0 P) fetches
      → first_bytes (P.next_part (record { place = 0; count = n; limit = limit }) body buffer)
      ++ (fetched P body (remainder_in (P.next_part (record { place = 0; count = n; limit = limit }) body buffer).session) fetches
      ++ remaining body (left_after P body (remainder_in (P.next_part (record { place = 0; count = n; limit = limit }) body buffer).session) fetches))
      ≡ take n body
  -- one that is not refused and finds something left takes at least one byte of it, and leaves the rest
  pub takes : (body : List ℕ) (r : Remainder) (i : ToDecide) → IsGetResponse P i → 0 < r.count → last_refusal < (fetch P body r i).said.answer
      → ((fetch P body r i).said.answer ≡ 0x0200)
      × (1 ≤ length (bytes_of (fetch P body r i)))
      × (length (bytes_of (fetch P body r i)) + (remainder_in (fetch P body r i).session).count ≡ r.count)
  -- after as many unhindered ones as bytes remained, nothing is left, and what went out is all that remained
  pub enough : (body : List ℕ) (r : Remainder) (fetches : List ToDecide) → r.place + r.count ≤ length body
      → Each (Unhindered P r.count) fetches → r.count ≤ length fetches
      → ((left_after P body r fetches).count ≡ 0) × (fetched P body r fetches ≡ remaining body r)

-- ---- an order, and what is lent to finish it: with x and y of 32 bytes, its block, a certificate of its length, no less room and a signature of at most 72 bytes
pub record ToFinishOf (P : Panel) (i : ToDecide) (f : ToFinish) : Type 0 where
  pub blocks : (length i.x ≡ 32) × (length i.y ≡ 32)
  pub ordered : (P.decide i).said.answer ≡ 0x0100
  pub order : f.order ≡ (P.decide i).said.order
  pub block : f.block ≡ (P.decide i).block
  pub certificate : length f.certificate ≡ f.order.certificate_length
  pub reply : length i.reply ≤ length f.reply
  pub signature : length f.signature ≤ 72

-- it is finished: where the signer signed, it gets 9000
abbrev pub OrdersAreFinished : Panel → Type 0
OrdersAreFinished P = (i : ToDecide) (f : ToFinish) → ToFinishOf P i f → f.signed ≡ 1 → (P.finish f).said.answer ≡ 0x9000

-- ---- NO TOUCH IS LOST TO A LENGTH, once there is an order (a new handle above 255 bytes gives none). Where the response's room was asked for, of this frame and of the
-- longest body of its command, and the decision then gave an order: finishing it, so lent, and responding in that room by the limit that it left, are no refusal. The host
-- gets the body's first part (`Goes limit n k`: of n bytes k go out at once, as many as the limit lets), or 6f00 where the signer failed
abbrev pub LongestBody : Panel → ToDecide → (longest : ℕ) → Type 0
LongestBody P i longest =
    (((P.read_command i.frame).command ≡ 1) × (longest ≡ 139 + length i.new_handle + length i.certificate))
    ⊎ (((P.read_command i.frame).command ≡ 2) × (longest ≡ 77))

pub record NoTouchIsLost (P : Panel) : Type 0 where
  pub served : (i : ToDecide) (f : ToFinish) (part : List ℕ) (longest : ℕ) → ToFinishOf P i f → LongestBody P i longest
      → (P.response_room i.frame longest).answer ≡ 0x9000 → (P.response_room i.frame longest).length ≤ length part
      → f.signed ≡ 1
      → ((P.finish f).said.answer ≡ 0x9000)
      × ((first_part_of P i f part).said.answer ≡ 0x9000)
      × ((n : ℕ) × Goes (session_in (P.decide i).session).limit (P.finish f).said.length n × (first_bytes (first_part_of P i f part) ≡ take n (P.finish f).buffer))
  -- a signature of 72 bytes comes to that body: less could not have been asked for
  pub longest : (i : ToDecide) (f : ToFinish) (longest : ℕ) → ToFinishOf P i f → LongestBody P i longest → f.signed ≡ 1 → length f.signature ≡ 72
      → (P.finish f).said.length ≡ longest
  pub failed : (i : ToDecide) (f : ToFinish) (part : List ℕ) (longest : ℕ) → ToFinishOf P i f → LongestBody P i longest
      → (P.response_room i.frame longest).answer ≡ 0x9000 → (P.response_room i.frame longest).length ≤ length part
      → (f.signed ≡ 1 → ⊥)
      → ((P.finish f).said.answer ≡ 0x6f00) × ((P.write_response [] 0x6f00 part).said.answer ≡ 0x9000)

-- ---- all demands on a panel
pub record Demands (P : Panel) : Type 0 where
  -- a record is made for W from 1 to 60,000, and for no other
  pub makes : (old : PresenceRecord) (w : ℕ) → ((P.new old w).said ≡ 0x9000) ↔ ((1 ≤ w) × (w ≤ 60000))
  -- which decisions reach the touch check, in C's numbers
  pub reaches : (i : ToDecide) → ((as_call (Decide i)).role ≡ Checking i.side) ↔ Reaches P i
  -- and then, whatever is called, in any order
  pub touches : (old : PresenceRecord) (w : ℕ) → (P.new old w).said ≡ 0x9000 → (calls : List CCall) → Demand3 P old w calls
  pub orders : (old : PresenceRecord) (w : ℕ) → (P.new old w).said ≡ 0x9000 → OrdersHaveTheirTouch P old w
  pub finished : OrdersAreFinished P
  pub none_lost : NoTouchIsLost P
  pub carried : NoneCarriesOver P  -- Carried.antt
  pub room : DataSheet P  -- 02, E10: a reply buffer of c + 394 bytes serves a certificate of c, and none shorter (Room.antt)
  pub bodies : BodiesAreFetched P
  -- each call by itself: Answers.antt. That every input is answered: P is a function
  pub answers : CallsAnswer P

-- THE THEOREM, proved in proofs/Theorems.antt
abbrev pub OnTop : Type 0
OnTop = (P : Panel) → Meets P → Demands P
