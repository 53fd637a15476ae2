-- Calls as C makes them: from brinecandle_new on, each lent the record, five numbers, as the last one left it; and what C sees of each: the answer's
-- number, `yes`, the record. Lists are NEWEST FIRST.
mod Words
use Words.*

-- what is lent to a decision, with the record in hand
abbrev pub on : (presence : PresenceRecord) → ToDecide → ToDecide
on n i = lending n i.session i.reply i

-- a call on the record in hand
pub data CCall : Type 0 where
  Touch : (t : ℕ) → CCall  -- brinecandle_grant_up (record, t)
  Check : (side t : ℕ) → CCall  -- brinecandle_consume_up (record, side, t)
  Ask : (t : ℕ) → CCall  -- brinecandle_is_up_needed (record, t)
  Decide : ToDecide → CCall  -- brinecandle_decide; the record in it is not looked at

-- what a call is in a history: touch, check of a side, ask; a decision reaches the touch check or is answered without it, by what is lent alone
-- (ctap1_stated's specs/Path.antt, `role_of`, of what the numbers stand for, `inputs_in`: no line of either looks at the record)
abbrev pub as_call : CCall → Call
as_call (Touch t) = record { role = Touching; moment = t }
as_call (Check s t) = record { role = Checking s; moment = t }
as_call (Ask t) = record { role = Asking; moment = t }
as_call (Decide i) = record { role = role_of (inputs_in i); moment = i.moment }

-- what C sees of touch, check and ask: a number up to 8 is a refusal, 9000 is done, and `yes` says the rest (`came_of_given`, Runs.antt: the role's case for yes
-- or no)
abbrev pub came_of_yes : Role → (answer : ℕ) (yes : Bool) → Came
came_of_yes role answer said =
    when leb answer last_refusal then RefusedBy answer
    else when eqb answer 0x9000 then came_of_given role said
    else AnsweredBefore

-- and of a decision: where it reached the touch check, 6985 is 'no touch found', and any other answer has spent one
abbrev pub came_of_answer : Role → (answer : ℕ) → Came
came_of_answer role answer =
    when leb answer last_refusal then RefusedBy answer
    else came_of_given role (not (eqb answer 0x6985))

-- a decision reaches the touch check, R6, R8 and R1 apart: CTAP1 is allowed, and the frame is a Register with room for its reply, or an Authenticate with P1
-- 03, a good handle and room
abbrev pub Reaches : Panel → ToDecide → Type 0
Reaches P i =
    (i.hardware.allowed ≡ 1) × ((P.read_command i.frame).answer ≡ 0x9000)
    × ((((P.read_command i.frame).command ≡ 1) × (139 + length i.new_handle + length i.certificate ≤ length i.reply))
    ⊎ (((P.read_command i.frame).command ≡ 2) × ((P.read_command i.frame).p1 ≡ 0x03) × (i.hardware.good ≡ 1) × (77 ≤ length i.reply)))

-- of a record's numbers, the touch window's, 0 closed and m + 1 opened at m, and the asker's
abbrev pub touch_number : (presence : PresenceRecord) → ℕ
touch_number n = n.touch

abbrev pub asker_number : (presence : PresenceRecord) → ℕ
asker_number n = n.asker

module _ (P : Panel) where
  -- the record after one more call, and what C saw of it; an ask is lent the record to be read: it stays
  abbrev pub record_by : (presence : PresenceRecord) → CCall → PresenceRecord
  record_by n (Touch t) = (P.grant_up n t).presence
  record_by n (Check s t) = (P.consume_up n s t).presence
  record_by n (Ask t) = n
  record_by n (Decide i) = (P.decide (on n i)).presence

  abbrev pub came_by : (presence : PresenceRecord) → CCall → Came
  came_by n (Touch t) = came_of_yes Touching (P.grant_up n t).said.answer (P.grant_up n t).said.yes
  came_by n (Check s t) = came_of_yes (Checking s) (P.consume_up n s t).said.answer (P.consume_up n s t).said.yes
  came_by n (Ask t) = came_of_yes Asking (P.is_up_needed n t).answer (P.is_up_needed n t).yes
  came_by n (Decide i) = came_of_answer (role_of (inputs_in i)) (P.decide (on n i)).said.answer

  -- from `brinecandle_new w` on, over whatever the numbers were
  module _ (old : PresenceRecord) (w : ℕ) where
    -- the record in hand after the calls
    unfoldable pub record_after : List CCall → PresenceRecord
    record_after [] = (P.new old w).presence
    record_after (c ∷ earlier) = record_by (record_after earlier) c

    -- what comes of one more call
    unfoldable pub came_next : List CCall → CCall → Came
    came_next earlier c = came_by (record_after earlier) c

    -- the history of the calls
    unfoldable pub history_of : List CCall → List Event
    history_of [] = []
    history_of (c ∷ earlier) = record { call = as_call c; came = came_next earlier c } ∷ history_of earlier
