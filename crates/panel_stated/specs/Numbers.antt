-- Document 01, 'Forms that change': "exported to it over plain numbers and byte slices". Which number stands for what: answers, records and sessions, shapes and
-- kinds. The hardware's answers are ctap1_stated's, which takes them as numbers.
use Rattle.panel_stated.specs.Words.{ℕ, suc, eqb, when◌then◌else◌, Outcome, R, Word, Gives, Session, SessionRecord}
use Rattle.panel_stated.specs.Words.{Instruction, Le1, Lc1Data, Lc1DataLe1, Lc3Data, Lc3DataLe2, Le3}
use Rattle.panel_stated.specs.Words.{Window, None, Some, Presence, PresenceRecord}
pub use Rattle.ctap1_stated.specs.Numbers.{allowed_of, attestation_of, is_yes, counter_of, hardware_of}
use Rattle.panel_stated.specs.Words.{OrderNumbers, Shaped, Kinded, DecisionGives, Body, Ordered, Part}
use Rattle.signing_stated.specs.declared.Kind.TheVariants.{Register, Authenticate}

-- ours: DECISIONS, one answer number: a refusal is its number, a status word is itself, and what was asked for comes with 9000
abbrev pub answer_no : {A : Type 0} → Outcome A → ℕ
answer_no (R n) = n
answer_no (Word s) = s.number
answer_no (Gives a) = 0x9000

-- the same for a decision, where an order is 0100 and GET RESPONSE's part 0200 (ours: so C0's part is told from a body that is still to be
-- cut): numbers of no refusal, no status word and no memory of zeros
abbrev pub decided_no : Outcome DecisionGives → ℕ
decided_no (R n) = n
decided_no (Word s) = s.number
decided_no (Gives (Body n)) = 0x9000
decided_no (Gives Ordered) = 0x0100
decided_no (Gives (Part n after)) = 0x0200

-- 02, E1: the kind and place of a 6700; ours: 0 and 0 beside every other answer
abbrev pub fault_no : {A : Type 0} → Outcome A → ℕ
fault_no (R n) = 0
fault_no (Word s) = s.kind
fault_no (Gives a) = 0

abbrev pub place_no : {A : Type 0} → Outcome A → ℕ
place_no (R n) = 0
place_no (Word s) = s.place
place_no (Gives a) = 0

-- the numbers of a record, and of a session, by name; what they stand for: `presence_in` (u2f_up_stated's Numbers.antt), `session_in` (session_stated's Held.antt)
abbrev pub window_no : Window → ℕ
window_no None = 0
window_no (Some m) = suc m

abbrev pub presence_numbers : Presence → PresenceRecord
presence_numbers p = record { w = p.w; prompt = window_no p.prompt; touch = window_no p.touch; last = p.last; asker = p.asker }

abbrev pub session_numbers : Session → SessionRecord
session_numbers s = record { place = s.remainder.place; count = s.remainder.count; limit = s.limit }

-- 01, 'Eight frame shapes', the column "no"; ours: a shape number outside 1..8 is R5; 02, E13: shape 6 is retired, "the writer
-- R5", and the others keep their numbers
unfoldable pub shape_of : ℕ → Shaped
shape_of n =
    when eqb n 1 then Some Instruction
    else when eqb n 2 then Some Le1
    else when eqb n 3 then Some Lc1Data
    else when eqb n 4 then Some Lc1DataLe1
    else when eqb n 5 then Some Lc3Data
    else when eqb n 7 then Some Lc3DataLe2
    else when eqb n 8 then Some Le3
    else None

-- an order's kind, by the INS of its command
unfoldable pub kind_of : ℕ → Kinded
kind_of n =
    when eqb n 1 then Some Register
    else when eqb n 2 then Some Authenticate
    else None

-- where there is no order
abbrev pub no_order : OrderNumbers
no_order = record { kind = 0; to_sign = 0; certificate_length = 0 }
