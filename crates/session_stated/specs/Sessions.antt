-- A session with a reader: a first part, and then decisions on frames that ask for the next one. Each takes the remainder that the last one left,
-- and the reply buffer holds the body all the while. Of any decision, and any body. Whatever else is lent may differ from visit to visit:
-- record, moment, side (a remainder belongs to none: ours), hardware, the buffer for part and status.
use Rattle.std.specs.Prelude.{ℕ, ◌+◌, ◌≤◌, ◌≡◌, List, [], ◌∷◌, ◌++◌, length, take}
use Rattle.outcome.specs.Outcome.{Outcome, R, Word, Gives}
use Rattle.command_stated.specs.Command.{GetResponse}
use Rattle.response_stated.specs.Responses.{response_body_of}
use Rattle.response_stated.specs.declared.Remainder.{Remainder}
use Rattle.u2f_up_stated.specs.declared.Presence.{Presence}
use Rattle.u2f_up_stated.specs.Terms.{NotRefused}
use Rattle.ctap1_stated.specs.Words.{Inputs, DecisionGives, Body, Ordered, Part, DecisionResult}
use Rattle.ctap1_stated.specs.Terms.{Decider, HasInsC0, Comes}

-- a frame that is decided, and all that is lent with it; of `lent` neither the two rooms nor the remainder are looked at
pub record Visit : Type 0 where
  pub presence : Presence
  pub moment : ℕ
  pub lent : Inputs
  pub buffer : List ℕ  -- what the buffer for part and status holds

-- what is lent in a visit, where this remains of this body
abbrev pub lent_in : (body : List ℕ) → Remainder → Visit → Inputs
lent_in body r v =
    record {
      side = v.lent.side;
      frame = v.lent.frame;
      hardware = v.lent.hardware;
      new_handle = v.lent.new_handle;
      certificate = v.lent.certificate;
      x = v.lent.x;
      y = v.lent.y;
      room = length body;
      remainder = r;
      part_room = length v.buffer;
    }

-- the response that goes out with a part, at the buffer's front; nothing with any other answer
abbrev pub sent_with : Outcome DecisionGives → (after : List ℕ) → List ℕ
sent_with (R n) after = []
sent_with (Word w) after = []
sent_with (Gives (Body n)) after = []
sent_with (Gives Ordered) after = []
sent_with (Gives (Part n left)) after = take n after

abbrev pub part_count : Outcome DecisionGives → ℕ
part_count (R n) = 0
part_count (Word w) = 0
part_count (Gives (Body n)) = 0
part_count (Gives Ordered) = 0
part_count (Gives (Part n left)) = 1

-- what is left to fetch, and what the buffer for part and status holds, after a decision
abbrev pub Leaver : Type 0
Leaver = Inputs → DecisionResult → Remainder

abbrev pub PartWriter : Type 0
PartWriter = Inputs → DecisionResult → (body old : List ℕ) → List ℕ

module _ (decide : Decider) (left : Leaver) (write : PartWriter) (body : List ℕ) where
  -- one visit: its result, the response that goes out, what is left
  abbrev pub decided_in : Remainder → Visit → DecisionResult
  decided_in r v = decide v.presence v.moment (lent_in body r v)

  abbrev pub sent_in : Remainder → Visit → List ℕ
  sent_in r v = sent_with (decided_in r v).answer (write (lent_in body r v) (decided_in r v) body v.buffer)

  abbrev pub left_in : Remainder → Visit → Remainder
  left_in r v = left (lent_in body r v) (decided_in r v)

  -- all visits, one after the other: the bodies of the responses, joined; what is left; how many parts went out
  abbrev pub joined_over : Remainder → List Visit → List ℕ
  joined_over r [] = []
  joined_over r (v ∷ visits) = response_body_of (sent_in r v) ++ joined_over (left_in r v) visits

  abbrev pub left_over : Remainder → List Visit → Remainder
  left_over r [] = r
  left_over r (v ∷ visits) = left_over (left_in r v) visits

  abbrev pub parts_over : Remainder → List Visit → ℕ
  parts_over r [] = 0
  parts_over r (v ∷ visits) = part_count (decided_in r v).answer + parts_over (left_in r v) visits

-- each of the visits is so
pub data Each (P : Visit → Type 0) : List Visit → Type 0 where
  none : Each P []
  also : {v : Visit} {visits : List Visit} → P v → Each P visits → Each P (v ∷ visits)

-- a shaped C0, whatever it is answered
abbrev pub IsFetch : Visit → Type 0
IsFetch v = HasInsC0 v.lent

-- a C0 that nothing stands against, that takes L bytes at a time, and with room for them
abbrev pub Serves : (limit : List ℕ → ℕ) → (L : ℕ) → Visit → Type 0
Serves limit L v = NotRefused v.presence v.lent.side v.moment × Comes v.lent GetResponse × (limit v.lent.frame ≡ L) × (L + 2 ≤ length v.buffer)
