-- ROOM, FOR THE DATA SHEET: document 02, E10, of the reply buffer, and (ours) of the buffer for part and status. Of any panel that meets the contracts; R2 is answer 2.
-- docs/DATASHEET.md says it in words, and for some lengths in numbers (datasheet_stated).
use Rattle.std.specs.Prelude.{ℕ, ◌+◌, ◌-◌, ◌<◌, ◌≤◌, ◌≡◌, ◌↔◌, ◌⊎◌, List, ◌∷◌, eqb, leb, length, replicate}
use Rattle.outcome.specs.Notation.{when◌then◌else◌}
use Rattle.outcome.specs.Outcome.{last_refusal}
use Rattle.octets.specs.Bytes.{AreBytes}
use Rattle.session_stated.specs.Held.{remainder_in, session_in}
use Rattle.session_stated.specs.declared.SessionRecord.{SessionRecord}
use Rattle.panel_stated.specs.declared.FrameSaid.{FrameSaid}
use Rattle.panel_stated.specs.Exports.{ToDecide, ToFinish}
use Rattle.datasheet_stated.specs.declared.Figures.{Figures}
use Rattle.datasheet_stated.specs.Words.{Sheet}
use Rattle.std.specs.Prelude.{Ok}
use Rattle.datasheet_stated.specs.Sheet.{sheet_of}
use Rattle.demands.specs.Panel.{Panel}
use Rattle.demands.specs.Sessions.{first_part_of}

-- ---- the reply buffer

-- "For every reply buffer of n bytes .. a certificate of at most n - 394 bytes (630 for our 1,024) and a handle of at most 255". `beside` is 394, 139 + 255: what the buffer
-- has beside the certificate; so n is at least 394
pub record Fits (beside n : ℕ) (i : ToDecide) : Type 0 where
  pub reply : length i.reply ≡ n
  pub certificate : length i.certificate + beside ≤ n
  pub handle : length i.new_handle ≤ 255

-- "the finish of its order": in as many bytes or more, with any certificate, any signature and any answer of the signer's
pub record FinishesIn (P : Panel) (n : ℕ) (i : ToDecide) (f : ToFinish) : Type 0 where
  pub ordered : (P.decide i).said.answer ≡ 0x0100
  pub order : f.order ≡ (P.decide i).said.order
  pub block : f.block ≡ (P.decide i).block
  pub reply : n ≤ length f.reply

-- The line itself, for every n and whatever else is lent: "the decision and the finish of its order never give Register or Authenticate R2 for the reply buffer, and no
-- body is longer than n". The other bodies are Version's, which a decision gives
pub record ReplyServes (beside : ℕ) (P : Panel) : Type 0 where
  pub register : (n : ℕ) (i : ToDecide) → Fits beside n i → (P.read_command i.frame).command ≡ 1 → (P.decide i).said.answer ≡ 2 → ⊥
  pub authenticate : (n : ℕ) (i : ToDecide) → Fits beside n i → (P.read_command i.frame).command ≡ 2 → (P.decide i).said.answer ≡ 2 → ⊥
  pub finish : (n : ℕ) (i : ToDecide) (f : ToFinish) → Fits beside n i → FinishesIn P n i f → (P.finish f).said.answer ≡ 2 → ⊥
  pub body : (n : ℕ) (i : ToDecide) (f : ToFinish) → Fits beside n i → FinishesIn P n i f → (P.finish f).said.length ≤ n
  pub version : (n : ℕ) (i : ToDecide) → Fits beside n i → (P.decide i).said.answer ≡ 0x9000 → (P.decide i).said.length ≤ n

-- an enrolment in n bytes, with a handle of h and a certificate of c bytes, on a record with a live touch: nothing stands against it but, where it is missing, the room
abbrev pub enrolling : (n h c : ℕ) → ToDecide
enrolling n h c =
    record {
      presence = record { w = 1000; prompt = 0; touch = 1; last = 0; asker = 0 };
      session = record { place = 0; count = 0; limit = 0 };
      frame = 0x00 ∷ 0x01 ∷ 0x00 ∷ 0x00 ∷ 64 ∷ replicate 64 0xA1;
      side = 0;
      moment = 0;
      hardware = record { allowed = 1; attestation = 1; stored = 1; good = 1; counted = 1; counter = 7 };
      new_handle = replicate h 0xB1;
      certificate = replicate c 0xC1;
      x = replicate 32 0xD1;
      y = replicate 32 0xE1;
      reply = replicate n 0;
      block = replicate 385 0;
      part = replicate 258 0;
    }

-- "For each such n show a certificate one byte longer that is refused at handle length 255"; ours: 393 too, where it is the empty one
abbrev pub RefusedAt : (h : ℕ) → Panel → Type 0
RefusedAt h P = (n : ℕ) → 393 ≤ n → (P.decide (enrolling n h (n - 393))).said.answer ≡ 2

pub record NoMoreFits (P : Panel) : Type 0 where
  pub refused : RefusedAt 255 P
  -- it passes every check before its room, and after: with a byte less of certificate, or of handle, there is an order
  pub fits : (n : ℕ) → 394 ≤ n → (P.decide (enrolling n 255 (n - 394))).said.answer ≡ 0x0100
  pub at_254 : (n : ℕ) → 393 ≤ n → (P.decide (enrolling n 254 (n - 393))).said.answer ≡ 0x0100
  -- so no number under 394 would do
  pub least : (beside : ℕ) → ReplyServes beside P → 394 ≤ beside
  -- "630 for our 1,024"
  pub of_1024 : ((P.decide (enrolling 1024 255 630)).said.answer ≡ 0x0100) × ((P.decide (enrolling 1024 255 631)).said.answer ≡ 2)
  -- 393 bytes serve no certificate, not even an empty one
  pub of_393 : (c : ℕ) → (P.decide (enrolling 393 255 c)).said.answer ≡ 2

-- ---- the buffer for part and status

-- in m bytes goes what a limit (0 is none) lets out of n at once, and its status
abbrev pub GoesIn : (m limit n : ℕ) → Type 0
GoesIn m limit n = (n + 2 ≤ m) ⊎ ((1 ≤ limit) × (limit + 2 ≤ m))

-- what a frame takes at a time, by what `brinecandle_read` says of it: Le in shapes 1 to 4, 256 where it is absent; 0, no limit, in an extended shape
abbrev pub takes : FrameSaid → ℕ
takes said =
    when leb said.shape 4 then (when eqb said.le 0 then 256 else said.le)
    else 0

pub record ResponsesServed (P : Panel) : Type 0 where
  -- no decision at all is R2, GET RESPONSE's among them, where n bytes serve it, what remains stands within them, and a part has its room: n + 2, in any shape
  pub decided : (n : ℕ) (i : ToDecide) → Fits 394 n i → (remainder_in i.session).place + (remainder_in i.session).count ≤ n
      → GoesIn (length i.part) (takes (P.read i.frame)) n → (P.decide i).said.answer ≡ 2 → ⊥
  -- nor, in that room, is the first part of what its order is finished to
  pub first : (n : ℕ) (i : ToDecide) (f : ToFinish) (part : List ℕ) → Fits 394 n i → FinishesIn P n i f
      → GoesIn (length part) (takes (P.read i.frame)) n → (first_part_of P i f part).said.answer ≡ 2 → ⊥
  -- a part of a body in its buffer is R2 exactly where it has not its room, by the session's limit, which after a decision is its frame's
  pub sent : (session : SessionRecord) (body part : List ℕ) → (remainder_in session).place + (remainder_in session).count ≤ length body
      → ((P.next_part session body part).said.answer ≡ 2) ↔ (GoesIn (length part) (session_in session).limit (remainder_in session).count → ⊥)
  pub limit : (i : ToDecide) → (P.read i.frame).answer ≡ 0x9000 → last_refusal < (P.decide i).said.answer → (session_in (P.decide i).session).limit ≡ takes (P.read i.frame)
  -- a body with any status, and a status word alone, is R2 exactly in fewer bytes than these
  pub written : (body : List ℕ) (status : ℕ) (part : List ℕ) → ((P.write_response body status part).said.answer ≡ 2) ↔ (length part < length body + 2)
  -- in shapes 1 to 4 258 bytes hold every part
  pub short : (frame : List ℕ) → AreBytes frame → (P.read frame).answer ≡ 0x9000 → (P.read frame).shape ≤ 4 → (n : ℕ) → GoesIn 258 (takes (P.read frame)) n
  -- for a reader that carries 256 bytes in all: in so many no first part to a short frame is R2, whatever the body, exactly where Le is given and at most 254
  pub in_256 : (i : ToDecide) → (P.read i.frame).answer ≡ 0x9000 → (P.read i.frame).shape ≤ 4 → last_refusal < (P.decide i).said.answer
      → ((body part : List ℕ) → length part ≡ 256 → (P.next_part (record { place = 0; count = length body; limit = (session_in (P.decide i).session).limit }) body part).said.answer ≡ 2 → ⊥)
      ↔ ((1 ≤ (P.read i.frame).le) × ((P.read i.frame).le ≤ 254))
  -- the call that says the room says the least that holds
  pub asked : (frame : List ℕ) (n m : ℕ) → (P.read frame).answer ≡ 0x9000 → (P.response_room frame n).answer ≡ 0x9000
      → ((P.response_room frame n).length ≤ m) ↔ GoesIn m (takes (P.read frame)) n

-- ---- the rows that are printed (datasheet_stated's `sheet_of`), each figure of the row f of a buffer, of whatever gives the rows
abbrev pub FitsRow : Figures → ToDecide → Type 0
FitsRow f i = (length i.reply ≡ f.room) × (length i.certificate ≤ f.certificate) × (length i.new_handle ≤ f.handle)

pub record RowsServe (row : ℕ → Sheet) (P : Panel) : Type 0 where
  pub own : (n : ℕ) (f : Figures) → row n ≡ Ok f → f.room ≡ n
  -- certificate and handle
  pub register : (n : ℕ) (f : Figures) (i : ToDecide) → row n ≡ Ok f → FitsRow f i → (P.read_command i.frame).command ≡ 1 → (P.decide i).said.answer ≡ 2 → ⊥
  pub authenticate : (n : ℕ) (f : Figures) (i : ToDecide) → row n ≡ Ok f → FitsRow f i → (P.read_command i.frame).command ≡ 2 → (P.decide i).said.answer ≡ 2 → ⊥
  -- the longest body
  pub body : (n : ℕ) (f : Figures) (i : ToDecide) (g : ToFinish) → row n ≡ Ok f → FitsRow f i → FinishesIn P f.room i g → (P.finish g).said.length ≤ f.body
  -- part and status, any frame and short frames
  pub extended : (n : ℕ) (f : Figures) (limit m : ℕ) → row n ≡ Ok f → m ≤ f.body → GoesIn f.extended limit m
  pub short : (n : ℕ) (f : Figures) (frame : List ℕ) (m : ℕ) → row n ≡ Ok f → AreBytes frame → (P.read frame).answer ≡ 0x9000 → (P.read frame).shape ≤ 4
      → GoesIn f.short (takes (P.read frame)) m
  -- the longest command
  pub command : (n : ℕ) (f : Figures) (frame : List ℕ) → row n ≡ Ok f → AreBytes frame → (P.read_command frame).answer ≡ 0x9000 → length frame ≤ f.command

-- ---- all of it
pub record DataSheet (P : Panel) : Type 0 where
  pub serves : ReplyServes 394 P
  pub no_more : NoMoreFits P
  pub responses : ResponsesServed P
  pub rows : RowsServe sheet_of P
