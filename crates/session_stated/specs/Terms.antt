-- Words that only the claims use: how many bytes a response can take, the longest body that a command can come to, and what a decision, an order and its
-- first part are to each other.
use Rattle.std.specs.Prelude.{◌⊎◌, ℕ, ◌+◌, ◌-◌, ◌<◌, ◌≤◌, ◌≡◌, Bool, true, false, List, length, take}
use Rattle.outcome.specs.Outcome.{Outcome, R, Word, SW, Gives}
use Rattle.apdu_stated.specs.Answers.{Says}
use Rattle.apdu_stated.specs.Reading.{read_of}
use Rattle.command_stated.specs.Command.{Register, Authenticate, command_of}
use Rattle.signing_stated.specs.Terms.{keeping}
use Rattle.signing_stated.specs.Orders.{certificate_length}
use Rattle.signing_stated.specs.Finishing.{Finishing, Ended}
use Rattle.response_stated.specs.declared.Remainder.{Remainder}
use Rattle.response_stated.specs.Words.{rest}
use Rattle.response_stated.specs.Terms.{Sender, Goes, Tells, Sends}
use Rattle.u2f_up_stated.specs.declared.Presence.{Presence}
use Rattle.ctap1_stated.specs.Words.{Inputs, DecisionGives, Body, Ordered, Part}
use Rattle.ctap1_stated.specs.Path.{limit_on}
use Rattle.ctap1_stated.specs.Session.{is_get_response}
use Rattle.ctap1_stated.specs.Terms.{Decider, AreBlocks, room_of_register}
use Rattle.session_stated.specs.declared.SessionRecord.{SessionRecord}

-- ---- a frame
-- bytes in no shape
abbrev pub NoShape : Outcome Says → Type 0
NoShape read = (said : Says) → read ≡ Gives said → ⊥

-- `TakesAtATime said limit`: a frame in shapes 1 to 4 takes this many bytes of body at a time, Le, or 256 where it is absent (which is read as 0)
pub data TakesAtATime (said : Says) : ℕ → Type 0 where
  given : said.shape ≤ 4 → 1 ≤ said.le → TakesAtATime said said.le
  absent : said.shape ≤ 4 → said.le ≡ 0 → TakesAtATime said 256

-- `CanTake frame longest n`: a response to this frame can take n bytes, where no body to it is longer than `longest`: in shapes 1 to 4 the smaller of limit and
-- longest body, in an extended shape the body, and two for the status; two where there is no shape and so no body
pub data CanTake (frame : List ℕ) (longest : ℕ) : ℕ → Type 0 where
  whole : (said : Says) (limit : ℕ) → read_of frame ≡ Gives said → TakesAtATime said limit → longest ≤ limit → CanTake frame longest (longest + 2)
  cut : (said : Says) (limit : ℕ) → read_of frame ≡ Gives said → TakesAtATime said limit → limit < longest → CanTake frame longest (limit + 2)
  extended : (said : Says) → read_of frame ≡ Gives said → 5 ≤ said.shape → CanTake frame longest (longest + 2)
  no_shape : NoShape (read_of frame) → CanTake frame longest 2

-- what says that room
abbrev pub FrameRoom : Type 0
FrameRoom = (frame : List ℕ) (longest : ℕ) → Outcome ℕ

-- ---- an order
-- `LongestBody a b`: of the commands that come to an order, the longest body that this one can come to. 01, Finishing: "R2 (139 + h + c, or 77)"
pub data LongestBody (a : Inputs) : ℕ → Type 0 where
  register : (said : Says) → command_of a.frame ≡ Gives (Register said) → LongestBody a (room_of_register a)
  authenticate : (p1 : ℕ) (said : Says) → command_of a.frame ≡ Gives (Authenticate p1 said) → (p1 ≡ 0x03) ⊎ (p1 ≡ 0x08) → LongestBody a 77

-- `RoomWasAsked decide room p t a i buffer`: room for the longest body was asked for, the buffer for part and status has it, the decision gave an order, and that
-- order is what is finished: with a certificate of its length, a reply buffer no shorter than the decision's and a signature that can be one
pub record RoomWasAsked (decide : Decider) (room : FrameRoom) (p : Presence) (t : ℕ) (a : Inputs) (i : Finishing) (buffer : List ℕ) : Type 0 where
  pub blocks : AreBlocks a
  pub longest : ℕ
  pub is_longest : LongestBody a longest
  pub bytes : ℕ
  pub asked : room a.frame longest ≡ Gives bytes
  pub had : bytes ≤ length buffer
  pub ordered : (decide p t a).answer ≡ Gives Ordered
  pub order : i.order ≡ (decide p t a).order
  pub certificate : length i.certificate ≡ certificate_length i.order
  pub reply : a.room ≤ length i.reply
  pub signature : length i.signature ≤ 72

-- `FirstPart next body n limit buffer`: of a body of n bytes at the front of `body` the first part goes out, as much as the limit lets, with its status behind it
pub record FirstPart (next : Sender) (body : List ℕ) (n limit : ℕ) (buffer : List ℕ) : Type 0 where
  pub part : ℕ
  pub status : ℕ
  pub goes : Goes limit n part
  pub tells : Tells (n - part) status  -- part is at most n
  pub sends : Sends (next body (rest 0 n) limit buffer) (take part body) status (rest part (n - part))

-- `Answered finish next i limit buffer`: 6f00 where the signer failed; else a body, and its first part goes out: no R refusal in either place
pub record Answered (finish : Finishing → Ended) (next : Sender) (i : Finishing) (limit : ℕ) (buffer : List ℕ) : Type 0 where
  pub failed : i.signed ≡ false → finish i ≡ keeping (SW 0x6f00) i
  pub served : i.signed ≡ true → (n : ℕ) × ((finish i).answer ≡ Gives n) × FirstPart next (finish i).reply n limit buffer

-- ---- the session's numbers after each answer, changed by these three functions; an R refusal leaves them
abbrev pub changed_by : (stated : Bool → (limit : ℕ) → SessionRecord → SessionRecord) (dropped : (limit : ℕ) → SessionRecord → SessionRecord) (left : Remainder → (limit : ℕ) → SessionRecord → SessionRecord)
    → Outcome DecisionGives → (read : Outcome Says) → SessionRecord → SessionRecord
changed_by stated dropped left (R n) read s = s
changed_by stated dropped left (Word w) read s = stated (is_get_response read) (limit_on read) s
changed_by stated dropped left (Gives (Body n)) read s = dropped (limit_on read) s
changed_by stated dropped left (Gives Ordered) read s = dropped (limit_on read) s
changed_by stated dropped left (Gives (Part n after)) read s = left after (limit_on read) s
