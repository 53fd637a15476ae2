-- The numbers that outcomes have: a refusal's is one of the refusals', a status word's from 6000 up to 9000. By the checks of each
-- definition.
use Prim.Native.Nat.{ℕ, ◌+◌, ◌≤◌, ◌<◌}
use mathlib.Core.Bool.{Bool, true, false, not}
use mathlib.Core.List.{List}
use native.Mathlib.Omega.{arith}
use lib.Dec.{ltb, eqb}
use lib.ListN.{length, drop}
use Rattle.outcome.specs.Notation.{when◌then◌else◌}
use Rattle.outcome.specs.Outcome.{Outcome, R, Word, Gives}
use Rattle.apdu_stated.specs.Answers.{Says}
use Rattle.apdu_stated.specs.declared.Entry.{Entry}
use Rattle.apdu_stated.specs.declared.Entry.TheVariants.{Ordinary, Strict}
use Rattle.apdu_stated.specs.Reading.{read_by, read_of, say_of, lengths_of, strict_of}
use Rattle.apdu_stated.specs.Table.{carried_by}
use Rattle.apdu_stated.specs.Writing.{Parts, frame_of, write_by}
use Rattle.apdu_stated.specs.declared.Lengths.{Lengths}
use Rattle.apdu_stated.specs.declared.Lengths.TheVariants as Lengths'
use Rattle.command_stated.specs.Command.{Command, Register, Authenticate, Version, GetResponse, is_control, register_of, authenticate_of, version_of, get_response_of, by_instruction, on_reading, command_of}
use Rattle.u2f_up_stated.specs.Moments.{is_r6, is_r8, is_r1, on_settled, Told, new_of, settle_of, checked_of, touch_of, check_of, ask_of}
use Rattle.u2f_up_stated.specs.declared.Presence.{Presence}
use Rattle.signing_stated.specs.Orders.{is_of_layout, certificate_length}
use Rattle.signing_stated.specs.Finishing.{Finishing, finish_of, room_needed, register_room, authenticate_room}
use Rattle.ctap1_stated.specs.declared.Allowed.{Allowed}
use Rattle.ctap1_stated.specs.declared.Allowed.TheVariants as Allowed'
use Rattle.response_stated.specs.declared.Sent.{Sent}
use Rattle.response_stated.specs.declared.Remainder.{Remainder}
use Rattle.response_stated.specs.Responses.{write_response_of, read_response_of}
use Rattle.response_stated.specs.Parts.{limit_of, part_length, next_part_of, response_room_of}
use Rattle.session_stated.specs.Held.{room_on, frame_room_of}
use Rattle.panel_stated.specs.Terms.{IsNumbered}
use mathlib.Core.Path.{◌≡◌, refl, sym}
use Rattle.outcome.proofs.Laws.{r_word, r_gives}
use Rattle.ctap1_stated.specs.Decision as Decision'
use Rattle.ctap1_stated.specs.Words.{Inputs}
use Rattle.ctap1_stated.specs.Path.{PathEnd, Internal, WrongData, Orders, DecisionPath, NoRoom, Ends, SixBytes, Fetches, Signs, Touch, sent_path, fetch_path, login_path, version_path, register_path, command_path, allowed_path, path_of}
use Rattle.ctap1_stated.specs.Decision.{ended, along, on_moment, decision_of}

-- both branches of a test
either : {A : Type 0} (P : A → Type 0) (b : Bool) (x y : A) → P x → P y → P (when b then x else y)
either P true x y p q = p
either P false x y p q = q

module _ {A : Type 0} where
  test : (b : Bool) (x y : Outcome A) → IsNumbered x → IsNumbered y → IsNumbered (when b then x else y)
  test b x y = either IsNumbered b x y

-- ---- frames
say_said : (frame : List ℕ) (l : Lengths) → IsNumbered (say_of frame l)
unfolding say_of
say_said frame (Lengths'.Found s lc le) = tt
say_said frame Lengths'.Missing = (omega arith, omega arith)
say_said frame (Lengths'.Surplus place) = (omega arith, omega arith)

read_by_said : (entry : Entry) (frame : List ℕ) → IsNumbered (read_by entry frame)
unfolding read_by
read_by_said entry frame = test (ltb (length frame) 4) _ _ (omega arith, omega arith) (say_said frame (lengths_of entry (drop 4 frame)))

pub read_said : (frame : List ℕ) → IsNumbered (read_of frame)
read_said = read_by_said Ordinary

pub strict_said : (frame : List ℕ) → IsNumbered (strict_of frame)
strict_said = read_by_said Strict

pub write_said : (entry : Entry) (w : Parts) (room : ℕ) → IsNumbered (write_by entry w room)
unfolding write_by
write_said entry w room =
    test (not (carried_by entry w.shape (length w.content) w.le)) _ _ (omega arith, omega arith)
    (test (ltb room (length (frame_of w))) _ _ (omega arith, omega arith) tt)

-- ---- commands
instruction_said : (frame : List ℕ) (said : Says) → IsNumbered (by_instruction frame said)
unfolding by_instruction register_of authenticate_of version_of get_response_of
instruction_said frame said =
    test (not (eqb said.header.cla 0x00)) _ _ (omega arith, omega arith)
    (test (eqb said.header.ins 0x01) _ _ (test (not (eqb said.lc 64)) _ _ (omega arith, omega arith) tt)
    (test (eqb said.header.ins 0x02) _ _
    (test (ltb said.lc 65) _ _ (omega arith, omega arith)
    (test (not (eqb said.lc _)) _ _ (omega arith, omega arith)
    (test (not (is_control said.header.p1)) _ _ (omega arith, omega arith) tt)))
    (test (eqb said.header.ins 0x03) _ _ (test (not (eqb said.lc 0)) _ _ (omega arith, omega arith) tt)
    (test (eqb said.header.ins 0xC0) _ _
    (test (not (eqb said.header.p1 0x00)) _ _ (omega arith, omega arith)
    (test (not (eqb said.header.p2 0x00)) _ _ (omega arith, omega arith)
    (test (not (eqb said.lc 0)) _ _ (omega arith, omega arith) tt)))
    (omega arith, omega arith)))))

reading_said : (frame : List ℕ) (o : Outcome Says) → IsNumbered o → IsNumbered (on_reading frame o)
unfolding on_reading
reading_said frame (R n) h = h
reading_said frame (Word s) h = h
reading_said frame (Gives said) h = instruction_said frame said

pub command_said : (frame : List ℕ) → IsNumbered (command_of frame)
unfolding command_of
command_said frame = reading_said frame (read_of frame) (read_said frame)

-- ---- presence
pub new_said : (w : ℕ) → IsNumbered (new_of w)
unfolding new_of
new_said w = test (is_r6 w) _ _ (omega arith, omega arith) tt

pub settle_said : (p : Presence) (s t : ℕ) → IsNumbered (settle_of p s t)
unfolding settle_of
settle_said p s t = test (is_r6 p.w) _ _ (omega arith, omega arith) (test (is_r8 s p.asker) _ _ (omega arith, omega arith) (test (is_r1 p.last t) _ _ (omega arith, omega arith) tt))

on_settled_lem : (p : Presence) (o : Outcome Presence) (go : Presence → Told) → IsNumbered o → ((q : Presence) → IsNumbered (go q).outcome) → IsNumbered (on_settled p o go).outcome
on_settled_lem p (R n) go h k = h
on_settled_lem p (Word s) go h k = h
on_settled_lem p (Gives q) go h k = k q

module _ (p : Presence) (t : ℕ) where
  pub touch_said : IsNumbered (touch_of p t).outcome
  unfolding touch_of
  touch_said = on_settled_lem p (settle_of p p.asker t) _ (settle_said p p.asker t) (λ q. tt)

  pub check_said : (s : ℕ) → IsNumbered (check_of p s t).outcome
  unfolding check_of
  check_said s = on_settled_lem p (settle_of p s t) _ (settle_said p s t) (λ q. tt)

  pub ask_said : IsNumbered (ask_of p t).outcome
  unfolding ask_of
  ask_said = on_settled_lem p (settle_of p p.asker t) _ (settle_said p p.asker t) (λ q. tt)

-- ---- responses and parts
pub write_response_said : (body : List ℕ) (room : ℕ) → IsNumbered (write_response_of body room)
unfolding write_response_of
write_response_said body room = test (ltb room (length body + 2)) _ _ (omega arith, omega arith) tt

pub read_response_said : (response : List ℕ) → IsNumbered (read_response_of response)
unfolding read_response_of
read_response_said response = test (ltb (length response) 2) _ _ (omega arith, omega arith) tt

pub next_said : (body_room : ℕ) (r : Remainder) (limit room : ℕ) → IsNumbered (next_part_of body_room r limit room)
unfolding next_part_of
next_said body_room r limit room =
    test (ltb body_room (r.place + r.count)) _ _ (omega arith, omega arith) (test (ltb room (part_length limit r.count + 2)) _ _ (omega arith, omega arith) tt)

pub room_said : (frame : List ℕ) (longest : ℕ) → IsNumbered (frame_room_of frame longest)
unfolding frame_room_of response_room_of
room_said frame longest = by (read_of frame)
  where
    by : (o : Outcome Says) → IsNumbered (room_on o longest)
    by (R n) = tt
    by (Word s) = tt
    by (Gives said) = test (ltb (part_length (limit_of said) longest) 0xfffffffffffffffe) _ _ tt (omega arith, omega arith)

-- ---- the decision
abbrev OfPath : DecisionPath → Type 0
OfPath NoRoom = Unit {0}
OfPath (Ends s) = (0x6000 ≤ s.number) × (s.number < 0x9000)
OfPath SixBytes = Unit {0}
OfPath (Fetches sent) = Unit {0}
OfPath (Signs e) = Unit {0}
OfPath (Touch e) = Unit {0}

sent_path_lem : (o : Outcome Sent) → IsNumbered o → OfPath (sent_path o)
sent_path_lem (R n) h = tt
sent_path_lem (Word s) h = h
sent_path_lem (Gives sent) h = tt

fetch_path_lem : (room : ℕ) (r : Remainder) (limit part_room : ℕ) → OfPath (fetch_path room r limit part_room)
unfolding fetch_path
fetch_path_lem room r limit part_room =
    either OfPath (eqb r.count 0) _ _ (omega arith, omega arith) (sent_path_lem (next_part_of room r limit part_room) (next_said room r limit part_room))

module _ (a : Inputs) where
  login_path_lem : (p1 : ℕ) (said : Says) → OfPath (login_path a.frame a.hardware a.room p1 said)
  unfolding login_path
  login_path_lem p1 said =
      either OfPath (not a.hardware.good) _ _ (omega arith, omega arith)
      (either OfPath (eqb p1 0x07) _ _ (omega arith, omega arith)
      (either OfPath (ltb a.room authenticate_room) _ _ tt (either OfPath (eqb p1 0x03) _ _ tt tt)))

  command_path_lem : (o : Outcome Command) → IsNumbered o → OfPath (command_path a o)
  unfolding command_path version_path register_path
  command_path_lem (R n) h = tt
  command_path_lem (Word s) h = h
  command_path_lem (Gives Version) h = either OfPath (ltb a.room 6) _ _ tt tt
  command_path_lem (Gives GetResponse) h = fetch_path_lem a.room a.remainder _ a.part_room
  command_path_lem (Gives (Register said)) h =
      either OfPath (ltb a.room (register_room (length a.new_handle) (length a.certificate))) _ _ tt tt
  command_path_lem (Gives (Authenticate p1 said)) h = login_path_lem p1 said

  allowed_path_lem : (k : Allowed) → OfPath (allowed_path k a)
  unfolding allowed_path
  allowed_path_lem Allowed'.Failed = (omega arith, omega arith)
  allowed_path_lem Allowed'.No = (omega arith, omega arith)
  allowed_path_lem Allowed'.Yes = command_path_lem (command_of a.frame) (command_said a.frame)

  path_numbered : OfPath (path_of a)
  unfolding path_of
  path_numbered = allowed_path_lem a.hardware.allowed

ended_numbered : (e : PathEnd) (p : Presence) → IsNumbered (ended e p).answer
ended_numbered Internal p = (omega arith, omega arith)
ended_numbered WrongData p = (omega arith, omega arith)
ended_numbered (Orders o taken) p = tt

touch_numbered : (yes : Bool) (e : PathEnd) (p : Presence) → IsNumbered (when not yes then Decision'.status_result 0x6985 p else ended e p).answer
touch_numbered true e p = ended_numbered e p
touch_numbered false e p = (omega arith, omega arith)

along_numbered : (path : DecisionPath) → OfPath path → (kept settled : Presence) (side t : ℕ) → IsNumbered (along path kept settled side t).answer
along_numbered NoRoom h kept settled side t = (omega arith, omega arith)
along_numbered (Ends s) h kept settled side t = h
along_numbered SixBytes h kept settled side t = tt
along_numbered (Fetches sent) h kept settled side t = tt
along_numbered (Signs e) h kept settled side t = ended_numbered e settled
along_numbered (Touch e) h kept settled side t = touch_numbered (checked_of settled side t).yes e (checked_of settled side t).presence

pub decision_said : (p : Presence) (t : ℕ) (a : Inputs) → IsNumbered (decision_of p t a).answer
unfolding decision_of
decision_said p t a = by_moment (settle_of p a.side t) (settle_said p a.side t)
  where
    by_moment : (o : Outcome Presence) → IsNumbered o → IsNumbered (on_moment p a.side t (path_of a) o).answer
    by_moment (R n) h = h
    by_moment (Word s) h = h
    by_moment (Gives settled) h = along_numbered (path_of a) (path_numbered a) p settled a.side t

-- no ending of a decision's path is a refusal
ended_refused : (e : PathEnd) (p : Presence) (k : ℕ) → (ended e p).answer ≡ R k → ⊥
ended_refused Internal p k e = r_word _ _ (sym e)
ended_refused WrongData p k e = r_word _ _ (sym e)
ended_refused (Orders o taken) p k e = r_gives _ _ (sym e)

touch_refused : (yes : Bool) (e : PathEnd) (p : Presence) (k : ℕ) → (when not yes then Decision'.status_result 0x6985 p else ended e p).answer ≡ R k → ⊥
touch_refused true e p k z = ended_refused e p k z
touch_refused false e p k z = r_word _ _ (sym z)

along_refused : (path : DecisionPath) (kept settled : Presence) (side t k : ℕ) → (along path kept settled side t).answer ≡ R k → (along path kept settled side t).presence ≡ kept
along_refused NoRoom kept settled side t k e = refl
along_refused (Ends s) kept settled side t k e = absurd (r_word _ _ (sym e))
along_refused SixBytes kept settled side t k e = absurd (r_gives _ _ (sym e))
along_refused (Fetches sent) kept settled side t k e = absurd (r_gives _ _ (sym e))
along_refused (Signs x) kept settled side t k e = absurd (ended_refused x settled k e)
along_refused (Touch x) kept settled side t k e = absurd (touch_refused (checked_of settled side t).yes x (checked_of settled side t).presence k e)

pub decision_refused : (p : Presence) (t : ℕ) (a : Inputs) (k : ℕ) → (decision_of p t a).answer ≡ R k → (decision_of p t a).presence ≡ p
unfolding decision_of
decision_refused p t a k = by_moment (settle_of p a.side t)
  where
    by_moment : (o : Outcome Presence) → (on_moment p a.side t (path_of a) o).answer ≡ R k → (on_moment p a.side t (path_of a) o).presence ≡ p
    by_moment (R n) e = refl
    by_moment (Word s) e = refl
    by_moment (Gives settled) e = along_refused (path_of a) p settled a.side t k e

-- ---- finishing
pub finish_said : (i : Finishing) → IsNumbered (finish_of i)
unfolding finish_of
finish_said i =
    let o = i.order in
    test (not (is_of_layout o)) _ _ (omega arith, omega arith)
    (test (not (eqb (length i.certificate) (certificate_length o))) _ _ (omega arith, omega arith)
    (test (ltb (length i.reply) (room_needed o)) _ _ (omega arith, omega arith)
    (test (not i.signed) _ _ (omega arith, omega arith)
    (test (ltb 72 (length i.signature)) _ _ (omega arith, omega arith) tt))))
