-- The room for a response: what `frame_room_of` says of a frame in each shape; and that, where it was asked for, an order is finished and its first part goes out.
use Prim.Native.Nat.{ℕ, ◌+◌, ◌-◌, ◌<◌, ◌≤◌}
use mathlib.Core.Path.{◌≡◌, refl, ap, ap₂, sym, subst, ◌∙◌}
use mathlib.Core.Bool.{true}
use mathlib.Core.List.{List}
use native.Mathlib.Omega.{arith}
use native.Mathlib.Decide.{dec_lt, ℕ_discrete}
use borrow.Author.Tests.{eq-eqb, ne_eqb, lt-ltb, le-ltb, le-leb, lt-leb}
use lib.ListN.{length, drop}
use Rattle.outcome.specs.Outcome.{Outcome, R, Word, SW, Gives}
use Rattle.outcome.proofs.Laws.{r_gives, word_gives}
use Rattle.octets.specs.Bytes.{laid}
use Rattle.octets.proofs.Laws.{length_laid}
use Rattle.apdu_stated.specs.Answers.{Says}
use Rattle.apdu_stated.specs.Reading.{read_of}
use Rattle.command_stated.specs.Command.{Command, Register, Authenticate}
use Rattle.command_stated.proofs.Laws.{RegisterExactly, AuthenticateExactly}
use Rattle.signing_stated.specs.Orders.{kind_no, is_of_layout, certificate_length}
use Rattle.signing_stated.specs.Finishing.{Finishing, Ended, finish_of, end_of, length_of, reply_of, body_of, room_needed}
use Rattle.signing_stated.proofs.Laws.{finish_failed, finish_gives}
use Rattle.response_stated.specs.Words.{rest}
use Rattle.response_stated.specs.Parts.{limit_of, part_length, left_status, response_room_of}
use Rattle.response_stated.specs.Terms.{sending_of, sending}
use Rattle.response_stated.proofs.Laws.{part_monotone, part_long, room_holds, room_said, room_unsaid, sends_given, goes, tells}
use Rattle.u2f_up_stated.specs.declared.Presence.{Presence}
use Rattle.ctap1_stated.specs.Words.{Inputs, Ordered}
use Rattle.ctap1_stated.specs.Terms.{AreBlocks, room_of_register}
use Rattle.ctap1_stated.specs.Path.{frame_limit}
use Rattle.ctap1_stated.specs.Decision.{decision_of}
use Rattle.ctap1_stated.proofs.Laws.{AskedWith, of_register, of_authenticate, asked_with, orders_of_layout}
use Rattle.session_stated.specs.Held.{Session, session_after, room_on, frame_room_of}
use Rattle.session_stated.specs.Terms.{NoShape, TakesAtATime, given, absent, CanTake, whole, cut, extended, no_shape, LongestBody, register, authenticate, RoomWasAsked, FirstPart, Answered}

-- ---- a frame in a shape
pub room_in_shape : (frame : List ℕ) (said : Says) (longest : ℕ) → read_of frame ≡ Gives said → frame_room_of frame longest ≡ response_room_of (frame_limit frame) longest
unfolding frame_room_of frame_limit
room_in_shape frame said longest e = rw e

limit_is : (said : Says) (limit : ℕ) → TakesAtATime said limit → (limit_of said ≡ limit) × (1 ≤ limit)
unfolding limit_of
limit_is said _ (given short some) = (rw (le-leb said.shape 4 short, ne_eqb said.le 0 (λ z. omega (arith, z, some))), some)
limit_is said _ (absent short none) = (rw (le-leb said.shape 4 short, eq-eqb said.le 0 none), omega arith)

pub limit_taken : (said : Says) (limit : ℕ) → TakesAtATime said limit → limit_of said ≡ limit
limit_taken said limit x = (limit_is said limit x).0

pub no_limit : (said : Says) → 5 ≤ said.shape → limit_of said ≡ 0
unfolding limit_of
no_limit said long = rw (lt-leb said.shape 4 (omega (arith, long)))

-- ---- what is said of each
module _ (frame : List ℕ) (longest : ℕ) where
  -- of a frame in a shape, whose first part has k bytes
  by_part : (said : Says) (k : ℕ) → read_of frame ≡ Gives said → k ≡ part_length (limit_of said) longest
      → (k + 2 < 0x10000000000000000 → frame_room_of frame longest ≡ Gives (k + 2)) × (0x10000000000000000 ≤ k + 2 → frame_room_of frame longest ≡ R 2)
  unfolding frame_room_of
  by_part said k e is = (
    λ h. rw e (sym (room_said (limit_of said) longest k is (omega (arith, h)))),
    λ h. rw e (sym (room_unsaid (limit_of said) longest k is (omega (arith, h)))),
  )

  outside : (o : Outcome Says) → NoShape o → room_on o longest ≡ Gives 2
  outside (R n) none = refl
  outside (Word w) none = refl
  outside (Gives said) none = absurd (none said refl)

  pub takes_so : (n : ℕ) → CanTake frame longest n → (n < 0x10000000000000000 → frame_room_of frame longest ≡ Gives n) × (0x10000000000000000 ≤ n → frame_room_of frame longest ≡ R 2)
  unfolding frame_room_of part_length
  takes_so _ (whole said limit e x h) =
      let l = limit_is said limit x in
      by_part said longest e (rw (l.0, ne_eqb limit 0 (λ z. omega (arith, z, l.1)), le-ltb limit longest h))
  takes_so _ (cut said limit e x h) =
      let l = limit_is said limit x in
      by_part said limit e (rw (l.0, ne_eqb limit 0 (λ z. omega (arith, z, l.1)), lt-ltb limit longest h))
  takes_so _ (extended said e long) = by_part said longest e (rw (no_limit said long))
  takes_so _ (no_shape none) = (λ h. outside (read_of frame) none, λ h. absurd (omega (arith, h)))

  takes_some : (o : Outcome Says) → read_of frame ≡ o → (n : ℕ) × CanTake frame longest n
  takes_some (R n) e = (2, no_shape (λ said x. r_gives n said (sym e ∙ x)))
  takes_some (Word w) e = (2, no_shape (λ said x. word_gives w said (sym e ∙ x)))
  takes_some (Gives said) e = by (dec_lt said.shape 5) (ℕ_discrete said.le 0)
    where
      under : (limit : ℕ) → TakesAtATime said limit → Dec (limit < longest) → (n : ℕ) × CanTake frame longest n
      under limit x (yes h) = (limit + 2, cut said limit e x h)
      under limit x (no h) = (longest + 2, whole said limit e x (omega (arith, h)))

      by : Dec (said.shape < 5) → Dec (said.le ≡ 0) → (n : ℕ) × CanTake frame longest n
      by (yes h) (yes z) = under 256 (absent (omega (arith, h)) z) (dec_lt 256 longest)
      by (yes h) (no z) = under said.le (given (omega (arith, h)) (omega (arith, z))) (dec_lt said.le longest)
      by (no h) z = (longest + 2, extended said e (omega (arith, h)))

  pub some_take : (n : ℕ) × CanTake frame longest n
  some_take = takes_some (read_of frame) refl

-- ---- the room that an order asks for is the longest body of its command, and a frame that comes to an order is in a shape
read_of_lem : (a : Inputs) (k n : ℕ) → AskedWith a k n → (said : Says) × (read_of a.frame ≡ Gives said)
read_of_lem a _ _ (of_register said c) = (said, ((RegisterExactly a.frame said).0 c).0)
read_of_lem a _ _ (of_authenticate p1 said c) = (said, ((AuthenticateExactly a.frame p1 said).0 c).0)

register_not : (said other : Says) (p1 : ℕ) → ◌≡◌ {A = Outcome Command} (Gives (Register said)) (Gives (Authenticate p1 other)) → ⊥
register_not said other p1 e = let z : ◌≡◌ {A = ℕ} 0 1 = cc in omega arith

longest_is : (a : Inputs) (b k n : ℕ) → LongestBody a b → AskedWith a k n → n ≡ b
longest_is a _ _ _ (register said c) (of_register other d) = refl
longest_is a _ _ _ (register said c) (of_authenticate p1 other d) = absurd (register_not said other p1 (sym c ∙ d))
longest_is a _ _ _ (authenticate p1 said c is) (of_register other d) = absurd (register_not other said p1 (sym d ∙ c))
longest_is a _ _ _ (authenticate p1 said c is) (of_authenticate q other d) = refl

-- by the order's kind
by_kind : (a : Inputs) (b k n : ℕ) → AskedWith a k n → (k ≡ 0x01 → room_of_register a ≤ b) → (k ≡ 0x02 → 77 ≤ b) → n ≤ b
by_kind a b _ _ (of_register said c) r s = r refl
by_kind a b _ _ (of_authenticate p1 said c) r s = s refl

-- ---- the first part
pub first_part : (body : List ℕ) (n limit : ℕ) (buffer : List ℕ) → n ≤ length body → part_length limit n + 2 ≤ length buffer → FirstPart sending_of body n limit buffer
first_part body n limit buffer within room =
    let given = sends_given body (rest 0 n) limit buffer (omega (arith, within)) room in
    let long = part_long body (rest 0 n) limit (omega (arith, within)) in
    let none : 0 + part_length limit n ≡ part_length limit n = omega arith in
    record {
      part = part_length limit n;
      status = left_status (n - part_length limit n);
      goes = goes limit n;
      tells = tells (n - part_length limit n);
      sends = record {
        says = ap (λ (o : _). o.0) given ∙ ap₂ (λ (k place : ℕ). Gives (sending (k + 2) (rest place (n - part_length limit n)))) (sym long) none;
        behind = drop (part_length limit n + 2) buffer;
        holds = ap (λ (o : _). o.1) given;
      };
    }

-- ---- no touch is lost: with any b that is no less than the room which the order asks for
module _ (p : Presence) (t : ℕ) (a : Inputs) (i : Finishing) (buffer : List ℕ) (b bytes : ℕ) (blocks : AreBlocks a) (ordered : (decision_of p t a).answer ≡ Gives Ordered)
    (least : room_needed (decision_of p t a).order ≤ b) (asked : frame_room_of a.frame b ≡ Gives bytes) (had : bytes ≤ length buffer) (order : i.order ≡ (decision_of p t a).order)
    (certificate : length i.certificate ≡ certificate_length i.order) (reply : a.room ≤ length i.reply) (signature : length i.signature ≤ 72) where
  needs : room_needed i.order ≡ room_needed (decision_of p t a).order
  needs = ap room_needed order

  layout : is_of_layout i.order ≡ true
  layout = ap is_of_layout order ∙ orders_of_layout p t a blocks ordered

  room : room_needed i.order ≤ length i.reply
  room = omega (arith, needs, (asked_with p t a blocks ordered).1, reply)

  -- what was asked for holds the longest first part
  holds : part_length (frame_limit a.frame) b + 2 ≤ length buffer
  holds =
      let read = read_of_lem a _ _ (asked_with p t a blocks ordered).0 in
      let said = room_holds (frame_limit a.frame) b bytes (sym (room_in_shape a.frame read.0 b read.1) ∙ asked) in
      omega (arith, said, had)

  ends : (o : Outcome (List ℕ)) → finish_of i ≡ o → end_of i ≡ record { answer = length_of o; reply = reply_of o i.reply }
  ends o e = ap (λ (y : Outcome (List ℕ)). record { answer = length_of y; reply = reply_of y i.reply }) e

  sent : (body : List ℕ) → length body ≤ room_needed i.order → FirstPart sending_of (laid body i.reply) (length body) (frame_limit a.frame) buffer
  sent body within =
      first_part (laid body i.reply) (length body) (frame_limit a.frame) buffer
      (omega (arith, within, room, length_laid body i.reply))
      (omega (arith, holds, part_monotone (frame_limit a.frame) (length body) b (omega (arith, within, needs, least))))

  answered : Answered end_of sending_of i (frame_limit a.frame) buffer
  answered = record {
    failed = λ f. ends (SW 0x6f00) (finish_failed i layout certificate room f);
    served = λ s.
        let given = finish_gives i layout certificate room s signature in
        let body = body_of i.order.kind i.order i.certificate i.signature in
        let end = ends (Gives body) given.0 in
        (length body, ap (λ (e : Ended). e.answer) end, subst (λ (l : List ℕ). FirstPart sending_of l (length body) (frame_limit a.frame) buffer) (ap (λ (e : Ended). e.reply) (sym end)) (sent body given.1));
  }

-- where b is known by the command, and where by the order's kind
pub by_command : (p : Presence) (t : ℕ) (a : Inputs) (i : Finishing) (buffer : List ℕ) → RoomWasAsked decision_of frame_room_of p t a i buffer → Answered end_of sending_of i (frame_limit a.frame) buffer
by_command p t a i buffer x =
    let least = longest_is a x.longest _ _ x.is_longest (asked_with p t a x.blocks x.ordered).0 in
    answered p t a i buffer x.longest x.bytes x.blocks x.ordered (omega (arith, least)) x.asked x.had x.order x.certificate x.reply x.signature

pub by_order : (p : Presence) (t : ℕ) (a : Inputs) (i : Finishing) (buffer : List ℕ) (b bytes : ℕ) → AreBlocks a → (decision_of p t a).answer ≡ Gives Ordered
    → (kind_no (decision_of p t a).order.kind ≡ 0x01 → room_of_register a ≤ b) → (kind_no (decision_of p t a).order.kind ≡ 0x02 → 77 ≤ b)
    → frame_room_of a.frame b ≡ Gives bytes → bytes ≤ length buffer → i.order ≡ (decision_of p t a).order
    → length i.certificate ≡ certificate_length i.order → a.room ≤ length i.reply → length i.signature ≤ 72
    → Answered end_of sending_of i (frame_limit a.frame) buffer
by_order p t a i buffer b bytes blocks ordered r s asked had order certificate reply signature =
    answered p t a i buffer b bytes blocks ordered (by_kind a b _ _ (asked_with p t a blocks ordered).0 r s) asked had order certificate reply signature

-- the limit that such a decision leaves is the frame's
pub ordered_limit : (frame : List ℕ) (s : Session) → (session_after (Gives Ordered) (read_of frame) s).limit ≡ frame_limit frame
unfolding frame_limit
ordered_limit frame s = refl
