-- The decision's outer checks, in all its results: what is handed back with the lent block, the reply buffer, and the buffer for part and status; and what its
-- frame says to the session. It mentions no function.
use Prim.Native.Nat.{ℕ, ◌<◌, ◌≤◌, ◌^◌}
use mathlib.Core.Path.{◌≡◌, refl, ap, ap₂, sym, ◌∙◌}
use mathlib.Core.Bool.{Bool, true, false, not}
use mathlib.Core.List.{List}
use native.Mathlib.Omega.{arith}
use native.Mathlib.Decide.{ℕ_discrete}
use borrow.Author.Tests.{ne_eqb}
use lib.Dec.{ltb, eqb}
use lib.ListN.{length}
use Rattle.std.specs.Prelude.{Ok, Err}
use Rattle.outcome.specs.Notation.{when◌then◌else◌}
use Rattle.outcome.specs.Outcome.{StatusWord, Outcome, R, Word, SW, Gives, word_of, refusal_no}
use Rattle.outcome.specs.declared.ApduStatusCode.{ApduStatusCode}
use Rattle.outcome.specs.declared.Refusal.{Refusal}
use Rattle.apdu_stated.specs.Answers.{Says, says_of, reading_of, Reading}
use Rattle.apdu_stated.specs.Reading.{read_of}
use Rattle.apdu_stated.specs.declared.Apdu.{Apdu}
use Rattle.command_stated.specs.Command.{Command, command_said, on_reading, command_of, flags_no}
use Rattle.command_stated.proofs.Laws.{of_reading}
use Rattle.command_stated.specs.declared.Ctap1Flags.{Ctap1Flags}
use Rattle.command_stated.specs.Command.{CommandReading}
use Rattle.command_stated.specs.declared.U2fCommand.TheVariants as U2fCommand'
use Rattle.u2f_up_stated.specs.Moments.{moved_to, settle_of, checked_of}
use Rattle.u2f_up_stated.specs.Numbers.{checked_in}
use Rattle.u2f_up_stated.proofs.Laws.{settles_moved, checked_below}
use Rattle.signing_stated.specs.declared.Head.{Head}
use Rattle.u2f_up_stated.specs.Answers.{ready_of}
use Rattle.u2f_up_stated.specs.declared.Presence.{Presence}
use Rattle.u2f_up_stated.specs.declared.Finding.{Finding}
use Rattle.u2f_up_stated.specs.Words.{Ready}
use Rattle.std.specs.Prelude.{Ok, Err}
use Rattle.signing_stated.specs.Finishing.{register_room, authenticate_room}
use Rattle.response_stated.specs.declared.Sent.{Sent}
use Rattle.response_stated.specs.Parts.{next_part_of, part_response}
use Rattle.ctap1_stated.specs.Words.{DecisionGives, Ordered, Inputs, DecisionResult, DecisionHanded, DecisionLeft, handed_of, enrolment_of, unfetched}
use Rattle.ctap1_stated.specs.declared.HardwareSaid.{HardwareSaid}
use Rattle.response_stated.specs.declared.Remainder.{Remainder}
use Rattle.ctap1_stated.specs.declared.Hardware.{Hardware}
use Rattle.ctap1_stated.specs.declared.Allowed.{Allowed}
use Rattle.ctap1_stated.specs.Numbers.{allowed_of, hardware_of}
use Rattle.ctap1_stated.specs.Decision.{status_result, ended, touch_checked, along_by, along, on_moment, decision_of, reply_after, reply_left, left_of, blank_alone}
use Rattle.ctap1_stated.specs.Session.{is_get_response, part_after, part_left}
use Rattle.ctap1_stated.specs.Path.{PathEnd, Internal, WrongData, Orders, DecisionPath, NoRoom, Status, SixBytes, Signs, Touch, version_path, register_path, register_ending, counted_ending, login_path, limit_on, frame_limit, sent_path, fetch_path, command_path, allowed_path, path_of}
use Rattle.ctap1_stated.specs.declared.Allowed.TheVariants as Allowed'
use Rattle.ctap1_stated.proofs.Laws.{alone, leaves, beside, with_block, stays}

-- ---- a refusal, a status word, an order: only Version's path writes the reply
data Plain : Outcome DecisionGives → Type 0 where
  refusal : (n : ℕ) → Plain (R n)
  word : (s : StatusWord) → Plain (Word s)
  order : Plain (Gives Ordered)

plain_reply : (o : Outcome DecisionGives) (old : List ℕ) → Plain o → old ≡ reply_after o old
plain_reply _ old (refusal n) = refl
plain_reply _ old (word s) = refl
plain_reply _ old order = refl

plain_part : (o : Outcome DecisionGives) (response old : List ℕ) → Plain o → old ≡ part_after o response old
plain_part _ response old (refusal n) = refl
plain_part _ response old (word s) = refl
plain_part _ response old order = refl

ended_plain : (e : PathEnd) (p : Presence) → Plain (ended e p).answer
ended_plain Internal p = word _
ended_plain WrongData p = word _
ended_plain (Orders o taken) p = order

checked_plain : (f : Finding) (e : PathEnd) → Plain (touch_checked f e).answer
checked_plain f e = by f.yes
  where
    by : (y : Bool) → Plain (when not y then status_result 0x6985 f.presence else ended e f.presence).answer
    by true = ended_plain e f.presence
    by false = word _

module _ (check : Presence → Finding) (kept settled : Presence) where
  IsPlain : DecisionPath → Type 0
  IsPlain x = Plain (along_by check x kept settled).answer

  either : (b : Bool) (x y : DecisionPath) → IsPlain x → IsPlain y → IsPlain (when b then x else y)
  either true x y p q = p
  either false x y p q = q

  register_plain : (a : Inputs) (said : Says) → Plain (along_by check (register_path a said) kept settled).answer
  unfolding register_path IsPlain
  register_plain a said =
      either (ltb a.room (register_room (length a.new_handle) (length a.certificate))) NoRoom (Touch (register_ending a said)) (refusal 2) (checked_plain (check settled) (register_ending a said))

  authenticate_plain : (frame : List ℕ) (h : Hardware) (room p1 : ℕ) (said : Says) → Plain (along_by check (login_path frame h room p1 said) kept settled).answer
  unfolding login_path IsPlain
  authenticate_plain frame h room p1 said =
      either (not h.good) (Status 0x6a80) _ (word _)
      (either (eqb p1 0x07) (Status 0x6985) _ (word _)
      (either (ltb room authenticate_room) NoRoom _ (refusal 2)
      (either (eqb p1 0x03) (Touch (counted_ending frame said true h.counter)) (Signs (counted_ending frame said false h.counter))
      (checked_plain (check settled) (counted_ending frame said true h.counter))
      (ended_plain (counted_ending frame said false h.counter) settled))))

-- Version and a C0 look at no touch check: theirs is along at side 0 and moment 0. Neither writes the block, Version no part and a C0 no reply
module _ (check : Presence → Finding) (kept settled : Presence) where
  version_any : (room : ℕ) → along (version_path room) kept settled 0 0 ≡ along_by check (version_path room) kept settled
  unfolding version_path
  version_any room = by (ltb room 6)
    where
      by : (b : Bool) → along (when b then NoRoom else SixBytes) kept settled 0 0 ≡ along_by check (when b then NoRoom else SixBytes) kept settled
      by true = refl
      by false = refl

  version_lands : (room : ℕ) (old : List ℕ) → beside (handed_of (along (version_path room) kept settled 0 0)) old ≡ left_of (along_by check (version_path room) kept settled) old
  unfolding version_path
  version_lands room old = by (ltb room 6)
    where
      by : (b : Bool) → beside (handed_of (along (when b then NoRoom else SixBytes) kept settled 0 0)) old ≡ left_of (along_by check (when b then NoRoom else SixBytes) kept settled) old
      by true = refl
      by false = refl

  version_part : (room : ℕ) (response old : List ℕ) → old ≡ part_after (along_by check (version_path room) kept settled).answer response old
  unfolding version_path
  version_part room response old = by (ltb room 6)
    where
      by : (b : Bool) → old ≡ part_after (along_by check (when b then NoRoom else SixBytes) kept settled).answer response old
      by true = refl
      by false = refl

  module _ (room : ℕ) (r : Remainder) (limit part_room : ℕ) where
    fetch_any : along (fetch_path room r limit part_room) kept settled 0 0 ≡ along_by check (fetch_path room r limit part_room) kept settled
    unfolding fetch_path
    fetch_any = by (eqb r.count 0) (next_part_of room r limit part_room)
      where
        by : (b : Bool) (o : Outcome Sent) → along (when b then Status 0x6985 else sent_path o) kept settled 0 0 ≡ along_by check (when b then Status 0x6985 else sent_path o) kept settled
        by true o = refl
        by false (R n) = refl
        by false (Word s) = refl
        by false (Gives sent) = refl

    fetch_lands : (old : List ℕ) → beside (handed_of (along (fetch_path room r limit part_room) kept settled 0 0)) old ≡ left_of (along_by check (fetch_path room r limit part_room) kept settled) old
    unfolding fetch_path
    fetch_lands old = by (eqb r.count 0) (next_part_of room r limit part_room)
      where
        by : (b : Bool) (o : Outcome Sent)
            → beside (handed_of (along (when b then Status 0x6985 else sent_path o) kept settled 0 0)) old ≡ left_of (along_by check (when b then Status 0x6985 else sent_path o) kept settled) old
        by true o = refl
        by false (R n) = refl
        by false (Word s) = refl
        by false (Gives sent) = refl

    fetch_reply : (old : List ℕ) → old ≡ reply_left (along_by check (fetch_path room r limit part_room) kept settled) old
    unfolding fetch_path
    fetch_reply old = by (eqb r.count 0) (next_part_of room r limit part_room)
      where
        by : (b : Bool) (o : Outcome Sent) → old ≡ reply_left (along_by check (when b then Status 0x6985 else sent_path o) kept settled) old
        by true o = refl
        by false (R n) = refl
        by false (Word s) = refl
        by false (Gives sent) = refl

-- ---- by the command
module _ (i : Inputs) (check : Presence → Finding) (kept settled : Presence) (c : CommandReading) (is_c : command_said c ≡ command_of i.frame) where
  abbrev result : Outcome Command → DecisionResult
  result o = along_by check (command_path i o) kept settled

  abbrev decided : DecisionResult
  decided = result (command_of i.frame)

  here : (d : CommandReading) → c ≡ d → result (command_said d) ≡ decided
  here d e = ap (λ (x : CommandReading). result (command_said x)) (sym e) ∙ ap result is_c

  module _ (old : List ℕ) where
    lands : (d : CommandReading) → c ≡ d → left_of (result (command_said d)) old ≡ left_of decided old
    lands d e = ap (λ (x : DecisionResult). left_of x old) (here d e)

    pub on_status : (said : Outcome DecisionGives) (top : Head) (used : Bool) (q : Presence) (s : ApduStatusCode) → c ≡ Err s → alone said top used ≡ blank_alone (Word (word_of s)) → q ≡ settled
        → leaves said top used q old ≡ left_of decided old
    unfolding command_path
    on_status said top used q s e a f = stays said top used _ q settled old a f ∙ lands (Err s) e

    pub on_version : (h : DecisionHanded) → c ≡ Ok U2fCommand'.Version → h ≡ handed_of (along (version_path i.room) kept settled 0 0) → beside h old ≡ left_of decided old
    unfolding command_path
    on_version h e q = with_block h _ old q ∙ version_lands check kept settled i.room old ∙ lands (Ok U2fCommand'.Version) e

    -- the hardware's answers as they are lent, and the remainder as it is taken out of its numbers
    pub on_register : (x : DecisionLeft) (a : Apdu) (n : HardwareSaid) → c ≡ Ok (U2fCommand'.Register a) → i.hardware ≡ hardware_of n
        → x ≡ left_of (along_by check (register_path (unfetched i.side i.frame (hardware_of n) (enrolment_of i.new_handle i.certificate i.x i.y) i.room) (says_of a)) kept settled) old
        → x ≡ left_of decided old
    unfolding command_path register_path register_ending
    on_register x a n e h q =
        q
        ∙ ap (λ (w : Hardware). left_of (along_by check (register_path (unfetched i.side i.frame w (enrolment_of i.new_handle i.certificate i.x i.y) i.room) (says_of a)) kept settled) old)
        (sym h)
        ∙ lands (Ok (U2fCommand'.Register a)) e

    pub on_authenticate : (x : DecisionLeft) (f : Ctap1Flags) (a : Apdu) (n : HardwareSaid) → c ≡ Ok (U2fCommand'.Authenticate f a) → i.hardware ≡ hardware_of n
        → x ≡ left_of (along_by check (login_path i.frame (hardware_of n) i.room (flags_no f) (says_of a)) kept settled) old → x ≡ left_of decided old
    unfolding command_path
    on_authenticate x f a n e h q =
        q ∙ ap (λ (w : Hardware). left_of (along_by check (login_path i.frame w i.room (flags_no f) (says_of a)) kept settled) old) (sym h)
        ∙ lands (Ok (U2fCommand'.Authenticate f a)) e

    pub on_fetch : (h : DecisionHanded) (k : Remainder) (n : ℕ) → c ≡ Ok U2fCommand'.GetResponse → k ≡ i.remainder → n ≡ frame_limit i.frame
        → h ≡ handed_of (along (fetch_path i.room k n i.part_room) kept settled 0 0) → beside h old ≡ left_of decided old
    unfolding command_path
    on_fetch h k n e is_k is q =
        with_block h _ old q ∙ fetch_lands check kept settled i.room k n i.part_room old
        ∙ ap₂ (λ (r : Remainder) (z : ℕ). left_of (along_by check (fetch_path i.room r z i.part_room) kept settled) old) is_k is
        ∙ lands (Ok U2fCommand'.GetResponse) e

    -- the reply buffer
    reply_here : (d : CommandReading) (new : List ℕ) → c ≡ d → new ≡ reply_left (result (command_said d)) old → new ≡ reply_left decided old
    reply_here d new e k = k ∙ ap (λ (x : DecisionResult). reply_left x old) (here d e)

    pub fetch_kept : c ≡ Ok U2fCommand'.GetResponse → old ≡ reply_left decided old
    unfolding command_path
    fetch_kept e = reply_here (Ok U2fCommand'.GetResponse) old e (fetch_reply check kept settled i.room i.remainder (frame_limit i.frame) i.part_room old)

    pub status_kept : (s : ApduStatusCode) → c ≡ Err s → old ≡ reply_left decided old
    unfolding command_path
    status_kept s e = reply_here (Err s) old e refl

    pub register_kept : (a : Apdu) → c ≡ Ok (U2fCommand'.Register a) → old ≡ reply_left decided old
    unfolding command_path
    register_kept a e = reply_here (Ok (U2fCommand'.Register a)) old e (plain_reply _ old (register_plain check kept settled i (says_of a)))

    pub authenticate_kept : (f : Ctap1Flags) (a : Apdu) → c ≡ Ok (U2fCommand'.Authenticate f a) → old ≡ reply_left decided old
    unfolding command_path
    authenticate_kept f a e = reply_here (Ok (U2fCommand'.Authenticate f a)) old e (plain_reply _ old (authenticate_plain check kept settled i.frame i.hardware i.room (flags_no f) (says_of a)))

    pub version_left : (new : List ℕ) → c ≡ Ok U2fCommand'.Version → new ≡ reply_left (along (version_path i.room) kept settled 0 0) old → new ≡ reply_left decided old
    unfolding command_path
    version_left new e q = reply_here (Ok U2fCommand'.Version) new e (q ∙ ap (λ (x : DecisionResult). reply_left x old) (version_any check kept settled i.room))

  -- the buffer for part and status: a C0's part, or as it was
  module _ (body old : List ℕ) where
    abbrev response : ℕ → List ℕ
    response n = part_response body i.remainder n

    abbrev LeavesPart : List ℕ → Type 0
    LeavesPart new = new ≡ part_left i decided body old

    part_here : (d : CommandReading) (new : List ℕ) → c ≡ d → new ≡ part_left i (result (command_said d)) body old → LeavesPart new
    part_here d new e k = k ∙ ap (λ (x : DecisionResult). part_left i x body old) (here d e)

    pub fetch_part : (new : List ℕ) (k : Remainder) (n : ℕ) → c ≡ Ok U2fCommand'.GetResponse → k ≡ i.remainder → n ≡ frame_limit i.frame
        → new ≡ part_after (along (fetch_path i.room k n i.part_room) kept settled 0 0).answer (part_response body k n) old → LeavesPart new
    unfolding command_path
    fetch_part new k n e is_k is q =
        part_here (Ok U2fCommand'.GetResponse) new e
        (q ∙ ap (λ (x : DecisionResult). part_after x.answer (part_response body k n) old) (fetch_any check kept settled i.room k n i.part_room)
        ∙ ap₂ (λ (r : Remainder) (z : ℕ). part_after (along_by check (fetch_path i.room r z i.part_room) kept settled).answer (part_response body r z) old) is_k is)

    pub status_part : (s : ApduStatusCode) → c ≡ Err s → LeavesPart old
    unfolding command_path
    status_part s e = part_here (Err s) old e refl

    pub version_part_kept : c ≡ Ok U2fCommand'.Version → LeavesPart old
    unfolding command_path
    version_part_kept e = part_here (Ok U2fCommand'.Version) old e (version_part check kept settled i.room (response (frame_limit i.frame)) old)

    pub register_part : (a : Apdu) → c ≡ Ok (U2fCommand'.Register a) → LeavesPart old
    unfolding command_path
    register_part a e = part_here (Ok (U2fCommand'.Register a)) old e (plain_part _ (response (frame_limit i.frame)) old (register_plain check kept settled i (says_of a)))

    pub authenticate_part : (f : Ctap1Flags) (a : Apdu) → c ≡ Ok (U2fCommand'.Authenticate f a) → LeavesPart old
    unfolding command_path
    authenticate_part f a e =
        part_here (Ok (U2fCommand'.Authenticate f a)) old e
        (plain_part _ (response (frame_limit i.frame)) old (authenticate_plain check kept settled i.frame i.hardware i.room (flags_no f) (says_of a)))

-- ---- by the moment, and by whether CTAP1 is allowed
failed_is : (k : ℕ) → 1 < k → allowed_of k ≡ Allowed'.Failed
unfolding allowed_of
failed_is k h = rw (ne_eqb k 0 (λ e. absurd (omega arith)), ne_eqb k 1 (λ e. absurd (omega arith)))

no_is : (k : ℕ) → k ≡ 0 → allowed_of k ≡ Allowed'.No
unfolding allowed_of
no_is k e = rw e

yes_is : (k : ℕ) → k ≤ 1 → (k ≡ 0 → ⊥) → allowed_of k ≡ Allowed'.Yes
unfolding allowed_of
yes_is k h n = by (ℕ_discrete k 0)
  where
    by : Dec (k ≡ 0) → allowed_of k ≡ Allowed'.Yes
    by (yes z) = absurd (n z)
    by (no z) = let one : k ≡ 1 = omega arith in rw one

-- the record as it is taken out of its numbers
pub settles_in : (k p : Presence) (side t : ℕ) (s : Ready) → k ≡ p → ready_of s ≡ settle_of k side t → ready_of s ≡ settle_of p side t
settles_in k p side t s e q = q ∙ ap (λ (x : Presence). settle_of x side t) e

module _ (i : Inputs) (kept : Presence) (t : ℕ) (s : Ready) (is_s : ready_of s ≡ settle_of kept i.side t) where
  settles : (d : Ready) → s ≡ d → on_moment kept i.side t (path_of i) (ready_of d) ≡ decision_of kept t i
  unfolding decision_of
  settles d e = ap (λ (x : Ready). on_moment kept i.side t (path_of i) (ready_of x)) (sym e) ∙ ap (on_moment kept i.side t (path_of i)) is_s

  pub not_settled : (why : Refusal) (said : Outcome DecisionGives) (top : Head) (used : Bool) (old : List ℕ) → s ≡ Err why → alone said top used ≡ blank_alone (R (refusal_no why))
      → leaves said top used kept old ≡ left_of (decision_of kept t i) old
  not_settled why said top used old e a = stays said top used _ kept kept old a refl ∙ ap (λ (x : DecisionResult). left_of x old) (settles (Err why) e)

  pub not_settled_kept : (why : Refusal) (old : List ℕ) → s ≡ Err why → old ≡ reply_left (decision_of kept t i) old
  not_settled_kept why old e = ap (λ (x : DecisionResult). reply_left x old) (settles (Err why) e)

  pub not_settled_part : (why : Refusal) (body old : List ℕ) → s ≡ Err why → old ≡ part_left i (decision_of kept t i) body old
  not_settled_part why body old e = ap (λ (x : DecisionResult). part_left i x body old) (settles (Err why) e)

  module _ (p : Presence) (e : s ≡ Ok p) (k : ℕ) (is_k : i.hardware.allowed ≡ allowed_of k) where
    settled_is : (p ≡ moved_to kept t) × (t < 2 ^ 48)
    settled_is = settles_moved kept i.side t p (ap ready_of (sym e) ∙ is_s)

    -- on numbers the touch check is the definition's, at a moment that settles
    check_is : ◌≡◌ {A = Presence → Finding} (λ q. checked_in q i.side t) (λ q. checked_of q i.side t)
    check_is = λ d q. checked_below q i.side t settled_is.1 d

    here_by : (a : Allowed) → i.hardware.allowed ≡ a → along_by (λ q. checked_in q i.side t) (allowed_path a i) kept (moved_to kept t) ≡ decision_of kept t i
    unfolding path_of
    here_by a is =
        ap (λ (f : Presence → Finding). along_by f (allowed_path a i) kept (moved_to kept t)) check_is
        ∙ ap (λ (q : Presence). along (allowed_path a i) kept q i.side t) (sym settled_is.0)
        ∙ ap (λ (b : Allowed). along (allowed_path b i) kept p i.side t) (sym is) ∙ settles (Ok p) e

    module _ (old : List ℕ) where
      lands_by : (a : Allowed) → i.hardware.allowed ≡ a → left_of (along_by (λ q. checked_in q i.side t) (allowed_path a i) kept (moved_to kept t)) old ≡ left_of (decision_of kept t i) old
      lands_by a is = ap (λ (x : DecisionResult). left_of x old) (here_by a is)

      pub allowed_failed : (said : Outcome DecisionGives) (top : Head) (used : Bool) (q : Presence) → 1 < k → alone said top used ≡ blank_alone (SW 0x6f00) → q ≡ moved_to kept t
          → leaves said top used q old ≡ left_of (decision_of kept t i) old
      unfolding allowed_path
      allowed_failed said top used q h a f = stays said top used _ q _ old a f ∙ lands_by Allowed'.Failed (is_k ∙ failed_is k h)

      pub allowed_no : (said : Outcome DecisionGives) (top : Head) (used : Bool) (q : Presence) → k ≡ 0 → alone said top used ≡ blank_alone (SW 0x6986) → q ≡ moved_to kept t
          → leaves said top used q old ≡ left_of (decision_of kept t i) old
      unfolding allowed_path
      allowed_no said top used q z a f = stays said top used _ q _ old a f ∙ lands_by Allowed'.No (is_k ∙ no_is k z)

      pub allowed_yes : (x : DecisionLeft) → k ≤ 1 → (k ≡ 0 → ⊥) → x ≡ left_of (along_by (λ q. checked_in q i.side t) (command_path i (command_of i.frame)) kept (moved_to kept t)) old
          → x ≡ left_of (decision_of kept t i) old
      unfolding allowed_path
      allowed_yes x h n q = q ∙ lands_by Allowed'.Yes (is_k ∙ yes_is k h n)

      left_by : (a : Allowed) (new : List ℕ) → i.hardware.allowed ≡ a → new ≡ reply_left (along_by (λ q. checked_in q i.side t) (allowed_path a i) kept (moved_to kept t)) old
          → new ≡ reply_left (decision_of kept t i) old
      left_by a new is q = q ∙ ap (λ (x : DecisionResult). reply_left x old) (here_by a is)

      pub failed_kept : 1 < k → old ≡ reply_left (decision_of kept t i) old
      unfolding allowed_path
      failed_kept h = left_by Allowed'.Failed old (is_k ∙ failed_is k h) refl

      pub no_kept : k ≡ 0 → old ≡ reply_left (decision_of kept t i) old
      unfolding allowed_path
      no_kept z = left_by Allowed'.No old (is_k ∙ no_is k z) refl

      pub yes_left : (new : List ℕ) → k ≤ 1 → (k ≡ 0 → ⊥) → new ≡ reply_left (along_by (λ q. checked_in q i.side t) (command_path i (command_of i.frame)) kept (moved_to kept t)) old
          → new ≡ reply_left (decision_of kept t i) old
      unfolding allowed_path
      yes_left new h n q = left_by Allowed'.Yes new (is_k ∙ yes_is k h n) q

    module _ (body old : List ℕ) where
      part_by : (a : Allowed) (new : List ℕ) → i.hardware.allowed ≡ a → new ≡ part_left i (along_by (λ q. checked_in q i.side t) (allowed_path a i) kept (moved_to kept t)) body old
          → new ≡ part_left i (decision_of kept t i) body old
      part_by a new is q = q ∙ ap (λ (x : DecisionResult). part_left i x body old) (here_by a is)

      pub failed_part : 1 < k → old ≡ part_left i (decision_of kept t i) body old
      unfolding allowed_path
      failed_part h = part_by Allowed'.Failed old (is_k ∙ failed_is k h) refl

      pub no_part : k ≡ 0 → old ≡ part_left i (decision_of kept t i) body old
      unfolding allowed_path
      no_part z = part_by Allowed'.No old (is_k ∙ no_is k z) refl

      pub yes_part : (new : List ℕ) → k ≤ 1 → (k ≡ 0 → ⊥) → new ≡ part_left i (along_by (λ q. checked_in q i.side t) (command_path i (command_of i.frame)) kept (moved_to kept t)) body old
          → new ≡ part_left i (decision_of kept t i) body old
      unfolding allowed_path
      yes_part new h n q = part_by Allowed'.Yes new (is_k ∙ yes_is k h n) q

-- ---- what the session goes on with
module _ (frame : List ℕ) (r : Reading) (is_r : reading_of r ≡ read_of frame) where
  pub limit_is : (n : ℕ) → n ≡ limit_on (reading_of r) → n ≡ frame_limit frame
  unfolding frame_limit
  limit_is n e = e ∙ ap limit_on is_r

  pub command_is : (c : CommandReading) → command_said c ≡ on_reading frame (reading_of r) → command_said c ≡ command_of frame
  command_is c e = of_reading frame r (command_said c) is_r e

  pub asks_is : (b : Bool) → b ≡ is_get_response (reading_of r) → b ≡ is_get_response (read_of frame)
  asks_is b e = e ∙ ap is_get_response is_r
