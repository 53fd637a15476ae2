-- The decision's path, check by check, as the code meets it: a decision by itself and the record's numbers, each as a call left it, are the path's result. It
-- mentions no function.
use Prim.Native.Nat.{ℕ, ◌<◌, ◌≤◌}
use mathlib.Core.Path.{◌≡◌, refl, sym, ap, ◌∙◌}
use mathlib.Core.Bool.{Bool, true, false, not}
use mathlib.Core.List.{List}
use native.Mathlib.Decide.{ℕ_discrete}
use borrow.Author.Tests.{lt-ltb, le-ltb, leb-true, leb-false, eq-eqb, ne_eqb, not-true, not-false}
use lib.Dec.{leb, ltb}
use lib.ListN.{length}
use Rattle.outcome.specs.Outcome.{Outcome, R, Word, SW, Gives, status_no, fault_of, word_of}
use Rattle.outcome.specs.declared.FaultNumbers.{FaultNumbers}
use Rattle.outcome.specs.declared.ApduStatusCode.{ApduStatusCode}
use Rattle.octets.specs.Bytes.{laid, bytes4}
use Rattle.apdu_stated.specs.Answers.{Says}
use Rattle.command_stated.specs.Command.{challenge_of, application_of}
use Rattle.u2f_up_stated.specs.declared.Presence.{Presence}
use Rattle.u2f_up_stated.specs.declared.Finding.{Finding}
use Rattle.signing_stated.specs.Layouts.{presence_byte}
use Rattle.signing_stated.specs.Orders.{register_order_of, authenticate_order_of, blank_order}
use Rattle.signing_stated.specs.declared.Head.{Head}
use Rattle.signing_stated.specs.Words.{Order, head_of, order_with}
use Rattle.signing_stated.specs.Finishing.{register_room}
use Rattle.ctap1_stated.specs.Words.{Inputs, Enrolment, is_present, DecisionGives, Body, Ordered, DecisionAlone, DecisionHanded, DecisionLeft, handed_of}
use Rattle.ctap1_stated.specs.Numbers.{is_yes, attestation_of, counter_of}
use Rattle.ctap1_stated.specs.Decision.{along_by, along, ended, touch_checked, version_bytes, reply_left, left_of, blank_alone, end_alone, end_block}
use Rattle.ctap1_stated.specs.Path.{PathEnd, Internal, WrongData, Orders, version_path, register_path, register_ending, enrolment_order, register_ordered, signing_order, counted_ending}

-- a decision's fields: only the order's head comes from a call
abbrev pub alone : Outcome DecisionGives → Head → Bool → DecisionAlone
alone a h taken = record { answer = a; head = h; taken = taken }

pub with_head : (a : Outcome DecisionGives) (h k : Head) (taken : Bool) → h ≡ k → alone a h taken ≡ alone a k taken
with_head a h k taken e = rw e

-- a status word's number, and its pair
pub with_word : (number : ℕ) (fault : FaultNumbers) (h : Head) (s : ApduStatusCode) → number ≡ status_no s → fault ≡ fault_of s → h ≡ head_of blank_order
    → alone (Word (record { number = number; kind = fault.kind; place = fault.place })) h false ≡ blank_alone (Word (word_of s))
with_word number fault h s n f e = rw (n, f, e)

-- with the record beside it, and with the block
abbrev pub handed : Outcome DecisionGives → Head → Bool → Presence → DecisionHanded
handed said top used p = record { answer = said; presence = p; head = top; taken = used }

abbrev pub leaves : Outcome DecisionGives → Head → Bool → Presence → List ℕ → DecisionLeft
leaves said top used p block = record { said = handed said top used p; block = block }

pub with_record : (said : Outcome DecisionGives) (top : Head) (used : Bool) (o : Outcome DecisionGives) (q p : Presence) → alone said top used ≡ blank_alone o → q ≡ p
    → handed said top used q ≡ handed o (head_of blank_order) false p
with_record said top used o q p e f = λ i. record { answer = (e i).answer; presence = f i; head = (e i).head; taken = (e i).taken }

pub stays : (said : Outcome DecisionGives) (top : Head) (used : Bool) (o : Outcome DecisionGives) (q p : Presence) (old : List ℕ) → alone said top used ≡ blank_alone o → q ≡ p
    → leaves said top used q old ≡ leaves o (head_of blank_order) false p old
stays said top used o q p old e f = ap (λ (s : DecisionHanded). record { said = s; block = old }) (with_record said top used o q p e f)

-- what is handed back beside a block that stays
abbrev pub beside : DecisionHanded → List ℕ → DecisionLeft
beside h old = record { said = h; block = old }

pub with_block : (h k : DecisionHanded) (old : List ℕ) → h ≡ k → beside h old ≡ beside k old
with_block h k old e = ap (λ (s : DecisionHanded). beside s old) e

-- the last step, whichever it is
ends : (x : PathEnd) (said : Outcome DecisionGives) (top : Head) (used : Bool) (q p : Presence) (block old : List ℕ) → alone said top used ≡ end_alone x → block ≡ end_block x old → q ≡ p
    → leaves said top used q block ≡ left_of (ended x p) old
ends Internal said top used q p block old e b f = λ i. record { said = record { answer = (e i).answer; presence = f i; head = (e i).head; taken = (e i).taken }; block = b i }
ends WrongData said top used q p block old e b f = λ i. record { said = record { answer = (e i).answer; presence = f i; head = (e i).head; taken = (e i).taken }; block = b i }
ends (Orders o taken) said top used q p block old e b f = λ i. record { said = record { answer = (e i).answer; presence = f i; head = (e i).head; taken = (e i).taken }; block = b i }

-- a test by `leb` that fails or passes, as the test by `ltb` the other way round
short : (need room : ℕ) (b : Bool) → b ≡ leb need room → not b ≡ true → ltb room need ≡ true
short need room b is_b n = lt-ltb room need (leb-false need room (sym is_b ∙ not-true b n))

enough : (need room : ℕ) (b : Bool) → b ≡ leb need room → not b ≡ false → ltb room need ≡ false
enough need room b is_b n = le-ltb room need (leb-true need room (sym is_b ∙ not-false b n))

-- ---- Version
module _ (kept settled : Presence) (room : ℕ) (said : Outcome DecisionGives) (top : Head) (used : Bool) where
  pub version_short : room < 6 → alone said top used ≡ blank_alone (R 2) → handed said top used kept ≡ handed_of (along (version_path room) kept settled 0 0)
  unfolding version_path
  version_short h e = with_record said top used _ kept kept e refl ∙ rw (lt-ltb room 6 h)

  pub version_body : (q : Presence) → 6 ≤ room → alone said top used ≡ blank_alone (Gives (Body 6)) → q ≡ settled → handed said top used q ≡ handed_of (along (version_path room) kept settled 0 0)
  unfolding version_path
  version_body q h e f = with_record said top used _ q settled e f ∙ rw (le-ltb room 6 h)

module _ (kept settled : Presence) (old : List ℕ) where
  pub version_kept : length old < 6 → old ≡ reply_left (along (version_path (length old)) kept settled 0 0) old
  unfolding version_path
  version_kept h = rw (lt-ltb (length old) 6 h)

  pub version_wrote : (new : List ℕ) → 6 ≤ length old → new ≡ laid version_bytes old → new ≡ reply_left (along (version_path (length old)) kept settled 0 0) old
  unfolding version_path
  version_wrote new h e = e ∙ rw (le-ltb (length old) 6 h)

-- ---- the hardware's answers by their numbers
pub yes_said : (k : ℕ) → k ≡ 1 → is_yes k ≡ true
yes_said k e = eq-eqb k 1 e

pub no_said : (k : ℕ) → (k ≡ 1 → ⊥) → is_yes k ≡ false
no_said k n = ne_eqb k 1 n

pub there : (a : ℕ) → a ≡ 1 → is_present (attestation_of a) ≡ true
unfolding attestation_of
there a e = rw e

pub not_there : (a : ℕ) → (a ≡ 1 → ⊥) → is_present (attestation_of a) ≡ false
unfolding attestation_of
not_there a n = by (ℕ_discrete a 0)
  where
    by : Dec (a ≡ 0) → is_present (attestation_of a) ≡ false
    by (yes z) = rw (eq-eqb a 0 z)
    by (no z) = rw (ne_eqb a 0 z, ne_eqb a 1 n)

-- ---- Register
module _ (i : Inputs) (check : Presence → Finding) (kept settled : Presence) (says : Says) (old : List ℕ) (b : Bool) (is_b : b ≡ leb (register_room (length i.new_handle) (length i.certificate)) i.room) where
  abbrev registered : DecisionLeft
  registered = left_of (along_by check (register_path i says) kept settled) old

  pub register_no_room : (said : Outcome DecisionGives) (top : Head) (used : Bool) → not b ≡ true → alone said top used ≡ blank_alone (R 2) → leaves said top used kept old ≡ registered
  unfolding register_path register_ending
  register_no_room said top used n e = stays said top used _ kept kept old e refl ∙ rw (short (register_room (length i.new_handle) (length i.certificate)) i.room b is_b n)

  module _ (room : not b ≡ false) (found : Bool) (is_found : found ≡ (check settled).yes) where
    roomy : ltb i.room (register_room (length i.new_handle) (length i.certificate)) ≡ false
    roomy = enough (register_room (length i.new_handle) (length i.certificate)) i.room b is_b room

    pub register_no_touch : (said : Outcome DecisionGives) (top : Head) (used : Bool) (q : Presence) → not found ≡ true → alone said top used ≡ blank_alone (SW 0x6985) → q ≡ (check settled).presence → leaves said top used q old ≡ registered
    unfolding register_path register_ending
    register_no_touch said top used q n e f = stays said top used _ q _ old e f ∙ rw (roomy, ← is_found, n)

    module _ (touch : not found ≡ false) where
      pub register_not_stored : (said : Outcome DecisionGives) (top : Head) (used : Bool) (q : Presence) → i.hardware.stored ≡ false → alone said top used ≡ blank_alone (SW 0x6f00) → q ≡ (check settled).presence → leaves said top used q old ≡ registered
      unfolding register_path register_ending
      register_not_stored said top used q n e f = stays said top used _ q _ old e f ∙ rw (roomy, ← is_found, touch, n)

      module _ (stored : i.hardware.stored ≡ true) where
        pub register_long : (said : Outcome DecisionGives) (top : Head) (used : Bool) (q : Presence) → 255 < length i.new_handle → alone said top used ≡ blank_alone (SW 0x6f00) → q ≡ (check settled).presence → leaves said top used q old ≡ registered
        unfolding register_path register_ending
        register_long said top used q h e f = stays said top used _ q _ old e f ∙ rw (roomy, ← is_found, touch, stored, lt-ltb 255 (length i.new_handle) h)

        module _ (fits : length i.new_handle ≤ 255) where
          pub register_no_attestation : (said : Outcome DecisionGives) (top : Head) (used : Bool) (q : Presence) → is_present i.hardware.attestation ≡ false → alone said top used ≡ blank_alone (SW 0x6f00) → q ≡ (check settled).presence → leaves said top used q old ≡ registered
          unfolding register_path register_ending
          register_no_attestation said top used q n e f = stays said top used _ q _ old e f ∙ rw (roomy, ← is_found, touch, stored, le-ltb 255 (length i.new_handle) fits, n)

          pub register_order : (said : Outcome DecisionGives) (top : Head) (used : Bool) (q : Presence) (block : List ℕ) → is_present i.hardware.attestation ≡ true
              → alone said top used ≡ end_alone (Orders (register_ordered i says) false) → block ≡ end_block (Orders (register_ordered i says) false) old → q ≡ (check settled).presence → leaves said top used q block ≡ registered
          unfolding register_path register_ending
          register_order said top used q block n e o f =
              ends (Orders (register_ordered i says) false) said top used q (check settled).presence block old e o f
              ∙ rw (roomy, ← is_found, touch, stored, le-ltb 255 (length i.new_handle) fits, n)

-- an order is the head that is handed back, and the lent block
head_is : (o q : Order) (taken : Bool) (said : Outcome DecisionGives) (top : Head) (used : Bool) → o ≡ q → alone said top used ≡ alone (Gives Ordered) (head_of o) taken → alone said top used ≡ alone (Gives Ordered) (head_of q) taken
head_is o q taken said top used is e = e ∙ ap (λ (m : Order). alone (Gives Ordered) (head_of m) taken) is

module _ (frame : List ℕ) (says : Says) (n : Enrolment) (application challenge block : List ℕ) (h : Head) (is_a : application ≡ application_of frame says) (is_c : challenge ≡ challenge_of frame says)
    (is_o : order_with h block ≡ register_order_of (record { application = application; challenge = challenge; handle = n.new_handle; x = n.x; y = n.y }) (length n.certificate)) where
  enrols : order_with h block ≡ enrolment_order frame says n
  unfolding enrolment_order
  enrols = is_o ∙ rw (is_a, is_c)

  pub enrolled : (said : Outcome DecisionGives) (top : Head) (used : Bool) → alone said top used ≡ alone (Gives Ordered) h false → alone said top used ≡ end_alone (Orders (enrolment_order frame says n) false)
  enrolled said top used e = head_is (order_with h block) (enrolment_order frame says n) false said top used enrols e

  pub enrolled_block : (old : List ℕ) → block ≡ end_block (Orders (enrolment_order frame says n) false) old
  enrolled_block old = ap (λ (m : Order). m.bytes) enrols

-- ---- Authenticate
module _ (frame : List ℕ) (says : Says) (present : Bool) (k n : ℕ) where
  pub counted_failed : (said : Outcome DecisionGives) (top : Head) (used : Bool) → (k ≡ 1 → ⊥) → alone said top used ≡ blank_alone (SW 0x6a80) → alone said top used ≡ end_alone (counted_ending frame says present (counter_of k n))
  unfolding counted_ending
  counted_failed said top used z e = e ∙ rw (ne_eqb k 1 z)

  pub counted_kept : (old : List ℕ) → (k ≡ 1 → ⊥) → old ≡ end_block (counted_ending frame says present (counter_of k n)) old
  unfolding counted_ending
  counted_kept old z = rw (ne_eqb k 1 z)

  module _ (one : k ≡ 1) (application challenge block : List ℕ) (h : Head) (is_a : application ≡ application_of frame says) (is_c : challenge ≡ challenge_of frame says)
      (is_o : order_with h block ≡ authenticate_order_of (record { application = application; presence = presence_byte present; counter = bytes4 n; challenge = challenge })) where
    signs : order_with h block ≡ signing_order frame says present n
    signs = is_o ∙ rw (is_a, is_c)

    pub counted_order : (said : Outcome DecisionGives) (top : Head) (used : Bool) → alone said top used ≡ alone (Gives Ordered) h true → alone said top used ≡ end_alone (counted_ending frame says present (counter_of k n))
    unfolding counted_ending
    counted_order said top used e = head_is (order_with h block) (signing_order frame says present n) true said top used signs e ∙ rw (eq-eqb k 1 one)

    pub counted_block : (old : List ℕ) → block ≡ end_block (counted_ending frame says present (counter_of k n)) old
    unfolding counted_ending
    counted_block old = ap (λ (m : Order). m.bytes) signs ∙ rw (eq-eqb k 1 one)

module _ (x : PathEnd) (f : Finding) (old : List ℕ) (found : Bool) (is_found : found ≡ f.yes) (said : Outcome DecisionGives) (top : Head) (used : Bool) (q : Presence) (is_q : q ≡ f.presence) where
  pub enforced_no_touch : not found ≡ true → alone said top used ≡ blank_alone (SW 0x6985) → leaves said top used q old ≡ left_of (touch_checked f x) old
  enforced_no_touch n e = stays said top used _ q _ old e is_q ∙ rw (← is_found, n)

  pub enforced_touch : (block : List ℕ) → not found ≡ false → alone said top used ≡ end_alone x → block ≡ end_block x old → leaves said top used q block ≡ left_of (touch_checked f x) old
  enforced_touch block n e o = ends x said top used q f.presence block old e o is_q ∙ rw (← is_found, n)
