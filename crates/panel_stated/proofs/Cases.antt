-- A law for each `return`, in the form of its need, with the facts as the code has them. It mentions no function.
use Prim.Native.Nat.{ℕ, ◌+◌, ◌<◌, ◌^◌}
use mathlib.Core.Path.{◌≡◌, refl, ap, ap₂, sym, ◌∙◌}
use mathlib.Core.List.{List}
use borrow.Author.Tests.{ne_eqb, not-true, not-false}
use lib.ListN.{length}
use Rattle.outcome.specs.Notation.{when◌then◌else◌}
use Rattle.outcome.proofs.Laws.{r_gives}
use Rattle.outcome.specs.Outcome.{Outcome, R, Word, Gives, status_no, fault_of, word_of, refusal_no}
use Rattle.outcome.specs.declared.FaultNumbers.{FaultNumbers}
use Rattle.outcome.specs.declared.ApduStatusCode.{ApduStatusCode}
use Rattle.outcome.specs.declared.Refusal.{Refusal}
use Rattle.apdu_stated.specs.Words.{shape_no}
use Rattle.apdu_stated.specs.Answers.{says_of, written_of, Written}
use Rattle.apdu_stated.specs.Reading.{place_of}
use Rattle.apdu_stated.specs.declared.Entry.{Entry}
use Rattle.apdu_stated.specs.declared.Entry.TheVariants.{Ordinary, Strict}
use Rattle.apdu_stated.specs.Writing.{parts_of, write_by, buffer_by}
use Rattle.apdu_stated.specs.declared.Apdu.{Apdu}
use Rattle.apdu_stated.specs.declared.ApduHeader.{ApduHeader}
use Rattle.apdu_stated.specs.declared.Case.{Case}
use Rattle.apdu_stated.specs.declared.Case.TheVariants.{Instruction, Le1, Lc1Data, Lc1DataLe1, Lc3Data, Lc3DataLe2, Le3}
use Rattle.apdu_stated.specs.declared.Place.{Place}
use Rattle.command_stated.specs.Command.{Register, Authenticate, flags_no, handle_place_of}
use Rattle.command_stated.specs.declared.Ctap1Flags.{Ctap1Flags}
use Rattle.panel_stated.specs.Words.{FrameSaid, CommandSaid, Wrote, Shaped, Asked, OrderNumbers, DecisionSaid, Kinded, Session, SessionRecord, presence_in, remainder_in, session_in, session_after}
use Rattle.panel_stated.specs.Numbers.{answer_no, shape_of, is_yes, kind_of, no_order}
use Rattle.panel_stated.specs.Exports.{frame_numbers, length_numbers, ToWrite, strict_as, write_as, write_numbered, buffer_as, command_numbers, made_over, asked_numbers, head_after, decided_numbers, sent_numbers, sent_over, ToFinish, order_from, finish_numbered}
use Rattle.std.specs.Prelude.{Some, None}
use mathlib.Core.Bool.{true, false, not, Bool}
use Rattle.u2f_up_stated.specs.Moments.{Told, is_r6, fresh, moved_to, new_of, settle_of, checked_of, granted_of, on_settled, gave, touch_of, check_of}
use Rattle.u2f_up_stated.specs.Numbers.{checked_in, granted_in}
use Rattle.u2f_up_stated.specs.Answers.{ready_of}
use Rattle.std.specs.Prelude.{Ok, Err}
use Rattle.u2f_up_stated.specs.Words.{Ready}
use Rattle.u2f_up_stated.specs.declared.Presence.{Presence}
use Rattle.u2f_up_stated.proofs.Laws.{settles_moved, checked_below, granted_below}
use Rattle.u2f_up_stated.specs.declared.PresenceRecord.{PresenceRecord}
use Rattle.signing_stated.specs.Orders.{kind_no}
use Rattle.signing_stated.specs.Finishing.{Finishing, finished_of, length_of, reply_of}
use Rattle.signing_stated.specs.Words.{Finished}
use Rattle.signing_stated.specs.declared.Kind.{Kind}
use Rattle.signing_stated.specs.declared.Kind.TheVariants as Kind'
use Rattle.signing_stated.specs.declared.Head.{Head}
use Rattle.signing_stated.specs.Promises.{Finishes}
use Rattle.ctap1_stated.specs.Words.{DecisionGives, Body, Ordered, Part, DecisionLeft, decision_answer_of}
use Rattle.ctap1_stated.specs.Path.{limit_on, frame_limit}
use Rattle.ctap1_stated.specs.Session.{is_get_response}
use Rattle.ctap1_stated.specs.declared.DecisionAnswer.{DecisionAnswer}
use Rattle.ctap1_stated.specs.declared.DecisionAnswer.TheVariants as DecisionAnswer'
use Rattle.ctap1_stated.proofs.Laws.{leaves}
use Rattle.apdu_stated.specs.Reading.{read_of}
use Rattle.apdu_stated.proofs.Laws.{strict_out, strict_out_kept, strict_same, strict_same_buffer}
use Rattle.response_stated.specs.Words.{rest, response_written, part_sent}
use Rattle.response_stated.specs.declared.Sent.{Sent}
use Rattle.response_stated.specs.Terms.{sending_of}
use Rattle.response_stated.specs.declared.Remainder.{Remainder}
use Rattle.response_stated.specs.Words.{WroteResponse}
use Rattle.response_stated.specs.Words.{NextPart}

-- ---- a definition over an outcome, at the outcome that the call's contract names
pub through : {A B : Type 0} (f : A → B) (x y : A) (r : B) → x ≡ y → r ≡ f x → r ≡ f y
through f x y r e is = is ∙ ap f e

pub through_written : (written : WroteResponse) (o : Outcome ℕ) (r : Wrote) → response_written written ≡ o → r ≡ length_numbers (response_written written) → r ≡ length_numbers o
through_written written o r e is = is ∙ ap length_numbers e

-- ---- reading
module _ (says : Apdu) (at : Place) (is_at : at ≡ place_of (says_of says)) where
  pub said : (shape : ℕ) → shape ≡ shape_no says.shape
      → ◌≡◌ {A = FrameSaid}
      (record { answer = 0x9000; fault = 0; cla = says.header.cla; ins = says.header.ins; p1 = says.header.p1; p2 = says.header.p2; shape = shape; lc = says.lc; le = says.le; start = at.start; end = at.end; place = 0 })
      (frame_numbers (Gives (says_of says)))
  said shape is_shape = rw (is_shape, is_at)

  pub register_said :
      ◌≡◌ {A = CommandSaid}
      (record { answer = 0x9000; fault = 0; command = 0x01; p1 = 0; challenge = at.start; application = at.start + 32; handle = 0; handle_end = 0; place = 0 })
      (command_numbers (Gives (Register (says_of says))))
  register_said = rw is_at

  pub authenticate_said : (flags : Ctap1Flags) (p1 : ℕ) (handle : Place) → p1 ≡ flags_no flags → handle ≡ handle_place_of (says_of says)
      → ◌≡◌ {A = CommandSaid}
      (record { answer = 0x9000; fault = 0; command = 0x02; p1 = p1; challenge = at.start; application = at.start + 32; handle = handle.start; handle_end = handle.end; place = 0 })
      (command_numbers (Gives (Authenticate (flags_no flags) (says_of says))))
  authenticate_said flags p1 handle is_p1 is_handle = rw (is_at, is_p1, is_handle)

-- a status word's numbers beside each other
pub frame_said : (s : ApduStatusCode) (n : ℕ) (fault : FaultNumbers) → n ≡ status_no s → fault ≡ fault_of s
    → ◌≡◌ {A = FrameSaid}
    (record { answer = n; fault = fault.kind; cla = 0; ins = 0; p1 = 0; p2 = 0; shape = 0; lc = 0; le = 0; start = 0; end = 0; place = fault.place })
    (frame_numbers (Word (word_of s)))
frame_said s n fault is is_fault = rw (is, is_fault)

-- a shape's number is that shape
pub shaped : (s : Case) (number : ℕ) → number ≡ shape_no s → Some s ≡ shape_of number
unfolding shape_of
shaped Instruction number e = rw e
shaped Le1 number e = rw e
shaped Lc1Data number e = rw e
shaped Lc1DataLe1 number e = rw e
shaped Lc3Data number e = rw e
shaped Lc3DataLe2 number e = rw e
shaped Le3 number e = rw e

pub no_shape : (number : ℕ) → (number ≡ 1 → ⊥) → (number ≡ 2 → ⊥) → (number ≡ 3 → ⊥) → (number ≡ 4 → ⊥) → (number ≡ 5 → ⊥) → (number ≡ 7 → ⊥) → (number ≡ 8 → ⊥) → None ≡ shape_of number
unfolding shape_of
no_shape number a b c d e g h =
    rw (ne_eqb number 1 a, ne_eqb number 2 b, ne_eqb number 3 c, ne_eqb number 4 d, ne_eqb number 5 e, ne_eqb number 7 g, ne_eqb number 8 h)

abbrev to_write : ApduHeader → ℕ → List ℕ → ℕ → List ℕ → ToWrite
to_write header shape content le out = record { header = header; shape = shape; content = content; le = le; out = out }

module _ (entry : Entry) (header : ApduHeader) (shape : ℕ) (content : List ℕ) (le : ℕ) (old : List ℕ) (shaped : Shaped) (is_shaped : shaped ≡ shape_of shape) where
  module _ (s : Case) (z : shaped ≡ Some s) where
    pub write_as_lem : (written : Written) (r : Wrote) → written_of written ≡ write_by entry (parts_of header s content le) (length old) → r ≡ length_numbers (written_of written)
        → r ≡ length_numbers (write_numbered entry (to_write header shape content le old))
    write_as_lem written r is_written is = is ∙ ap length_numbers is_written ∙ rw (← is_shaped, z)

    pub buffer_as_lem : (new : List ℕ) → new ≡ buffer_by entry (parts_of header s content le) old → new ≡ buffer_as entry (shape_of shape) (to_write header shape content le old)
    buffer_as_lem new is = is ∙ rw (← is_shaped, z)

  module _ (z : shaped ≡ None) where
    pub write_as_none : ◌≡◌ {A = Wrote} (record { answer = 5; length = 0 }) (length_numbers (write_numbered entry (to_write header shape content le old)))
    write_as_none = rw (← is_shaped, z)

    pub buffer_as_none : old ≡ buffer_as entry (shape_of shape) (to_write header shape content le old)
    buffer_as_none = rw (← is_shaped, z)

-- the strict writer: a number whose row the strict table has not decides, else the writer
module _ (w : ToWrite) where
  strict_refused : (t : Shaped) → strict_as t (length w.content) ≡ false → (R 5 ≡ write_as Strict t w) × (w.out ≡ buffer_as Strict t w)
  strict_refused (Some s) e = let parts = parts_of w.header s w.content w.le in (strict_out parts e (length w.out), strict_out_kept parts e w.out)
  strict_refused None e = (refl, refl)

  strict_alike : (t : Shaped) → strict_as t (length w.content) ≡ true → (write_as Ordinary t w ≡ write_as Strict t w) × (buffer_as Ordinary t w ≡ buffer_as Strict t w)
  strict_alike (Some s) e = let parts = parts_of w.header s w.content w.le in (strict_same parts e (length w.out), strict_same_buffer parts e w.out)
  strict_alike None e = (refl, refl)

module _ (header : ApduHeader) (shape : ℕ) (content : List ℕ) (le : ℕ) (old : List ℕ) (b : Bool) (is_b : b ≡ strict_as (shape_of shape) (length content)) where
  module _ (z : not b ≡ true) where
    pub strict_unfit : ◌≡◌ {A = Wrote} (record { answer = 5; length = 0 }) (length_numbers (write_numbered Strict (to_write header shape content le old)))
    strict_unfit = ap length_numbers (strict_refused (to_write header shape content le old) (shape_of shape) (sym is_b ∙ not-true b z)).0

    pub strict_kept : old ≡ buffer_as Strict (shape_of shape) (to_write header shape content le old)
    strict_kept = (strict_refused (to_write header shape content le old) (shape_of shape) (sym is_b ∙ not-true b z)).1

  module _ (z : not b ≡ false) where
    pub strict_wrote : (r : Wrote) → r ≡ length_numbers (write_numbered Ordinary (to_write header shape content le old)) → r ≡ length_numbers (write_numbered Strict (to_write header shape content le old))
    strict_wrote r e = e ∙ ap length_numbers (strict_alike (to_write header shape content le old) (shape_of shape) (sym is_b ∙ not-false b z)).0

    pub strict_laid : (new : List ℕ) → new ≡ buffer_as Ordinary (shape_of shape) (to_write header shape content le old) → new ≡ buffer_as Strict (shape_of shape) (to_write header shape content le old)
    strict_laid new e = e ∙ (strict_alike (to_write header shape content le old) (shape_of shape) (sym is_b ∙ not-false b z)).1

-- ---- presence
pub refused_asked : (why : Refusal) (n : ℕ) → n ≡ refusal_no why → ◌≡◌ {A = Asked} (record { answer = n; yes = false }) (asked_numbers (R (refusal_no why)))
refused_asked why n is = rw is

module _ (w : ℕ) (made : Ready) (is_made : ready_of made ≡ new_of w) where
  made_at : (d : Ready) → made ≡ d → ready_of d ≡ new_of w
  made_at d z = ap ready_of (sym z) ∙ is_made

  pub new_refused : (why : Refusal) (n : ℕ) → made ≡ Err why → n ≡ refusal_no why → n ≡ answer_no (new_of w)
  new_refused why n z is = is ∙ ap answer_no (made_at (Err why) z)

  pub new_given : (p : Presence) → made ≡ Ok p → 0x9000 ≡ answer_no (new_of w)
  new_given p z = ap answer_no (made_at (Ok p) z)

  module _ (kept : Presence) where
    pub new_kept : (why : Refusal) → made ≡ Err why → kept ≡ made_over (new_of w) kept
    new_kept why z = ap (λ (o : Outcome Presence). made_over o kept) (made_at (Err why) z)

    pub new_made : (p q : Presence) → made ≡ Ok p → q ≡ fresh w → q ≡ made_over (new_of w) kept
    unfolding new_of
    new_made p q z is = is ∙ by (is_r6 w) (made_at (Ok p) z)
      where
        by : (b : Bool) → Gives p ≡ (when b then R 6 else Gives (fresh w)) → fresh w ≡ made_over (when b then R 6 else Gives (fresh w)) kept
        by true e = absurd (r_gives _ _ (sym e))
        by false e = refl

-- ---- a call on lent numbers is the call on the record that they stand for: `held` is the record as it was taken out of them
module _ (n : PresenceRecord) (held : Presence) (is_held_lem : held ≡ presence_in n) (side t : ℕ) (ready : Ready) (is_ready : ready_of ready ≡ settle_of held side t) where
  settles : ready_of ready ≡ settle_of (presence_in n) side t
  settles = is_ready ∙ ap (λ (p : Presence). settle_of p side t) is_held_lem

  settles_at : (d : Ready) → ready ≡ d → ready_of d ≡ settle_of (presence_in n) side t
  settles_at d z = ap ready_of (sym z) ∙ settles

  told_refused : (why : Refusal) → ready ≡ Err why → (go : Presence → Told) → record { outcome = R (refusal_no why); presence = presence_in n } ≡ on_settled (presence_in n) (settle_of (presence_in n) side t) go
  told_refused why z go = ap (λ (o : Outcome Presence). on_settled (presence_in n) o go) (settles_at (Err why) z)

  told_moved : (q : Presence) → ready ≡ Ok q → (go : Presence → Told) → go (moved_to (presence_in n) t) ≡ on_settled (presence_in n) (settle_of (presence_in n) side t) go
  told_moved q z go =
      ap go (sym (settles_moved (presence_in n) side t q (settles_at (Ok q) z)).0) ∙ ap (λ (o : Outcome Presence). on_settled (presence_in n) o go) (settles_at (Ok q) z)

  early : (q : Presence) → ready ≡ Ok q → t < 2 ^ 48
  early q z = (settles_moved (presence_in n) side t q (settles_at (Ok q) z)).1

  checks_refused : (why : Refusal) → ready ≡ Err why → record { outcome = R (refusal_no why); presence = presence_in n } ≡ check_of (presence_in n) side t
  unfolding check_of
  checks_refused why z = told_refused why z (λ q. gave (checked_of q side t))

  pub check_refused : (why : Refusal) (r : Asked) → ready ≡ Err why → r ≡ asked_numbers (R (refusal_no why)) → r ≡ asked_numbers (check_of (presence_in n) side t).outcome
  check_refused why r z is = is ∙ ap (λ (x : Told). asked_numbers x.outcome) (checks_refused why z)

  pub check_kept : (why : Refusal) → ready ≡ Err why → presence_in n ≡ (check_of (presence_in n) side t).presence
  check_kept why z = ap (λ (x : Told). x.presence) (checks_refused why z)

  checks_found : (q : Presence) → ready ≡ Ok q → gave (checked_in (moved_to (presence_in n) t) side t) ≡ check_of (presence_in n) side t
  unfolding check_of
  checks_found q z = ap gave (checked_below (moved_to (presence_in n) t) side t (early q z)) ∙ told_moved q z (λ p. gave (checked_of p side t))

  pub check_found : (q : Presence) (found : Bool) (r : Asked) → ready ≡ Ok q → found ≡ (checked_in (moved_to (presence_in n) t) side t).yes → r ≡ asked_numbers (Gives found) → r ≡ asked_numbers (check_of (presence_in n) side t).outcome
  check_found q found r z y is = is ∙ ap (λ (b : Bool). asked_numbers (Gives b)) y ∙ ap (λ (x : Told). asked_numbers x.outcome) (checks_found q z)

  pub check_moved : (q after : Presence) → ready ≡ Ok q → after ≡ (checked_in (moved_to (presence_in n) t) side t).presence → after ≡ (check_of (presence_in n) side t).presence
  check_moved q after z is = is ∙ ap (λ (x : Told). x.presence) (checks_found q z)

-- a touch settles as the record's own side
module _ (n : PresenceRecord) (held : Presence) (is_held_lem : held ≡ presence_in n) (t : ℕ) (ready : Ready) (is_ready : ready_of ready ≡ settle_of held held.asker t) where
  own_side : ready_of ready ≡ settle_of (presence_in n) (presence_in n).asker t
  own_side = is_ready ∙ ap (λ (p : Presence). settle_of p p.asker t) is_held_lem

  touches_refused : (why : Refusal) → ready ≡ Err why → record { outcome = R (refusal_no why); presence = presence_in n } ≡ touch_of (presence_in n) t
  unfolding touch_of
  touches_refused why z = told_refused n (presence_in n) refl (presence_in n).asker t ready own_side why z (λ q. gave (granted_of q t))

  pub touch_refused : (why : Refusal) (r : Asked) → ready ≡ Err why → r ≡ asked_numbers (R (refusal_no why)) → r ≡ asked_numbers (touch_of (presence_in n) t).outcome
  touch_refused why r z is = is ∙ ap (λ (x : Told). asked_numbers x.outcome) (touches_refused why z)

  pub touch_kept : (why : Refusal) → ready ≡ Err why → presence_in n ≡ (touch_of (presence_in n) t).presence
  touch_kept why z = ap (λ (x : Told). x.presence) (touches_refused why z)

  touches_found : (q : Presence) → ready ≡ Ok q → gave (granted_in (moved_to (presence_in n) t) t) ≡ touch_of (presence_in n) t
  unfolding touch_of
  touches_found q z =
      ap gave (granted_below (moved_to (presence_in n) t) t (early n (presence_in n) refl (presence_in n).asker t ready own_side q z))
      ∙ told_moved n (presence_in n) refl (presence_in n).asker t ready own_side q z (λ p. gave (granted_of p t))

  pub touch_found : (q : Presence) (found : Bool) (r : Asked) → ready ≡ Ok q → found ≡ (granted_in (moved_to (presence_in n) t) t).yes → r ≡ asked_numbers (Gives found) → r ≡ asked_numbers (touch_of (presence_in n) t).outcome
  touch_found q found r z y is = is ∙ ap (λ (b : Bool). asked_numbers (Gives b)) y ∙ ap (λ (x : Told). asked_numbers x.outcome) (touches_found q z)

  pub touch_moved : (q after : Presence) → ready ≡ Ok q → after ≡ (granted_in (moved_to (presence_in n) t) t).presence → after ≡ (touch_of (presence_in n) t).presence
  touch_moved q after z is = is ∙ ap (λ (x : Told). x.presence) (touches_found q z)

-- ---- numbers that stand for cases
-- a kind's number is that kind
pub kinded : (k : Kind) (number : ℕ) → number ≡ kind_no k → Some k ≡ kind_of number
unfolding kind_of
kinded Kind'.Register number e = rw e
kinded Kind'.Authenticate number e = rw e

pub no_kind : (number : ℕ) → (number ≡ 1 → ⊥) → (number ≡ 2 → ⊥) → None ≡ kind_of number
unfolding kind_of
no_kind number a b = rw (ne_eqb number 1 a, ne_eqb number 2 b)

-- ---- the decision
-- the session's decision, with the record and the block beside it, is the decision on what is lent: what is said of it by its answer, and what the session goes on with
module _ (answer : DecisionAnswer) (top : Head) (used : Bool) (q : Presence) (block : List ℕ) (a : Outcome DecisionGives) (p : Presence) (h : Head) (u : Bool) (b : List ℕ)
    (is : leaves (decision_answer_of answer) top used q block ≡ leaves a h u p b) where
  pub record_left : q ≡ p
  record_left = ap (λ (x : DecisionLeft). x.said.presence) is

  pub block_left : block ≡ b
  block_left = ap (λ (x : DecisionLeft). x.block) is

  answer_is : (d : DecisionAnswer) → answer ≡ d → decision_answer_of d ≡ a
  answer_is d z = ap decision_answer_of (sym z) ∙ ap (λ (x : DecisionLeft). x.said.answer) is

  said_by : (d : DecisionAnswer) (r : DecisionSaid) → answer ≡ d → r ≡ decided_numbers (decision_answer_of d) (head_after (decision_answer_of d) top) used → r ≡ decided_numbers a (head_after a h) u
  said_by d r z e =
      e ∙ ap (λ (x : DecisionAnswer). decided_numbers (decision_answer_of x) (head_after (decision_answer_of x) top) used) (sym z)
      ∙ ap (λ (x : DecisionLeft). decided_numbers x.said.answer (head_after x.said.answer x.said.head) x.said.taken) is

  pub said_refused : (why : Refusal) (r : DecisionSaid) → answer ≡ DecisionAnswer'.Refused why → r ≡ decided_numbers (R (refusal_no why)) no_order used → r ≡ decided_numbers a (head_after a h) u
  said_refused why r z e = said_by (DecisionAnswer'.Refused why) r z e

  pub said_status : (number kind place : ℕ) (r : DecisionSaid) → answer ≡ DecisionAnswer'.Status number kind place
      → r ≡ decided_numbers (Word (record { number = number; kind = kind; place = place })) no_order used → r ≡ decided_numbers a (head_after a h) u
  said_status number kind place r z e = said_by (DecisionAnswer'.Status number kind place) r z e

  pub said_body : (n : ℕ) (r : DecisionSaid) → answer ≡ DecisionAnswer'.Body n → r ≡ decided_numbers (Gives (Body n)) no_order used → r ≡ decided_numbers a (head_after a h) u
  said_body n r z e = said_by (DecisionAnswer'.Body n) r z e

  pub said_order : (r : DecisionSaid) → answer ≡ DecisionAnswer'.Order → r ≡ decided_numbers (Gives Ordered) (head_after (Gives Ordered) top) used → r ≡ decided_numbers a (head_after a h) u
  said_order r z e = said_by DecisionAnswer'.Order r z e

  pub said_part : (n : ℕ) (left : Remainder) (r : DecisionSaid) → answer ≡ DecisionAnswer'.Part n left → r ≡ decided_numbers (Gives (Part n left)) no_order used → r ≡ decided_numbers a (head_after a h) u
  said_part n left r z e = said_by (DecisionAnswer'.Part n left) r z e

  module _ (frame : List ℕ) (lent : Session) where
    abbrev GoesOn : Session → Type 0
    GoesOn s = s ≡ session_after a (read_of frame) lent

    goes : (d : DecisionAnswer) (s : Session) → answer ≡ d → s ≡ session_after (decision_answer_of d) (read_of frame) lent → GoesOn s
    goes d s z e = e ∙ ap (λ (o : Outcome DecisionGives). session_after o (read_of frame) lent) (answer_is d z)

    pub goes_refused : (why : Refusal) → answer ≡ DecisionAnswer'.Refused why → GoesOn lent
    goes_refused why z = goes (DecisionAnswer'.Refused why) lent z refl

    module _ (limit : ℕ) (is_limit : limit ≡ frame_limit frame) (s : Session) where
      limited : (k : Remainder) → s ≡ record { remainder = k; limit = limit } → s ≡ record { remainder = k; limit = limit_on (read_of frame) }
      unfolding frame_limit
      limited k e = e ∙ ap (λ (n : ℕ). record { remainder = k; limit = n }) is_limit

      pub goes_status : (number kind place : ℕ) (fetches : Bool) → answer ≡ DecisionAnswer'.Status number kind place → fetches ≡ is_get_response (read_of frame)
          → s ≡ record { remainder = when fetches then lent.remainder else rest 0 0; limit = limit } → GoesOn s
      goes_status number kind place fetches z f e = goes (DecisionAnswer'.Status number kind place) s z (limited _ e ∙ rw f)

      pub goes_body : (n : ℕ) → answer ≡ DecisionAnswer'.Body n → s ≡ record { remainder = rest 0 0; limit = limit } → GoesOn s
      goes_body n z e = goes (DecisionAnswer'.Body n) s z (limited _ e)

      pub goes_order : answer ≡ DecisionAnswer'.Order → s ≡ record { remainder = rest 0 0; limit = limit } → GoesOn s
      goes_order z e = goes DecisionAnswer'.Order s z (limited _ e)

      pub goes_part : (n : ℕ) (left : Remainder) → answer ≡ DecisionAnswer'.Part n left → s ≡ record { remainder = left; limit = limit } → GoesOn s
      goes_part n left z e = goes (DecisionAnswer'.Part n left) s z (limited _ e)

-- the next part of what the session says remains
module _ (session : SessionRecord) (body old : List ℕ) (k : Remainder) (limit : ℕ) (is_k : k ≡ remainder_in session) (is_limit : limit ≡ session.limit) (next : NextPart) (is_next : part_sent next ≡ (sending_of body k limit old).0) where
  sends : part_sent next ≡ (sending_of body (remainder_in session) (session.limit) old).0
  sends = is_next ∙ ap₂ (λ (r : Remainder) (n : ℕ). (sending_of body r n old).0) is_k is_limit

  sends_at : (d : NextPart) → next ≡ d → part_sent d ≡ (sending_of body (remainder_in session) (session.limit) old).0
  sends_at d z = ap part_sent (sym z) ∙ sends

  pub next_refused : (why : Refusal) (r : Wrote) → next ≡ Err why → r ≡ record { answer = refusal_no why; length = 0 } → r ≡ sent_numbers (sending_of body (remainder_in session) (session.limit) old).0
  next_refused why r z e = e ∙ ap sent_numbers (sends_at (Err why) z)

  pub next_kept : (why : Refusal) → next ≡ Err why → session_in session ≡ sent_over (sending_of body (remainder_in session) (session.limit) old).0 (session_in session)
  next_kept why z = ap (λ (o : Outcome Sent). sent_over o (session_in session)) (sends_at (Err why) z)

  pub next_sent : (sent : Sent) (r : Wrote) → next ≡ Ok sent → r ≡ record { answer = 0x9000; length = sent.length } → r ≡ sent_numbers (sending_of body (remainder_in session) (session.limit) old).0
  next_sent sent r z e = e ∙ ap sent_numbers (sends_at (Ok sent) z)

  pub next_left : (sent : Sent) (s : Session) → next ≡ Ok sent → s ≡ record { remainder = sent.remainder; limit = limit } → s ≡ sent_over (sending_of body (remainder_in session) (session.limit) old).0 (session_in session)
  next_left sent s z e = e ∙ ap (λ (m : ℕ). record { remainder = sent.remainder; limit = m }) is_limit ∙ ap (λ (o : Outcome Sent). sent_over o (session_in session)) (sends_at (Ok sent) z)

  pub next_laid : (new : List ℕ) → new ≡ (sending_of body k limit old).1 → new ≡ (sending_of body (remainder_in session) (session.limit) old).1
  next_laid new e = e ∙ ap₂ (λ (r : Remainder) (n : ℕ). (sending_of body r n old).1) is_k is_limit

-- ---- finishing
-- the order as numbers, and what signing's finishing is then lent
abbrev to_finish : (n : OrderNumbers) (block certificate : List ℕ) (signed : ℕ) (signature reply : List ℕ) → ToFinish
to_finish n block certificate signed signature reply =
    record { order = n; block = block; certificate = certificate; signed = signed; signature = signature; reply = reply }

abbrev finishing : (kind : Kind) (n : OrderNumbers) (block certificate : List ℕ) (signed : Bool) (signature reply : List ℕ) → Finishing
finishing kind n block certificate signed signature reply =
    record { order = order_from kind n block; certificate = certificate; signed = signed; signature = signature; reply = reply }

module _ (n : OrderNumbers) (block certificate : List ℕ) (signed : ℕ) (signature reply : List ℕ) (kinded : Kinded) (is_kinded : kinded ≡ kind_of n.kind) where
  module _ (kind : Kind) (finished : Finished) (new : List ℕ) (z : kinded ≡ Some kind) (does : Finishes (finishing kind n block certificate (is_yes signed) signature reply) finished new) where
    pub finish_as : (r : Wrote) → r ≡ length_numbers (finished_of finished) → r ≡ length_numbers (length_of (finish_numbered (to_finish n block certificate signed signature reply)))
    finish_as r is = is ∙ ap length_numbers does.says ∙ rw (← is_kinded, z)

    pub reply_as : new ≡ reply_of (finish_numbered (to_finish n block certificate signed signature reply)) reply
    reply_as = does.leaves ∙ rw (← is_kinded, z)
