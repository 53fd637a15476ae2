-- The claims of specs/Claims.antt, each under its own name.
use Prim.Native.Nat.{ℕ, ◌+◌, ◌*◌, ◌<◌, ◌≤◌}
use mathlib.Core.Path.{◌≡◌, refl, ap, sym, subst, ◌∙◌}
use mathlib.Core.Bool.{Bool, true, false, true≢false}
use mathlib.Core.Logic.{◌↔◌, ◌⊎◌, inl, inr, ⊎_elim}
use mathlib.Core.List.{List, [], ◌∷◌, ◌++◌}
use mathlib.Core.Option.{Option, some}
use native.Mathlib.Omega.{arith}
use borrow.Author.Tests.{le-leb, lt-leb, eq-eqb, ne_eqb, eqb-true}
use lib.Dec.{eqb}
use lib.ListN.{length, drop}
use Rattle.outcome.specs.Notation.{when◌then◌else◌}
use Rattle.outcome.specs.Outcome.{StatusWord, Outcome, R, Word, Gives, plain_word, wrong_length, word_of}
use Rattle.outcome.proofs.Laws.{gives_same, word_same, word_gives, r_gives, r_word, both_are}
use Rattle.octets.specs.Bytes.{byte, pair_at}
use Rattle.octets.proofs.Laws.{laid_fits}
use Rattle.apdu_stated.specs.Answers.{Says, says_of}
use Rattle.apdu_stated.specs.Reading.{read_of}
use Rattle.apdu_stated.specs.declared.Entry.TheVariants.{Ordinary}
use Rattle.apdu_stated.specs.Terms.{OldForm}
use Rattle.apdu_stated.proofs.Laws.{old_at}
use Rattle.response_stated.specs.Parts.{limit_of}
use Rattle.command_stated.specs.Command.{Command, Register, Authenticate, Version, command_of, flags_no}
use Rattle.command_stated.proofs.Laws.{RegisterExactly, AuthenticateExactly, VersionExactly, GetResponseExactly, CommandPairsExactly, frame_status}
use Rattle.u2f_up_stated.specs.Moments.{moved_to, touch_closed}
use Rattle.u2f_up_stated.specs.History.{Role, Mark, Checking, TouchFound, side_of, is_touch_found, is_named, held_at, server_of, servers}
use Rattle.u2f_up_stated.specs.Runs.{after, comes_to, came_of, history}
use Rattle.u2f_up_stated.specs.Terms.{BadWindow, BadSide, NotRefused, HasTouch}
use Rattle.u2f_up_stated.specs.declared.Presence.{Presence}
use Rattle.u2f_up_stated.specs.Numbers.{presence_in}
use Rattle.signing_stated.proofs.Laws.{made_whole, room_most}
use Rattle.u2f_up_stated.proofs.Laws.{five_apart, demand_3, r_apart, servers_next, named_later, named_counts, count, length_those}
use Rattle.u2f_up_stated.specs.declared.PresenceRecord.{PresenceRecord}
use Rattle.signing_stated.specs.Orders.{kind_no, certificate_length, blank_order, is_of_layout}
use Rattle.signing_stated.specs.Finishing.{room_needed, register_room, authenticate_room}
use Rattle.ctap1_stated.specs.Words.{Remainder, rest, Inputs, Order, DecisionGives, Body, Ordered, Part, DecisionResult, Allowed, DecisionAlone, DecisionHanded, DecisionLeft, Decision, Hardware, left_from, handed_of, enrolment_of, unfetched, decision_answer_of}
use Rattle.ctap1_stated.specs.Numbers.{allowed_of, attestation_of, is_yes, hardware_of}
use Rattle.ctap1_stated.specs.Path.{limit_on, frame_limit, role_of, enrolment_order, register_ordered, register_path, login_path}
use Rattle.ctap1_stated.specs.Decision.{status_result, version_bytes, decision_of, reply_left}
use Rattle.ctap1_stated.specs.Session.{is_get_response, remainder_left, part_after, part_left}
use Rattle.ctap1_stated.specs.Calls.{PanelCall, DecideAt, panel_calls, seen}
use Rattle.ctap1_stated.specs.Terms.{AreBlocks, Comes, HasInsC0, Fetching, SaysPresent, OrdersPresent, check_only_answer}
use Rattle.ctap1_stated.specs.Table
use Rattle.ctap1_stated.specs.Claims
use Rattle.ctap1_stated.specs.Promises as Contract
use Rattle.ctap1_stated.specs.declared.Allowed.TheVariants as Allowed'
use Rattle.std.specs.Prelude.{Some}
use Rattle.ctap1_stated.specs.declared.DecisionAnswer.TheVariants as DecisionAnswer'
use Rattle.ctap1_stated.proofs.Ways.{Stated, its_own, framed, Way, refused, stated, versioned, fetched, enrolled, signed_03, signed_08, way, row, sound, registering_checks, signing_checks}
use Rattle.ctap1_stated.proofs.Commands as Commands
use Rattle.ctap1_stated.proofs.Contracted.{bare, as_decided, register_path_lem, login_path_lem, version_decided}
use Rattle.ctap1_stated.proofs.Orders.{body_order, part_order, part_body, MadeOf, of_enrolment, of_login, made_of}
use Rattle.ctap1_stated.specs.OneSide.{base_decision_of}
use Rattle.ctap1_stated.proofs.RoleKept.{panel_keeps}
use Rattle.ctap1_stated.proofs.OneSide.{base_decides, one_side_is_base}
use Rattle.ctap1_stated.proofs.Numbers.{decided_apart, decision_apart}
use Rattle.ctap1_stated.proofs.ByLengths.{by_lengths}

-- ---- the whole decision
pub DecidesExactly : Claims.DecidesExactly decision_of
DecidesExactly = row

abbrev Left : Inputs → List ℕ → DecisionResult → Type 0
Left a old r =
    ((r.answer ≡ Gives (Body 6)) × (6 ≤ a.room) × (reply_left r old ≡ 0x55 ∷ 0x32 ∷ 0x46 ∷ 0x5F ∷ 0x56 ∷ 0x32 ∷ drop 6 old))
    ⊎ (((n : ℕ) → r.answer ≡ Gives (Body n) → ⊥) × (reply_left r old ≡ old))

pub RepliesExactly : Claims.RepliesExactly decision_of reply_left
RepliesExactly p t a old long = go (decision_of p t a) (way p t a)
  where
    go : (r : DecisionResult) → Way p t a r → Left a old r
    go _ (refused n) = inr (λ n x. r_gives _ _ x, refl)
    go _ (stated n q w) = inr (λ n x. word_gives _ _ x, refl)
    go _ (versioned c room) = inl (refl, room, laid_fits version_bytes old (omega arith))
    go _ (fetched c sent) = inr (λ n x. part_body _ _ _ x, refl)
    go _ (enrolled said x l h) = inr (λ n x. body_order _ (sym x), refl)
    go _ (signed_03 said n x l k) = inr (λ n x. body_order _ (sym x), refl)
    go _ (signed_08 said n x k) = inr (λ n x. body_order _ (sym x), refl)

-- ---- what each answer leaves
pub SideRefusedExactly : Claims.SideRefusedExactly decision_of
SideRefusedExactly p t a = (λ e. due (decision_of p t a) (row p t a) e, λ b. ap (λ (r : DecisionResult). r.answer) (sound p t a _ (Table.r8 b.0 b.1)))
  where
    apart : (n : ℕ) → (n ≡ 8 → ⊥) → ◌≡◌ {A = Outcome DecisionGives} (R n) (R 8) → ⊥
    apart n d e = r_apart n 8 d e

    due : (r : DecisionResult) → Table.Answers p t a r → r.answer ≡ R 8 → (BadWindow p.w → ⊥) × BadSide a.side p.asker
    due _ (Table.r8 g b) e = (g, b)
    due _ (Table.r6 b) e = absurd (apart 6 (omega arith) e)
    due _ (Table.r1 g h b) e = absurd (apart 1 (omega arith) e)
    due _ (Table.failed ok y) e = absurd (r_word _ _ (sym e))
    due _ (Table.forbidden ok y) e = absurd (r_word _ _ (sym e))
    due _ (Table.frame ok y s c) e = absurd (r_word _ _ (sym e))
    due _ (Table.version_short ok c h) e = absurd (apart 2 (omega arith) e)
    due _ (Table.version ok c h) e = absurd (r_gives _ _ (sym e))
    due _ (Table.register_short said ok c h) e = absurd (apart 2 (omega arith) e)
    due _ (Table.register_6985 said x n) e = absurd (r_word _ _ (sym e))
    due _ (Table.register_other said x o) e = absurd (r_word _ _ (sym e))
    due _ (Table.not_stored said x l s) e = absurd (r_word _ _ (sym e))
    due _ (Table.long said x l s k) e = absurd (r_word _ _ (sym e))
    due _ (Table.missing said x l s k m) e = absurd (r_word _ _ (sym e))
    due _ (Table.no_attestation said x l s k m) e = absurd (r_word _ _ (sym e))
    due _ (Table.enrols said x l s k m) e = absurd (r_gives _ _ (sym e))
    due _ (Table.bad_handle p1 said ok c g) e = absurd (r_word _ _ (sym e))
    due _ (Table.check_only said ok c g) e = absurd (r_word _ _ (sym e))
    due _ (Table.sign_short p1 said ok c g n h) e = absurd (apart 2 (omega arith) e)
    due _ (Table.sign_6985 said x n) e = absurd (r_word _ _ (sym e))
    due _ (Table.sign_other said x o) e = absurd (r_word _ _ (sym e))
    due _ (Table.no_counter_03 said x l k) e = absurd (r_word _ _ (sym e))
    due _ (Table.signs_03 said n x l k) e = absurd (r_gives _ _ (sym e))
    due _ (Table.no_counter_08 said x k) e = absurd (r_word _ _ (sym e))
    due _ (Table.signs_08 said n x k) e = absurd (r_gives _ _ (sym e))
    due _ (Table.fetch_nothing ok c z) e = absurd (r_word _ _ (sym e))
    due _ (Table.fetch_short_body x h) e = absurd (apart 2 (omega arith) e)
    due _ (Table.fetch_short_part x g h) e = absurd (apart 2 (omega arith) e)
    due _ (Table.fetch n z x g h) e = absurd (r_gives _ _ (sym e))

pub RefusalChangesNothing : Claims.RefusalChangesNothing decision_of reply_left
RefusalChangesNothing p t a n old e = go (decision_of p t a) (way p t a) e
  where
    go : (r : DecisionResult) → Way p t a r → r.answer ≡ R n → (r.presence ≡ p) × (reply_left r old ≡ old) × (r.taken ≡ false) × (r.order ≡ blank_order)
    go _ (refused m) x = (refl, refl, refl, refl)
    go _ (stated m q w) x = absurd (r_word _ _ (sym x))
    go _ (versioned c room) x = absurd (r_gives _ _ (sym x))
    go _ (fetched c sent) x = absurd (r_gives _ _ (sym x))
    go _ (enrolled said y l h) x = absurd (r_gives _ _ (sym x))
    go _ (signed_03 said m y l k) x = absurd (r_gives _ _ (sym x))
    go _ (signed_08 said m y k) x = absurd (r_gives _ _ (sym x))

pub CounterExactly : Claims.CounterExactly decision_of
CounterExactly p t a blocks = (λ e. forth (decision_of p t a) (way p t a) e, λ e. back (decision_of p t a) (way p t a) e.0 e.1)
  where
    forth : (r : DecisionResult) → Way p t a r → r.taken ≡ true → (r.answer ≡ Gives Ordered) × (kind_no r.order.kind ≡ 0x02)
    forth _ (refused m) x = absurd (true≢false (sym x))
    forth _ (stated m q w) x = absurd (true≢false (sym x))
    forth _ (versioned c room) x = absurd (true≢false (sym x))
    forth _ (fetched c sent) x = absurd (true≢false (sym x))
    forth _ (enrolled said y l h) x = absurd (true≢false (sym x))
    forth _ (signed_03 said m y l k) x = (refl, Commands.kind_is a 0x03 said true m y.1.1)
    forth _ (signed_08 said m y k) x = (refl, Commands.kind_is a 0x08 said false m y.1.1)

    back : (r : DecisionResult) → Way p t a r → r.answer ≡ Gives Ordered → kind_no r.order.kind ≡ 0x02 → r.taken ≡ true
    back _ (refused m) x k = absurd (r_gives _ _ x)
    back _ (stated m q w) x k = absurd (word_gives _ _ x)
    back _ (versioned c room) x k = absurd (body_order _ x)
    back _ (fetched c sent) x k = absurd (part_order _ _ x)
    back _ (enrolled said y l h) x k = absurd (omega (arith, Commands.register_kind a blocks said y.1.1 h))
    back _ (signed_03 said m y l n) x k = refl
    back _ (signed_08 said m y n) x k = refl

-- ---- orders
pub OrdersOfLayout : Claims.OrdersOfLayout decision_of
unfolding enrolment_order
OrdersOfLayout p t a blocks e = go (made_of p t a blocks e)
  where
    go : {k : ℕ} {o : Order} → MadeOf a k o → is_of_layout o ≡ true
    go (of_enrolment said c l) = Commands.register_of_layout a blocks said c l.handle
    go (of_login p1 n said c k l) = Commands.of_layout a p1 said (eqb p1 0x03) n c

pub NoOrderIsBlank : Claims.NoOrderIsBlank decision_of
NoOrderIsBlank p t a f none same = (blank, (Commands.blank_refused).1 f (same ∙ blank))
  where
    go : (r : DecisionResult) → Way p t a r → (r.answer ≡ Gives Ordered → ⊥) → r.order ≡ blank_order
    go _ (refused m) n = refl
    go _ (stated m q w) n = refl
    go _ (versioned c room) n = refl
    go _ (fetched c sent) n = refl
    go _ (enrolled said y l h) n = absurd (n refl)
    go _ (signed_03 said m y l k) n = absurd (n refl)
    go _ (signed_08 said m y k) n = absurd (n refl)

    blank : (decision_of p t a).order ≡ blank_order
    blank = go (decision_of p t a) (way p t a) none

-- the room of an order was there, whatever x and y
pub order_has_room : (p : Presence) (t : ℕ) (a : Inputs) → (decision_of p t a).answer ≡ Gives Ordered → room_needed (decision_of p t a).order ≤ a.room
unfolding enrolment_order
order_has_room p t a = go (decision_of p t a) (way p t a)
  where
    enrolment_room : (said : Says) → room_needed (register_ordered a said) ≤ register_room (length a.new_handle) (length a.certificate)
    enrolment_room said = room_most _ _

    go : (r : DecisionResult) → Way p t a r → r.answer ≡ Gives Ordered → room_needed r.order ≤ a.room
    go _ (refused m) x = absurd (r_gives _ _ x)
    go _ (stated m q w) x = absurd (word_gives _ _ x)
    go _ (versioned c room) x = absurd (body_order _ x)
    go _ (fetched c sent) x = absurd (part_order _ _ x)
    go _ (enrolled said y l h) x = omega (arith, enrolment_room said, y.2)
    go _ (signed_03 said m y l k) x = rw (Commands.room_is a 0x03 said true m y.1.1) y.3
    go _ (signed_08 said m y k) x = rw (Commands.room_is a 0x08 said false m y.1.1) y.3

-- and its frame is in a shape
pub order_read : (p : Presence) (t : ℕ) (a : Inputs) → (decision_of p t a).answer ≡ Gives Ordered → (said : Says) × (read_of a.frame ≡ Gives said)
order_read p t a = go (decision_of p t a) (way p t a)
  where
    go : (r : DecisionResult) → Way p t a r → r.answer ≡ Gives Ordered → (said : Says) × (read_of a.frame ≡ Gives said)
    go _ (refused m) x = absurd (r_gives _ _ x)
    go _ (stated m q w) x = absurd (word_gives _ _ x)
    go _ (versioned c room) x = absurd (body_order _ x)
    go _ (fetched c sent) x = absurd (part_order _ _ x)
    go _ (enrolled said y l h) x = (said, ((RegisterExactly a.frame said).0 y.1.1).0)
    go _ (signed_03 said m y l k) x = (said, ((AuthenticateExactly a.frame 0x03 said).0 y.1.1).0)
    go _ (signed_08 said m y k) x = (said, ((AuthenticateExactly a.frame 0x08 said).0 y.1.1).0)

-- what an order was asked for with: its command, by which kind and room are known, and that the room was there
pub data AskedWith (a : Inputs) : (kind room : ℕ) → Type 0 where
  of_register : (said : Says) → command_of a.frame ≡ Gives (Register said) → AskedWith a 0x01 (register_room (length a.new_handle) (length a.certificate))
  of_authenticate : (p1 : ℕ) (said : Says) → command_of a.frame ≡ Gives (Authenticate p1 said) → AskedWith a 0x02 authenticate_room

asked_as : (a : Inputs) (k m n : ℕ) → m ≡ n → AskedWith a k n → AskedWith a k m
asked_as a k m n e x = rw e x

pub asked_with : (p : Presence) (t : ℕ) (a : Inputs) → AreBlocks a → (decision_of p t a).answer ≡ Gives Ordered
    → AskedWith a (kind_no (decision_of p t a).order.kind) (room_needed (decision_of p t a).order) × (room_needed (decision_of p t a).order ≤ a.room)
unfolding enrolment_order
asked_with p t a blocks e = (go (made_of p t a blocks e), order_has_room p t a e)
  where
    go : {k : ℕ} {o : Order} → MadeOf a k o → AskedWith a k (room_needed o)
    go (of_enrolment said c l) = asked_as a 0x01 _ _ (Commands.register_room_lem a blocks said c l.handle) (of_register said c)
    go (of_login p1 n said c k l) = asked_as a 0x02 _ _ (Commands.room_is a p1 said (eqb p1 0x03) n c) (of_authenticate p1 said c)

enrolment_whole : (a : Inputs) (said : Says) → length (register_ordered a said).bytes ≡ 385
unfolding enrolment_order
enrolment_whole a said = made_whole.0 _ _

pub order_whole : (p : Presence) (t : ℕ) (a : Inputs) → (decision_of p t a).answer ≡ Gives Ordered → length (decision_of p t a).order.bytes ≡ 385
order_whole p t a e = go (decision_of p t a) (way p t a) e
  where
    go : (r : DecisionResult) → Way p t a r → r.answer ≡ Gives Ordered → length r.order.bytes ≡ 385
    go _ (refused m) x = absurd (r_gives _ _ x)
    go _ (stated m q w) x = absurd (word_gives _ _ x)
    go _ (versioned c room) x = absurd (body_order _ x)
    go _ (fetched c sent) x = absurd (part_order _ _ x)
    go _ (enrolled said y l h) x = enrolment_whole a said
    go _ (signed_03 said m y l k) x = made_whole.1 _
    go _ (signed_08 said m y k) x = made_whole.1 _

pub OrderHasRoom : Claims.OrderHasRoom decision_of
OrderHasRoom p t a f blocks e same certificate room =
    let asked : room_needed (decision_of p t a).order ≤ a.room = order_has_room p t a e in
    Commands.room_kept f (ap is_of_layout same ∙ OrdersOfLayout p t a blocks e) (certificate ∙ ap certificate_length (sym same)) (rw same (omega (arith, asked, room)))

pub CertificateOfOrder : Claims.CertificateOfOrder decision_of
unfolding enrolment_order
CertificateOfOrder p t a blocks e = go (made_of p t a blocks e)
  where
    go : {k : ℕ} {o : Order} → MadeOf a k o → ((k ≡ 0x01) × (certificate_length o ≡ length a.certificate)) ⊎ ((k ≡ 0x02) × (certificate_length o ≡ 0))
    go (of_enrolment said c l) = inl (refl, Commands.register_certificate a blocks said c l.handle)
    go (of_login p1 n said c k l) = inr (refl, Commands.certificate_is a p1 said (eqb p1 0x03) n c)

-- ---- where a length went wrong
module _ (p : Presence) (t : ℕ) (a : Inputs) where
  word_number : (v w : StatusWord) → ◌≡◌ {A = Outcome DecisionGives} (Word v) (Word w) → v.number ≡ w.number
  word_number v w e = ap (λ (x : StatusWord). x.number) (word_same v w e)

  carried : (kind place : ℕ) (r : DecisionResult) → Way p t a r → r.answer ≡ wrong_length kind place
      → NotRefused p a.side t × (a.hardware.allowed ≡ Allowed'.Yes) × (command_of a.frame ≡ wrong_length kind place)
  carried kind place _ (refused m) x = absurd (r_word _ _ x)
  carried kind place _ (stated s q (its_own n other)) x = absurd (other (word_number _ _ x))
  carried kind place _ (stated s q (framed ok y e)) x = (ok, y, e ∙ ap Word (word_same s _ x))
  carried kind place _ (versioned c room) x = absurd (word_gives _ _ (sym x))
  carried kind place _ (fetched c sent) x = absurd (word_gives _ _ (sym x))
  carried kind place _ (enrolled said y l h) x = absurd (word_gives _ _ (sym x))
  carried kind place _ (signed_03 said m y l k) x = absurd (word_gives _ _ (sym x))
  carried kind place _ (signed_08 said m y k) x = absurd (word_gives _ _ (sym x))

  -- a status word of the decision: its own, or the frame's
  said_word : (s : StatusWord) (r : DecisionResult) → Way p t a r → r.answer ≡ Word s → Stated p t a s
  said_word s _ (refused m) x = absurd (r_word _ _ x)
  said_word s _ (stated v q w) x = subst (Stated p t a) (word_same v s x) w
  said_word s _ (versioned c room) x = absurd (word_gives _ _ (sym x))
  said_word s _ (fetched c sent) x = absurd (word_gives _ _ (sym x))
  said_word s _ (enrolled said y l h) x = absurd (word_gives _ _ (sym x))
  said_word s _ (signed_03 said m y l k) x = absurd (word_gives _ _ (sym x))
  said_word s _ (signed_08 said m y k) x = absurd (word_gives _ _ (sym x))

  paired : (s : StatusWord) → Stated p t a s → s.number ≡ 0x6700 → (1 ≤ s.kind) × (s.kind ≤ 3)
  paired _ (its_own n other) e = absurd (other e)
  paired s (framed ok y c) e = CommandPairsExactly.paired a.frame s c e

  not_paired : (s : StatusWord) → Stated p t a s → (s.number ≡ 0x6700 → ⊥) → s ≡ plain_word s.number
  not_paired _ (its_own n other) e = refl
  not_paired s (framed ok y c) e = CommandPairsExactly.no_other a.frame s c e

pub LengthsCarried : Claims.LengthsCarried decision_of
LengthsCarried p t a kind place = (
  λ e. carried p t a kind place (decision_of p t a) (way p t a) e,
  λ x. ap (λ (r : DecisionResult). r.answer) (sound p t a _ (Table.frame x.0 x.1 _ x.2)),
)

pub DecisionPairsExactly : Claims.DecisionPairsExactly decision_of
DecisionPairsExactly p t =
    record {
      paired = λ a s e. paired p t a s (said_word p t a s (decision_of p t a) (way p t a) e);
      no_other = λ a s e. not_paired p t a s (said_word p t a s (decision_of p t a) (way p t a) e);
    }

-- ---- a body in parts
pub LimitsExactly : Claims.LimitsExactly frame_limit
unfolding frame_limit limit_of
LimitsExactly =
    record {
      given = λ frame said r short n. rw (r, le-leb said.shape 4 short, ne_eqb said.le 0 n);
      absent = λ frame said r short e. rw (r, le-leb said.shape 4 short, eq-eqb said.le 0 e);
      extended = λ frame said r long. rw (r, lt-leb said.shape 4 long);
      no_shape = λ frame none. by (read_of frame) none;
    }
  where
    by : (o : Outcome Says) → ((said : Says) → o ≡ Gives said → ⊥) → limit_on o ≡ 0
    by (R n) none = refl
    by (Word s) none = refl
    by (Gives said) none = absurd (none said refl)

-- a shaped frame with INS C0, by its test
is_c0 : (a : Inputs) → is_get_response (read_of a.frame) ≡ true → HasInsC0 a
is_c0 a e = by (read_of a.frame) refl e
  where
    by : (o : Outcome Says) → read_of a.frame ≡ o → is_get_response o ≡ true → HasInsC0 a
    by (R n) r x = absurd (true≢false (sym x))
    by (Word s) r x = absurd (true≢false (sym x))
    by (Gives said) r x = (said, r, eqb-true said.header.ins 0xC0 x)

asked : (a : Inputs) → HasInsC0 a → is_get_response (read_of a.frame) ≡ true
asked a (said, r, i) = rw (r, i)

no_c0 : (a : Inputs) → (HasInsC0 a → ⊥) → is_get_response (read_of a.frame) ≡ false
no_c0 a n = by (is_get_response (read_of a.frame)) refl
  where
    by : (b : Bool) → is_get_response (read_of a.frame) ≡ b → b ≡ false
    by true e = absurd (n (is_c0 a e))
    by false e = refl

-- a part is sent to a frame that asks for it
fetching_asks : (p : Presence) (t : ℕ) (a : Inputs) → Fetching p t a → HasInsC0 a
fetching_asks p t a x = let f = (GetResponseExactly a.frame).0 x.1.1 in (f.0, f.1, f.3)

module _ (p : Presence) (t : ℕ) (a : Inputs) where
  drops : (HasInsC0 a → ⊥) → (r : DecisionResult) → Way p t a r → ((n : ℕ) → r.answer ≡ R n → ⊥) → remainder_left a r ≡ rest 0 0
  drops n _ (refused m) x = absurd (x m refl)
  drops n _ (stated m q w) x = rw (no_c0 a n)
  drops n _ (versioned c room) x = refl
  drops n _ (fetched c sent) x = absurd (n (fetching_asks p t a c))
  drops n _ (enrolled said y l h) x = refl
  drops n _ (signed_03 said m y l k) x = refl
  drops n _ (signed_08 said m y k) x = refl

  -- where it was dropped, nobody asked and nothing was refused
  abbrev Dropped : DecisionResult → Type 0
  Dropped r = (HasInsC0 a → ⊥) × ((n : ℕ) → r.answer ≡ R n → ⊥)

  counts : a.remainder ≡ rest 0 0 → a.remainder.count ≡ 0
  counts e = ap (λ (r : Remainder). r.count) e

  other_ins : (k : ℕ) (said : Says) → read_of a.frame ≡ Gives said → said.header.ins ≡ k → (k ≡ 0xC0 → ⊥) → HasInsC0 a → ⊥
  other_ins k said r i n (told, q, j) = n (sym i ∙ ap (λ (s : Says). s.header.ins) (gives_same said told (sym r ∙ q)) ∙ j)

  signing : (p1 : ℕ) (said : Says) → command_of a.frame ≡ Gives (Authenticate p1 said) → HasInsC0 a → ⊥
  signing p1 said c = let f = (AuthenticateExactly a.frame p1 said).0 c in other_ins 0x02 said f.0 f.2 (λ e. omega arith)

  was_dropped : 0 < a.remainder.count → (r : DecisionResult) → Way p t a r → ((n : ℕ) (after : Remainder) → r.answer ≡ Gives (Part n after) → ⊥) → remainder_left a r ≡ rest 0 0 → Dropped r
  was_dropped more _ (refused m) x e = absurd (omega (arith, counts e))
  was_dropped more _ (stated m q w) x e = (λ y. omega (arith, counts (rw (asked a y) at e)), λ n z. r_word _ _ (sym z))
  was_dropped more _ (versioned c room) x e = let f = (VersionExactly a.frame).0 c.1 in (other_ins 0x03 f.0 f.1 f.3 (λ e. omega arith), λ n z. r_gives _ _ (sym z))
  was_dropped more _ (fetched c sent) x e = absurd (x _ _ refl)
  was_dropped more _ (enrolled said y l h) x e = let f = (RegisterExactly a.frame said).0 y.1.1 in (other_ins 0x01 said f.0 f.2 (λ e. omega arith), λ n z. r_gives _ _ (sym z))
  was_dropped more _ (signed_03 said m y l k) x e = (signing 0x03 said y.1.1, λ n z. r_gives _ _ (sym z))
  was_dropped more _ (signed_08 said m y k) x e = (signing 0x08 said y.1.1, λ n z. r_gives _ _ (sym z))

pub RemainderExactly : Claims.RemainderExactly decision_of remainder_left
RemainderExactly =
    record {
      refused = λ p t a n e. rw e;
      fetched = λ p t a n after e. rw e;
      kept = λ p t a w y e. rw (e, asked a y);
      dropped = λ p t a n x. drops p t a n (decision_of p t a) (way p t a) x;
      exactly = λ p t a more x. (was_dropped p t a more (decision_of p t a) (way p t a) x, λ y. drops p t a y.0 (decision_of p t a) (way p t a) y.1);
    }

-- the old form is in no shape
module _ (p : Presence) (t : ℕ) (a : Inputs) (old : OldForm a.frame) (passes : NotRefused p a.side t) where
  old_read : read_of a.frame ≡ wrong_length 2 (7 + pair_at a.frame 5)
  old_read = old_at a.frame Ordinary old

  old_said : a.hardware.allowed ≡ Allowed'.Yes → (decision_of p t a).answer ≡ wrong_length 2 (7 + pair_at a.frame 5)
  old_said allowed = ap (λ (r : DecisionResult). r.answer) (sound p t a _ (Table.frame passes allowed _ (frame_status a.frame _ old_read)))

  -- a status word, whatever 'allowed' is
  old_word : (k : Allowed) → a.hardware.allowed ≡ k → (w : StatusWord) × ((decision_of p t a).answer ≡ Word w)
  old_word Allowed'.Yes e = (_, old_said e)
  old_word Allowed'.No e = (_, ap (λ (r : DecisionResult). r.answer) (sound p t a _ (Table.forbidden passes e)))
  old_word Allowed'.Failed e = (_, ap (λ (r : DecisionResult). r.answer) (sound p t a _ (Table.failed passes e)))

pub OldFormRefused : Claims.OldFormRefused decision_of remainder_left
OldFormRefused = record { answer = old_said; drops = dropped }
  where
    dropped : (p : Presence) (t : ℕ) (a : Inputs) → OldForm a.frame → NotRefused p a.side t → remainder_left a (decision_of p t a) ≡ rest 0 0
    dropped p t a old ok = let w = old_word p t a old ok a.hardware.allowed refl in rw (w.1, old_read p t a old ok)

-- and whatever meets the claim is that
pub only_remainder : (left : Inputs → DecisionResult → Remainder) → Claims.RemainderExactly decision_of left → (p : Presence) (t : ℕ) (a : Inputs) → remainder_left a (decision_of p t a) ≡ left a (decision_of p t a)
only_remainder left exact p t a = go (decision_of p t a) (way p t a) refl
  where
    drop : (r : DecisionResult) → decision_of p t a ≡ r → (HasInsC0 a → ⊥) → ((n : ℕ) → r.answer ≡ R n → ⊥) → rest 0 0 ≡ left a (decision_of p t a)
    drop r e n x = sym (exact.dropped p t a n (λ m z. x m (ap (λ (q : DecisionResult). q.answer) (sym e) ∙ z)))

    status : (b : Bool) → is_get_response (read_of a.frame) ≡ b → (r : DecisionResult) (s : StatusWord) → decision_of p t a ≡ r → r.answer ≡ Word s → (when b then a.remainder else rest 0 0) ≡ left a (decision_of p t a)
    status true y r s e w = sym (exact.kept p t a s (is_c0 a y) (ap (λ (q : DecisionResult). q.answer) e ∙ w))
    status false y r s e w = drop r e (λ z. true≢false (sym (asked a z) ∙ y)) (λ n z. r_word _ _ (sym z ∙ w))

    go : (r : DecisionResult) → Way p t a r → decision_of p t a ≡ r → remainder_left a r ≡ left a (decision_of p t a)
    go _ (refused m) e = sym (exact.refused p t a m (ap (λ (q : DecisionResult). q.answer) e))
    go _ (stated m q w) e = status (is_get_response (read_of a.frame)) refl _ m e refl
    go _ (versioned c room) e = let f = (VersionExactly a.frame).0 c.1 in drop _ e (other_ins p t a 0x03 f.0 f.1 f.3 (λ e. omega arith)) (λ n z. r_gives _ _ (sym z))
    go _ (fetched c sent) e = sym (exact.fetched p t a _ _ (ap (λ (q : DecisionResult). q.answer) e))
    go _ (enrolled said y l h) e = let f = (RegisterExactly a.frame said).0 y.1.1 in drop _ e (other_ins p t a 0x01 said f.0 f.2 (λ e. omega arith)) (λ n z. r_gives _ _ (sym z))
    go _ (signed_03 said m y l k) e = drop _ e (signing p t a 0x03 said y.1.1) (λ n z. r_gives _ _ (sym z))
    go _ (signed_08 said m y k) e = drop _ e (signing p t a 0x08 said y.1.1) (λ n z. r_gives _ _ (sym z))

pub PartsExactly : Claims.PartsExactly decision_of frame_limit part_left
PartsExactly = record { part = λ p t a body old n after e. rw e; other = λ p t a body old n. by (decision_of p t a).answer _ old n }
  where
    by : (o : Outcome DecisionGives) (response old : List ℕ) → ((n : ℕ) (after : Remainder) → o ≡ Gives (Part n after) → ⊥) → part_after o response old ≡ old
    by (R n) response old x = refl
    by (Word s) response old x = refl
    by (Gives (Body n)) response old x = refl
    by (Gives Ordered) response old x = refl
    by (Gives (Part n after)) response old x = absurd (x n after refl)

-- ---- check-only
pub CheckOnlyLooksAtNoTouch : Claims.CheckOnlyLooksAtNoTouch decision_of
CheckOnlyLooksAtNoTouch p t a said ok c = by a.hardware.allowed refl a.hardware.good refl
  where
    by : (w : Allowed) → a.hardware.allowed ≡ w → (g : Bool) → a.hardware.good ≡ g → decision_of p t a ≡ status_result (check_only_answer w g) (moved_to p t)
    by Allowed'.Failed y g e = sound p t a _ (Table.failed ok y)
    by Allowed'.No y g e = sound p t a _ (Table.forbidden ok y)
    by Allowed'.Yes y true e = sound p t a _ (Table.check_only said ok (y, c) e)
    by Allowed'.Yes y false e = sound p t a _ (Table.bad_handle 0x07 said ok (y, c) e)

-- ---- the record
pub KeepsToItsRole : Claims.KeepsToItsRole decision_of
KeepsToItsRole = panel_keeps

pub Demand3OfThePanel : Claims.Demand3OfThePanel panel_calls
Demand3OfThePanel = demand_3 panel_calls panel_keeps

-- ---- one side
pub BaseDecidesExactly : Claims.BaseDecidesExactly base_decision_of
BaseDecidesExactly = base_decides

pub OneSideIsBase : Claims.OneSideIsBase decision_of base_decision_of
OneSideIsBase = one_side_is_base

-- ---- the sentence on the box
-- one frame is one command
same_p1 : (a : Inputs) (c d : Command) → command_of a.frame ≡ Gives c → command_of a.frame ≡ Gives d → c ≡ d
same_p1 a c d e f = gives_same c d (sym e ∙ f)

p1_of : (a : Inputs) (p1 q1 : ℕ) (said told : Says) → command_of a.frame ≡ Gives (Authenticate p1 said) → command_of a.frame ≡ Gives (Authenticate q1 told) → p1 ≡ q1
p1_of a p1 q1 said told e f = let z = same_p1 a _ _ e f in cc

not_register : (a : Inputs) (p1 : ℕ) (said told : Says) → command_of a.frame ≡ Gives (Authenticate p1 said) → command_of a.frame ≡ Gives (Register told) → ⊥
not_register a p1 said told e f = let w = same_p1 a _ _ e f in let z : ◌≡◌ {A = ℕ} 0 1 = cc in omega arith

pub OrdersNeedATouch : Claims.OrdersNeedATouch decision_of
OrdersNeedATouch = record {
  touch = λ p t a o. touch p t a (decision_of p t a) (way p t a) o.0 o.1;
  present = λ p t a p1 said c e. present p t a p1 said c.1 (decision_of p t a) (way p t a) e;
  counter = λ p t a p1 said c e. counter p t a p1 said c.1 (decision_of p t a) (way p t a) e;
}
  where
    touch : (p : Presence) (t : ℕ) (a : Inputs) (r : DecisionResult) → Way p t a r → r.answer ≡ Gives Ordered → SaysPresent r.order → HasTouch p t × (p.asker ≡ a.side) × (r.presence ≡ touch_closed (moved_to p t))
    touch p t a _ (refused m) x o = absurd (r_gives _ _ x)
    touch p t a _ (stated m q w) x o = absurd (word_gives _ _ x)
    touch p t a _ (versioned c room) x o = absurd (body_order _ x)
    touch p t a _ (fetched c sent) x o = absurd (part_order _ _ x)
    touch p t a _ (enrolled said y l h) x o = (l.0, l.1, refl)
    touch p t a _ (signed_03 said m y l k) x o = (l.0, l.1, refl)
    touch p t a _ (signed_08 said m y k) x o = absurd (Commands.absent a 0x08 said m y.1.1 o)

    present : (p : Presence) (t : ℕ) (a : Inputs) (p1 : ℕ) (said : Says) → command_of a.frame ≡ Gives (Authenticate p1 said) → (r : DecisionResult) → Way p t a r → r.answer ≡ Gives Ordered
        → ((byte r.order.bytes 32 ≡ 0x01) ↔ (p1 ≡ 0x03)) × ((byte r.order.bytes 32 ≡ 0x00) ↔ (p1 ≡ 0x08))
    present p t a p1 said c _ (refused m) x = absurd (r_gives _ _ x)
    present p t a p1 said c _ (stated m q w) x = absurd (word_gives _ _ x)
    present p t a p1 said c _ (versioned d room) x = absurd (body_order _ x)
    present p t a p1 said c _ (fetched d sent) x = absurd (part_order _ _ x)
    present p t a p1 said c _ (enrolled told y l h) x = absurd (not_register a p1 said told c y.1.1)
    present p t a p1 said c _ (signed_03 told m y l k) x =
        let is = Commands.presence_is a 0x03 told true m y.1.1 in
        let z = p1_of a p1 0x03 said told c y.1.1 in
        ((λ e. z, λ e. is), (λ e. absurd (omega arith), λ e. absurd (omega arith)))
    present p t a p1 said c _ (signed_08 told m y k) x =
        let is = Commands.presence_is a 0x08 told false m y.1.1 in
        let z = p1_of a p1 0x08 said told c y.1.1 in
        ((λ e. absurd (omega arith), λ e. absurd (omega arith)), (λ e. z, λ e. is))

    counter : (p : Presence) (t : ℕ) (a : Inputs) (p1 : ℕ) (said : Says) → command_of a.frame ≡ Gives (Authenticate p1 said) → (r : DecisionResult) → Way p t a r → r.answer ≡ Gives Ordered
        → (n : ℕ) × (a.hardware.counter ≡ Some n) × (r.taken ≡ true)
        × (byte r.order.bytes 33 * 0x1000000 + byte r.order.bytes 34 * 0x10000 + byte r.order.bytes 35 * 256 + byte r.order.bytes 36 ≡ n)
    counter p t a p1 said c _ (refused m) x = absurd (r_gives _ _ x)
    counter p t a p1 said c _ (stated m q w) x = absurd (word_gives _ _ x)
    counter p t a p1 said c _ (versioned d room) x = absurd (body_order _ x)
    counter p t a p1 said c _ (fetched d sent) x = absurd (part_order _ _ x)
    counter p t a p1 said c _ (enrolled told y l h) x = absurd (not_register a p1 said told c y.1.1)
    counter p t a p1 said c _ (signed_03 told m y l k) x = (m, k, refl, Commands.counter_is a 0x03 told true m y.1.1)
    counter p t a p1 said c _ (signed_08 told m y k) x = (m, k, refl, Commands.counter_is a 0x08 told false m y.1.1)

-- such an order comes from a call that reaches the touch check, and the check succeeds
seen_spending : (p : Presence) (t : ℕ) (a : Inputs) (r : DecisionResult) → Way p t a r → r.answer ≡ Gives Ordered → SaysPresent r.order → (role_of a ≡ Checking a.side) × (seen (Checking a.side) r.answer ≡ Gives true)
seen_spending p t a _ (refused m) x o = absurd (r_gives _ _ x)
seen_spending p t a _ (stated m q w) x o = absurd (word_gives _ _ x)
seen_spending p t a _ (versioned c room) x o = absurd (body_order _ x)
seen_spending p t a _ (fetched c sent) x o = absurd (part_order _ _ x)
seen_spending p t a _ (enrolled said y l h) x o = (registering_checks p t a said y, refl)
seen_spending p t a _ (signed_03 said m y l k) x o = (signing_checks p t a said y, refl)
seen_spending p t a _ (signed_08 said m y k) x o = absurd (Commands.absent a 0x08 said m y.1.1 o)

module _ (w : ℕ) (least : 0 < w) (most : w ≤ 60000) (earlier : List PanelCall) (t : ℕ) (a : Inputs) (o : OrdersPresent (decision_of (after panel_calls w earlier) t a)) where
  now : Presence
  now = after panel_calls w earlier

  spending : (role_of a ≡ Checking a.side) × (seen (Checking a.side) (decision_of now t a).answer ≡ Gives true)
  unfolding now
  spending = seen_spending now t a (decision_of now t a) (way now t a) o.0 o.1

  checked : (k : Role) (s : ℕ) (o : Outcome DecisionGives) → k ≡ Checking s → seen (Checking s) o ≡ Gives true → came_of k (seen k o) ≡ TouchFound
  checked k s o e f = rw (e, f)

  found : comes_to panel_calls w earlier (DecideAt t a) ≡ TouchFound
  unfolding now
  found = checked (role_of a) a.side (decision_of now t a).answer spending.0 spending.1

  own : (k : Mark) × (server_of w (history panel_calls w earlier) ≡ some k) × (held_at w (history panel_calls w earlier) t ≡ k ∷ []) × (k.side ≡ a.side)
  unfolding now
  own =
      let k = (demand_3 panel_calls panel_keeps w least most earlier).serves (DecideAt t a) found in
      (k.0, k.1, k.2, ap side_of (sym k.3 ∙ spending.0))

  -- the call names its touch
  named : (k : Mark) → server_of w (history panel_calls w earlier) ≡ some k → servers w (history panel_calls w (DecideAt t a ∷ earlier)) ≡ some k ∷ servers w (history panel_calls w earlier)
  unfolding history
  named k e = servers_next w _ (history panel_calls w earlier) true (ap is_touch_found found) ∙ ap (λ (j : Option Mark). j ∷ servers w (history panel_calls w earlier)) e

pub OrdersHaveTheirTouch : Claims.OrdersHaveTheirTouch decision_of
OrdersHaveTheirTouch = record { own = own; apart = apart }
  where
    apart : (w : ℕ) → 0 < w → w ≤ 60000 → (earlier later : List PanelCall) (t u : ℕ) (a b : Inputs) (j k : Mark)
        → OrdersPresent (decision_of (after panel_calls w earlier) t a) → server_of w (history panel_calls w earlier) ≡ some j
        → OrdersPresent (decision_of (after panel_calls w (later ++ DecideAt t a ∷ earlier)) u b) → server_of w (history panel_calls w (later ++ DecideAt t a ∷ earlier)) ≡ some k
        → j.number ≡ k.number → ⊥
    apart w least most earlier later t u a b j k o e q f same =
        let mid = later ++ DecideAt t a ∷ earlier in
        let n = k.number in
        let first = ap (count (is_named n)) (named w least most earlier t a o j e) in
        let second = ap (count (is_named n)) (named w least most mid u b q k f) in
        let all = servers w (history panel_calls w (DecideAt u b ∷ mid)) in
        omega (
          arith,
          first,
          second,
          length_those (is_named n) all,
          (demand_3 panel_calls panel_keeps w least most (DecideAt u b ∷ mid)).once n,
          named_counts n j (servers w (history panel_calls w earlier)) same,
          named_counts n k (servers w (history panel_calls w mid)) refl,
          named_later panel_calls w n later (DecideAt t a ∷ earlier),
        )

-- ---- the contents of the new handle and the certificate
pub ByLengthsAlone : Claims.ByLengthsAlone decision_of
ByLengthsAlone = by_lengths

-- ---- what the answer says
pub SaidExactly : Claims.SaidExactly decision_answer_of
SaidExactly = record {
  refused = λ d why. (decided_apart _ _, ap decision_answer_of);
  status = λ d s. (decided_apart d (DecisionAnswer'.Status s.number s.kind s.place), ap decision_answer_of);
  body = λ d n. (decided_apart _ _, ap decision_answer_of);
  ordered = λ d. (decided_apart _ _, ap decision_answer_of);
  part = λ d n after. (decided_apart _ _, ap decision_answer_of);
}

-- ---- the contracts
-- Version's buffer, by its contract
version_reply : (n : PresenceRecord) (t : ℕ) (a : Inputs) (old : List ℕ) → NotRefused (presence_in n) a.side t → Comes a Version → length old ≡ a.room
    → (r : Decision) (after : PresenceRecord) (reply : List ℕ) → Contract.Version n t old r after reply
    → (6 ≤ length old → reply ≡ 0x55 ∷ 0x32 ∷ 0x46 ∷ 0x5F ∷ 0x56 ∷ 0x32 ∷ drop 6 old) × (length old < 6 → reply ≡ old)
version_reply n t a old ok c is r after reply h =
    let p = presence_in n in
    let left : reply ≡ reply_left (decision_of p t a) old = h.1 ∙ ap (λ (d : DecisionResult). reply_left d old) (version_decided decision_of DecidesExactly p t a ok (length old) c is) in
    let replies = RepliesExactly p t a old is in (
      λ enough.
          left
          ∙ ⊎_elim (λ x. x.2) (λ y. absurd (y.0 6 (ap (λ (d : DecisionResult). d.answer) (sound p t a _ (Table.version ok c (omega (arith, is, enough))))))) replies,
      λ short. left ∙ ⊎_elim (λ x. absurd (omega (arith, x.1, is, short))) (λ y. y.1) replies,
    )

pub ContractsAsClaimed : Claims.ContractsAsClaimed
ContractsAsClaimed =
    record {
      refused = λ why r h. (decided_apart _ _ (ap (λ (d : DecisionAlone). d.answer) h), bare r _ h);
      answered = λ s r h. ((SaidExactly.status r.answer (word_of s)).0 (ap (λ (d : DecisionAlone). d.answer) h), bare r _ h);
      version = λ g G n t a old ok c is r after reply h.
          let b = version_reply n t a old ok c is r after reply h in (h.0 ∙ ap handed_of (version_decided g G (presence_in n) t a ok (length old) c is), b.0, b.1);
      register = λ g G n t a h says old ok c is r after block l.
          let path = ap (λ (x : Hardware). register_path (unfetched a.side a.frame x (enrolment_of a.new_handle a.certificate a.x a.y) a.room) (says_of says)) is in
          as_decided g G (presence_in n) t a ok (Register (says_of says)) c _ (path ∙ register_path_lem g G (presence_in n) t a ok (says_of says)) r (presence_in after) old block l;
      authenticate = λ g G n t a h flags says old ok c is r after block l.
          let path = ap (λ (x : Hardware). login_path a.frame x a.room (flags_no flags) (says_of says)) is in
          as_decided g G (presence_in n) t a ok (Authenticate (flags_no flags) (says_of says)) c _ (path ∙ login_path_lem g G (presence_in n) t a ok (flags_no flags) (says_of says)) r (presence_in after) old block l;
    }

-- ---- two results are equal
pub DecidedOneToOne : Claims.DecidedOneToOne
DecidedOneToOne = decided_apart

-- a decision, the record's numbers and the block are determined together
pub left_apart : (x y : Decision × (PresenceRecord × List ℕ)) (o : DecisionLeft)
    → left_from x.0 (presence_in x.1.0) x.1.1 ≡ o → left_from y.0 (presence_in y.1.0) y.1.1 ≡ o → x ≡ y
left_apart x y o p q =
    let same = both_are _ _ p q in
    let decisions : x.0 ≡ y.0 = decision_apart x.0 y.0 (ap (λ (w : DecisionLeft). record { answer = w.said.answer; head = w.said.head; taken = w.said.taken }) same) in
    let records : x.1.0 ≡ y.1.0 = five_apart x.1.0 y.1.0 (ap (λ (w : DecisionLeft). w.said.presence) same) in
    λ d. (decisions d, (records d, (same d).block))

pub ResultsDetermined : Claims.ResultsDetermined
ResultsDetermined = record {
  refused = λ why x y p q. decision_apart x y (both_are _ _ p q);
  answered = λ s x y p q. decision_apart x y (both_are _ _ p q);
  version =
      λ presence t old x y p q.
      let same = both_are _ _ p.0 q.0 in
      let decisions : x.0 ≡ y.0 = decision_apart x.0 y.0 (ap (λ (w : DecisionHanded). record { answer = w.answer; head = w.head; taken = w.taken }) same) in
      let records : x.1.0 ≡ y.1.0 = five_apart x.1.0 y.1.0 (ap (λ (w : DecisionHanded). w.presence) same) in
      let replies : x.1.1 ≡ y.1.1 = both_are _ _ p.1 q.1 in
      λ d. (decisions d, (records d, replies d));
  register = λ frame side t presence n e room says old x y p q. left_apart x y _ p q;
  authenticate = λ frame side t presence n room flags says old x y p q. left_apart x y _ p q;
}

-- ---- the hardware's answers by their numbers
pub AllowedNumbers : Claims.AllowedNumbers allowed_of
unfolding allowed_of
AllowedNumbers =
    record { refused = refl; granted = refl; failed = λ n from. rw (ne_eqb n 0 (λ e. omega arith), ne_eqb n 1 (λ e. omega arith)) }

pub AttestationNumbers : Claims.AttestationNumbers attestation_of
unfolding attestation_of
AttestationNumbers =
    record { missing = refl; present = refl; failed = λ n from. rw (ne_eqb n 0 (λ e. omega arith), ne_eqb n 1 (λ e. omega arith)) }

pub YesNumbers : Claims.YesNumbers is_yes
YesNumbers = record { granted = refl; other = λ n e. ne_eqb n 1 e }

pub HardwareNumbers : Claims.HardwareNumbers hardware_of
HardwareNumbers =
    record {
      allowed = λ n. refl;
      attestation = λ n. refl;
      stored = λ n e. eq-eqb n.stored 1 e;
      not_stored = λ n e. ne_eqb n.stored 1 e;
      good = λ n e. eq-eqb n.good 1 e;
      not_good = λ n e. ne_eqb n.good 1 e;
      offered = λ n e. rw e;
      failed = λ n e. rw (ne_eqb n.counted 1 e);
    }
