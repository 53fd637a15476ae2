-- Only the definitions meet the claims: two functions that meet one agree on every input.
use Prim.Native.Nat.{ℕ, zero, suc, ◌+◌, ◌<◌}
use mathlib.Core.Bool.{Bool, true, false}
use native.Mathlib.Decide.{ℕ_discrete, dec_lt}
use mathlib.Core.Path.{◌≡◌, refl, ap, sym, subst, ◌∙◌}
use mathlib.Core.Logic.{◌⊎◌, inl, inr}
use mathlib.Core.List.{List}
use native.Mathlib.Omega.{arith}
use lib.ListN.{length}
use Rattle.outcome.specs.Notation.{Determines, Determines2, Determines3}
use Rattle.outcome.specs.Outcome.{StatusWord, Outcome, R, Word, Gives, last_refusal}
use Rattle.outcome.specs.Terms.{HasStatus}
use Rattle.outcome.proofs.Laws.{gives_same, r_gives, r_word, word_gives}
use Rattle.outcome.specs.Notation.{when◌then◌else◌}
use lib.Dec.{ltb}
use Rattle.apdu_stated.specs.Answers.{Says}
use Rattle.octets.specs.Bytes.{AreBytes}
use Rattle.octets.specs.Terms.{DeterminesOn}
use Rattle.apdu_stated.specs.Reading.{read_by, read_of}
use Rattle.apdu_stated.specs.Writing.{Parts, parts_of, writing_by}
use Rattle.apdu_stated.specs.Claims as Frames
use Rattle.apdu_stated.proofs.Laws.{read_refuses_not, TableOf, CarryOf, reading_exactly, FrameWay, under, found, ends, goes_on, frame_way, write_exactly, WriteWay, unfit, no_room, written, write_way}
use Rattle.command_stated.specs.Command.{Register, Authenticate, Version, GetResponse}
use Rattle.ctap1_stated.specs.Words.{DecisionGives, Body, Ordered, Part, DecisionResult}
use Rattle.ctap1_stated.specs.Path.{frame_limit}
use Rattle.ctap1_stated.specs.Terms.{HasInsC0}
use Rattle.ctap1_stated.proofs.Laws.{sound, limits_exactly, Asked, is_refused, is_word, is_part, asked}
use Rattle.response_stated.specs.Words.{rest}
use Rattle.response_stated.specs.declared.Sent.{Sent}
use Rattle.response_stated.specs.Terms.{sending, sending_of, writing_of}
use Rattle.response_stated.specs.Parts.{limit_of, part_length, next_part_of, response_room_of}
use Rattle.response_stated.proofs.Laws.{next_exactly, room_exactly, writes_exactly, write_short, write_room, NextWay, short_body, short_buffer, given, next_way}
use Rattle.response_stated.specs.declared.Remainder.{Remainder}
use Rattle.signing_stated.specs.declared.Kind.{Kind}
use Rattle.signing_stated.specs.declared.Kind.TheVariants as Kind'
use Rattle.panel_stated.specs.Words.{DecisionSaid, Session, SessionRecord, presence_in, remainder_in, session_in, inputs_in, Entry, Ordinary, Strict, Case, Instruction, Le1, Lc1Data, Lc1DataLe1, Lc3Data, Lc3DataLe2, Le3, shape_no}
use Rattle.panel_stated.specs.Terms.{NoShape, nought, retired, above, SameNumbers, IsNumbered, AfterMaking, AfterWriting, AfterPart, AfterDeciding, Reports}
use Rattle.panel_stated.specs.Numbers.{decided_no}
use Rattle.panel_stated.proofs.Lists.{same_record}
use Rattle.panel_stated.specs.Exports.{ToDecide, decided_by}
use Rattle.panel_stated.proofs.Outcomes
use Rattle.panel_stated.specs.Claims
use Rattle.u2f_up_stated.specs.declared.PresenceRecord.{PresenceRecord}

-- ---- numbers that stand for cases
pub ShapeNumbers : Determines Claims.ShapeNumbers
ShapeNumbers f g p q zero = p.none 0 (nought refl) ∙ sym (q.none 0 (nought refl))
ShapeNumbers f g p q (suc zero) = p.instruction ∙ sym q.instruction
ShapeNumbers f g p q (suc (suc zero)) = p.le1 ∙ sym q.le1
ShapeNumbers f g p q (suc (suc (suc zero))) = p.lc1_data ∙ sym q.lc1_data
ShapeNumbers f g p q (suc (suc (suc (suc zero)))) = p.lc1_data_le1 ∙ sym q.lc1_data_le1
ShapeNumbers f g p q (suc (suc (suc (suc (suc zero))))) = p.lc3_data ∙ sym q.lc3_data
ShapeNumbers f g p q (suc (suc (suc (suc (suc (suc zero)))))) = p.none 6 (retired refl) ∙ sym (q.none 6 (retired refl))
ShapeNumbers f g p q (suc (suc (suc (suc (suc (suc (suc zero))))))) = p.lc3_data_le2 ∙ sym q.lc3_data_le2
ShapeNumbers f g p q (suc (suc (suc (suc (suc (suc (suc (suc zero)))))))) = p.le3 ∙ sym q.le3
ShapeNumbers f g p q (suc (suc (suc (suc (suc (suc (suc (suc (suc n))))))))) = p.none (suc (suc (suc (suc (suc (suc (suc (suc (suc n))))))))) (above (omega arith)) ∙ sym (q.none (suc (suc (suc (suc (suc (suc (suc (suc (suc n))))))))) (above (omega arith)))

pub KindNumbers : Determines Claims.KindNumbers
KindNumbers f g p q zero = p.none 0 (inl refl) ∙ sym (q.none 0 (inl refl))
KindNumbers f g p q (suc zero) = p.register ∙ sym q.register
KindNumbers f g p q (suc (suc zero)) = p.authenticate ∙ sym q.authenticate
KindNumbers f g p q (suc (suc (suc n))) = p.none (suc (suc (suc n))) (inr (omega arith)) ∙ sym (q.none (suc (suc (suc n))) (inr (omega arith)))

-- ---- what is not said is 0
pub FrameNumbers : Determines Claims.FrameNumbers
FrameNumbers f g p q (R n) = p.refused n ∙ sym (q.refused n)
FrameNumbers f g p q (Word s) = p.status s ∙ sym (q.status s)
FrameNumbers f g p q (Gives s) = p.given s ∙ sym (q.given s)

pub CommandNumbers : Determines Claims.CommandNumbers
CommandNumbers f g p q (R n) = p.refused n ∙ sym (q.refused n)
CommandNumbers f g p q (Word s) = p.status s ∙ sym (q.status s)
CommandNumbers f g p q (Gives Version) = p.version ∙ sym q.version
CommandNumbers f g p q (Gives GetResponse) = p.get_response ∙ sym q.get_response
CommandNumbers f g p q (Gives (Register s)) = p.register s ∙ sym (q.register s)
CommandNumbers f g p q (Gives (Authenticate p1 s)) = p.authenticate p1 s ∙ sym (q.authenticate p1 s)

pub LengthNumbers : Determines Claims.LengthNumbers
LengthNumbers f g p q (R n) = p.refused n ∙ sym (q.refused n)
LengthNumbers f g p q (Word s) = p.status s ∙ sym (q.status s)
LengthNumbers f g p q (Gives n) = p.given n ∙ sym (q.given n)

pub ResponseNumbers : Determines Claims.ResponseNumbers
ResponseNumbers f g p q (R n) = p.refused n ∙ sym (q.refused n)
ResponseNumbers f g p q (Word s) = p.status s ∙ sym (q.status s)
ResponseNumbers f g p q (Gives r) = p.given r ∙ sym (q.given r)

pub SentNumbers : Determines Claims.SentNumbers
SentNumbers f g p q (R n) = p.refused n ∙ sym (q.refused n)
SentNumbers f g p q (Word s) = p.status s ∙ sym (q.status s)
SentNumbers f g p q (Gives sent) = p.given sent ∙ sym (q.given sent)

pub RoomNumbers : Determines Claims.RoomNumbers
RoomNumbers f g p q (R n) = p.refused n ∙ sym (q.refused n)
RoomNumbers f g p q (Word s) = p.status s ∙ sym (q.status s)
RoomNumbers f g p q (Gives n) = p.given n ∙ sym (q.given n)

pub AskedNumbers : Determines Claims.AskedNumbers
AskedNumbers f g p q (R n) = p.refused n ∙ sym (q.refused n)
AskedNumbers f g p q (Word s) = p.status s ∙ sym (q.status s)
AskedNumbers f g p q (Gives b) = p.given b ∙ sym (q.given b)

pub OrderNumbersExactly : Determines2 Claims.OrderNumbersExactly
OrderNumbersExactly f g p q (R n) o = p.refused n o ∙ sym (q.refused n o)
OrderNumbersExactly f g p q (Word s) o = p.status s o ∙ sym (q.status s o)
OrderNumbersExactly f g p q (Gives (Body n)) o = p.body n o ∙ sym (q.body n o)
OrderNumbersExactly f g p q (Gives (Part n after)) o = p.part n after o ∙ sym (q.part n after o)
OrderNumbersExactly f g p q (Gives Ordered) o = by_kind o.kind refl
  where
    by_kind : (k : Kind) → o.kind ≡ k → f (Gives Ordered) o ≡ g (Gives Ordered) o
    by_kind Kind'.Register e = p.register o e ∙ sym (q.register o e)
    by_kind Kind'.Authenticate e = p.authenticate o e ∙ sym (q.authenticate o e)

pub BlockExactly : Determines3 Claims.BlockExactly
BlockExactly f g p q (R n) bytes old = p.refused n bytes old ∙ sym (q.refused n bytes old)
BlockExactly f g p q (Word s) bytes old = p.status s bytes old ∙ sym (q.status s bytes old)
BlockExactly f g p q (Gives (Body n)) bytes old = p.body n bytes old ∙ sym (q.body n bytes old)
BlockExactly f g p q (Gives (Part n after)) bytes old = p.part n after bytes old ∙ sym (q.part n after bytes old)
BlockExactly f g p q (Gives Ordered) bytes old = p.ordered bytes old ∙ sym (q.ordered bytes old)

decision_equal : (a b : DecisionSaid) → a.answer ≡ b.answer → a.fault ≡ b.fault → a.place ≡ b.place → a.length ≡ b.length → a.taken ≡ b.taken → a.order ≡ b.order → a ≡ b
decision_equal a b e f n l t o = λ d. record { answer = e d; fault = f d; taken = t d; length = l d; order = o d; place = n d }

pub DecisionNumbers : Determines Claims.DecisionNumbers
DecisionNumbers f g p q r =
    let all = by_answer r.answer refl in
    decision_equal (f r) (g r) all.0 all.1 all.2 all.3 (p.taken r ∙ sym (q.taken r)) (p.order r ∙ sym (q.order r))
  where
    Alike : Type 0
    Alike = ((f r).answer ≡ (g r).answer) × ((f r).fault ≡ (g r).fault) × ((f r).place ≡ (g r).place) × ((f r).length ≡ (g r).length)

    alike : (n m at long : ℕ) → ((f r).answer ≡ n) × ((f r).fault ≡ m) × ((f r).place ≡ at) × ((f r).length ≡ long)
        → ((g r).answer ≡ n) × ((g r).fault ≡ m) × ((g r).place ≡ at) × ((g r).length ≡ long) → Alike
    alike n m at long a b = (a.0 ∙ sym b.0, a.1 ∙ sym b.1, a.2 ∙ sym b.2, a.3 ∙ sym b.3)

    by_answer : (o : Outcome DecisionGives) → r.answer ≡ o → Alike
    by_answer (R n) e = alike _ _ _ _ (p.refused r n e) (q.refused r n e)
    by_answer (Word s) e = alike _ _ _ _ (p.status r s e) (q.status r s e)
    by_answer (Gives (Body n)) e = alike _ _ _ _ (p.body r n e) (q.body r n e)
    by_answer (Gives (Part n after)) e = alike _ _ _ _ (p.part r n after e) (q.part r n after e)
    by_answer (Gives Ordered) e = alike _ _ _ _ (p.ordered r e) (q.ordered r e)

itself : {A : Type 0} (s : StatusWord) → HasStatus {A = A} s.number (Word s)
itself s = record { word = s; is = refl; numbered = refl }

-- ---- answers: of every outcome that an export has (`EveryOutcomeNumbered`)
pub AnswerTells : (f g : Outcome Bool → ℕ) → Claims.AnswerTells f → Claims.AnswerTells g → (o : Outcome Bool) → IsNumbered o → f o ≡ g o
AnswerTells f g p q (R n) h = (p.refused (R n) h n h.1).1 refl ∙ sym ((q.refused (R n) h n h.1).1 refl)
AnswerTells f g p q (Word s) h = (p.status (Word s) h s.number h.0 h.1).1 (itself s) ∙ sym ((q.status (Word s) h s.number h.0 h.1).1 (itself s))
AnswerTells f g p q (Gives b) h = (p.given (Gives b) h).1 (b, refl) ∙ sym ((q.given (Gives b) h).1 (b, refl))

pub DecisionTells : (f g : Outcome DecisionGives → ℕ) → Claims.DecisionTells f → Claims.DecisionTells g → (o : Outcome DecisionGives) → IsNumbered o → f o ≡ g o
DecisionTells f g p q (R n) h = (p.refused (R n) h n h.0 h.1).1 refl ∙ sym ((q.refused (R n) h n h.0 h.1).1 refl)
DecisionTells f g p q (Word s) h = (p.status (Word s) h s.number h.0 h.1).1 (itself s) ∙ sym ((q.status (Word s) h s.number h.0 h.1).1 (itself s))
DecisionTells f g p q (Gives (Body n)) h = (p.body (Gives (Body n)) h).1 (n, refl) ∙ sym ((q.body (Gives (Body n)) h).1 (n, refl))
DecisionTells f g p q (Gives (Part n after)) h = (p.part (Gives (Part n after)) h).1 (n, after, refl) ∙ sym ((q.part (Gives (Part n after)) h).1 (n, after, refl))
DecisionTells f g p q (Gives Ordered) h = (p.ordered (Gives Ordered) h).1 refl ∙ sym ((q.ordered (Gives Ordered) h).1 refl)

-- ---- the exported decision
part_body : (m n : ℕ) (k : Remainder) → ◌≡◌ {A = Outcome DecisionGives} (Gives (Part m k)) (Gives (Body n)) → ⊥
part_body m n k e = let z : ◌≡◌ {A = ℕ} 0 1 = cc in omega arith

part_order : (m : ℕ) (k : Remainder) → ◌≡◌ {A = Outcome DecisionGives} (Gives (Part m k)) (Gives Ordered) → ⊥
part_order m k e = let z : ◌≡◌ {A = ℕ} 0 1 = cc in omega arith

-- what a sender hands back
abbrev left_by : Outcome Sent → Remainder
left_by (R n) = rest 0 0
left_by (Word s) = rest 0 0
left_by (Gives sent) = sent.remainder

does_ask : (i : ToDecide) → Dec (HasInsC0 (inputs_in i))
does_ask i = by (read_of i.frame) refl
  where
    at : (said : Says) → read_of i.frame ≡ Gives said → Dec (said.header.ins ≡ 0xC0) → Dec (HasInsC0 (inputs_in i))
    at said e (yes k) = yes (said, e, k)
    at said e (no k) = no (λ x. k (ap (λ (s : Says). s.header.ins) (gives_same said x.0 (sym e ∙ x.1)) ∙ x.2))

    by : (o : Outcome Says) → read_of i.frame ≡ o → Dec (HasInsC0 (inputs_in i))
    by (R n) e = no (λ x. r_gives n x.0 (sym e ∙ x.1))
    by (Word s) e = no (λ x. word_gives s x.0 (sym e ∙ x.1))
    by (Gives said) e = at said e (ℕ_discrete said.header.ins 0xC0)

module _ (i : ToDecide) where
  -- a C0 is given no body and no order
  asked_body : (n : ℕ) (r : DecisionResult) → Asked (presence_in i.presence) i.moment (inputs_in i) r → r.answer ≡ Gives (Body n) → ⊥
  asked_body n _ (is_refused m) e = r_gives _ _ e
  asked_body n _ (is_word w q) e = word_gives _ _ e
  asked_body n _ (is_part a b c) e = part_body _ _ _ e

  asked_order : (r : DecisionResult) → Asked (presence_in i.presence) i.moment (inputs_in i) r → r.answer ≡ Gives Ordered → ⊥
  asked_order _ (is_refused m) e = r_gives _ _ e
  asked_order _ (is_word w q) e = word_gives _ _ e
  asked_order _ (is_part a b c) e = part_order _ _ e

  numbered : IsNumbered (decided_by i).answer
  numbered = Outcomes.decision_said (presence_in i.presence) i.moment (inputs_in i)

  module _ (f : ToDecide → AfterDeciding) (p : Claims.DecideExported f) where
    -- its row is the definition's
    the_row : (p.row i).0 ≡ decided_by i
    the_row = sym (sound (presence_in i.presence) i.moment (inputs_in i) (p.row i).0 (p.row i).1)

    reported : Reports (f i).said (decided_by i)
    reported = subst (λ (r : DecisionResult). Reports (f i).said r) the_row (p.row i).2

    recorded : presence_in (f i).presence ≡ (decided_by i).presence
    recorded = (p.row i).3 ∙ ap (λ (r : DecisionResult). r.presence) the_row

    limited : last_refusal < (f i).said.answer → (session_in (f i).session).limit ≡ frame_limit i.frame
    limited high = p.limit i frame_limit limits_exactly high

    sent : (f i).said.answer ≡ 0x0200
        → sending_of i.reply (remainder_in i.session) (frame_limit i.frame) i.part ≡ (Gives (sending (f i).said.length (remainder_in (f i).session)), (f i).part)
    sent is =
        subst (λ (l : ℕ). sending_of i.reply (remainder_in i.session) l i.part ≡ (Gives (sending (f i).said.length (remainder_in (f i).session)), (f i).part)) (limited (omega (arith, is)))
        (p.part i sending_of next_exactly is)

    ordered : (f i).said.answer ≡ 0x0100 → (f i).block ≡ (decided_by i).order.bytes
    ordered is = (p.row i).4 is ∙ ap (λ (r : DecisionResult). r.order.bytes) the_row

    dropped : (HasInsC0 (inputs_in i) → ⊥) → last_refusal < (f i).said.answer → remainder_in (f i).session ≡ rest 0 0
    dropped n high = p.drops i (λ said r c. n (said, r, c)) high

  module _ (f g : ToDecide → AfterDeciding) (p : Claims.DecideExported f) (q : Claims.DecideExported g) where
    same_answer : (f i).said.answer ≡ (g i).said.answer
    same_answer = (reported f p).answer ∙ sym (reported g q).answer

    by_remainder : (o : Outcome DecisionGives) → (decided_by i).answer ≡ o → IsNumbered o → (f i).said.answer ≡ decided_no o → (g i).said.answer ≡ decided_no o
        → Dec (HasInsC0 (inputs_in i)) → remainder_in (f i).session ≡ remainder_in (g i).session
    by_remainder (R n) e h a b d = ap (λ (s : Session). s.remainder) (p.refused i (omega (arith, h.1, a)) ∙ sym (q.refused i (omega (arith, h.1, b))))
    by_remainder (Word s) e h a b (yes x) =
        p.keeps i x.0 x.1 x.2 (omega (arith, h.0, a)) (omega (arith, h.1, a)) ∙ sym (q.keeps i x.0 x.1 x.2 (omega (arith, h.0, b)) (omega (arith, h.1, b)))
    by_remainder (Word s) e h a b (no x) = dropped f p x (omega (arith, h.0, a)) ∙ sym (dropped g q x (omega (arith, h.0, b)))
    by_remainder (Gives (Body n)) e h a b (yes x) = absurd (asked_body n (decided_by i) (asked (presence_in i.presence) i.moment (inputs_in i) x) e)
    by_remainder (Gives (Body n)) e h a b (no x) = dropped f p x (omega (arith, a)) ∙ sym (dropped g q x (omega (arith, b)))
    by_remainder (Gives Ordered) e h a b (yes x) = absurd (asked_order (decided_by i) (asked (presence_in i.presence) i.moment (inputs_in i) x) e)
    by_remainder (Gives Ordered) e h a b (no x) = dropped f p x (omega (arith, a)) ∙ sym (dropped g q x (omega (arith, b)))
    by_remainder (Gives (Part n k)) e h a b d = ap (λ (o : Outcome Sent × List ℕ). left_by o.0) (sym (sent f p a) ∙ sent g q b)

    by_limit : Dec (last_refusal < (f i).said.answer) → (session_in (f i).session).limit ≡ (session_in (g i).session).limit
    by_limit (yes h) = limited f p h ∙ sym (limited g q (omega (arith, h, same_answer)))
    by_limit (no h) = ap (λ (s : Session). s.limit) (p.refused i (omega (arith, h)) ∙ sym (q.refused i (omega (arith, h, same_answer))))

    by_reply : Dec ((f i).said.answer ≡ 0x9000) → (f i).reply ≡ (g i).reply
    by_reply (yes is) = p.version i is ∙ sym (q.version i (sym same_answer ∙ is))
    by_reply (no n) = p.reply i n ∙ sym (q.reply i (λ is. n (same_answer ∙ is)))

    by_block : Dec ((f i).said.answer ≡ 0x0100) → (f i).block ≡ (g i).block
    by_block (yes is) = ordered f p is ∙ sym (ordered g q (sym same_answer ∙ is))
    by_block (no n) = p.block i n ∙ sym (q.block i (λ is. n (same_answer ∙ is)))

    by_part : Dec ((f i).said.answer ≡ 0x0200) → (f i).part ≡ (g i).part
    by_part (yes is) = ap (λ (o : Outcome Sent × List ℕ). o.1) (sym (sent f p is) ∙ sent g q (sym same_answer ∙ is))
    by_part (no n) = p.no_part i n ∙ sym (q.no_part i (λ is. n (same_answer ∙ is)))

-- what is said, and the buffers, are the same; of the record's and the session's numbers what they stand for
pub DecideExported : (f g : ToDecide → AfterDeciding) → Claims.DecideExported f → Claims.DecideExported g
    → (i : ToDecide) → ((f i).said ≡ (g i).said) × (presence_in (f i).presence ≡ presence_in (g i).presence) × (session_in (f i).session ≡ session_in (g i).session)
    × ((f i).reply ≡ (g i).reply) × ((f i).block ≡ (g i).block) × ((f i).part ≡ (g i).part)
DecideExported f g p q i =
    let a = reported i f p in
    let b = reported i g q in
    let left = by_remainder i f g p q (decided_by i).answer refl (numbered i) a.answer b.answer (does_ask i) in
    let limit = by_limit i f g p q (dec_lt last_refusal (f i).said.answer) in (
      decision_equal (f i).said (g i).said (a.answer ∙ sym b.answer) (a.fault ∙ sym b.fault) (a.place ∙ sym b.place) (a.long ∙ sym b.long) (a.taken ∙ sym b.taken)
          (a.order ∙ sym b.order),
      recorded i f p ∙ sym (recorded i g q),
      λ d. record { remainder = left d; limit = limit d },
      by_reply i f g p q (ℕ_discrete (f i).said.answer 0x9000),
      by_block i f g p q (ℕ_discrete (f i).said.answer 0x0100),
      by_part i f g p q (ℕ_discrete (f i).said.answer 0x0200),
    )

-- ---- the exported making
pub MakeExported : (f g : (presence : PresenceRecord) (w : ℕ) → AfterMaking) → Claims.MakeExported f → Claims.MakeExported g
    → (n : PresenceRecord) (w : ℕ) → ((f n w).said ≡ (g n w).said) × SameNumbers (f n w).presence (g n w).presence
MakeExported f g p q n w = by (ℕ_discrete w 0) (dec_lt 60000 w)
  where
    refused : (w ≡ 0) ⊎ (60000 < w) → ((f n w).said ≡ (g n w).said) × SameNumbers (f n w).presence (g n w).presence
    refused h =
        let x = p.refused n w h in
        let y = q.refused n w h in
        (x.0 ∙ sym y.0, x.1 ∙ sym y.1)

    by : Dec (w ≡ 0) → Dec (60000 < w) → ((f n w).said ≡ (g n w).said) × SameNumbers (f n w).presence (g n w).presence
    by (yes z) d = refused (inl z)
    by (no z) (yes h) = refused (inr h)
    by (no z) (no h) =
        let x = p.made n w (omega (arith, z)) (omega (arith, h)) in
        let y = q.made n w (omega (arith, z)) (omega (arith, h)) in
        (x.0 ∙ sym y.0, same_record (f n w).presence (g n w).presence (x.1 ∙ sym y.1))

-- ---- the exported next part, room and response
after_writing : (a b : AfterWriting) → a.said ≡ b.said → a.buffer ≡ b.buffer → a ≡ b
after_writing a b s t = λ d. record { said = s d; buffer = t d }

pub NextPartExported : (f g : (session : SessionRecord) (body part : List ℕ) → AfterPart) → Claims.NextPartExported f → Claims.NextPartExported g
    → (session : SessionRecord) (body old : List ℕ) → ((f session body old).said ≡ (g session body old).said) × (session_in (f session body old).session ≡ session_in (g session body old).session)
    × ((f session body old).part ≡ (g session body old).part)
NextPartExported f g p q session body old = by (next_part_of (length body) k l (length old)) (next_way (length body) k l (length old)) refl
  where
    k : Remainder
    k = remainder_in session

    l : ℕ
    l = (session_in session).limit

    Same : Type 0
    Same = ((f session body old).said ≡ (g session body old).said) × (session_in (f session body old).session ≡ session_in (g session body old).session) × ((f session body old).part ≡ (g session body old).part)

    refused : (m : ℕ) → (sending_of body (remainder_in session) (session_in session).limit old).0 ≡ R m → Same
    refused m e =
        let x = p.refused sending_of next_exactly session body old m e in
        let y = q.refused sending_of next_exactly session body old m e in
        (x.0 ∙ sym y.0, x.1 ∙ sym y.1, x.2 ∙ sym y.2)

    by : (o : Outcome Sent) → NextWay (length body) k l (length old) o → (sending_of body (remainder_in session) (session_in session).limit old).0 ≡ o → Same
    by _ (short_body h) e = refused 2 e
    by _ (short_buffer h m) e = refused 2 e
    by _ (given h m) e =
        let x = p.given sending_of next_exactly session body old _ _ e in
        let y = q.given sending_of next_exactly session body old _ _ e in
        (x.0 ∙ sym y.0, x.1 ∙ sym y.1, x.2 ∙ sym y.2)

room_no_word : (limit longest : ℕ) (s : StatusWord) → response_room_of limit longest ≡ Word s → ⊥
unfolding response_room_of
room_no_word limit longest s e = by (ltb (part_length limit longest) 0xfffffffffffffffe) e
  where
    by : (b : Bool) → ◌≡◌ {A = Outcome ℕ} (when b then Gives (part_length limit longest + 2) else R 2) (Word s) → ⊥
    by true x = word_gives _ _ (sym x)
    by false x = r_word _ _ x

pub RoomExported : Determines2 Claims.RoomExported
RoomExported f g p q frame longest = by (read_of frame) refl
  where
    at : (said : Says) → read_of frame ≡ Gives said → (o : Outcome ℕ) → response_room_of (limit_of said) longest ≡ o → f frame longest ≡ g frame longest
    at said r (R m) e = p.refused response_room_of room_exactly frame longest said m r e ∙ sym (q.refused response_room_of room_exactly frame longest said m r e)
    at said r (Word s) e = absurd (room_no_word (limit_of said) longest s e)
    at said r (Gives n) e = p.given response_room_of room_exactly frame longest said n r e ∙ sym (q.given response_room_of room_exactly frame longest said n r e)

    by : (o : Outcome Says) → read_of frame ≡ o → f frame longest ≡ g frame longest
    by (R n) e = absurd (read_refuses_not frame n e)
    by (Word w) e = p.no_shape frame longest w e ∙ sym (q.no_shape frame longest w e)
    by (Gives said) e = at said e (response_room_of (limit_of said) longest) refl

pub ResponseExported : Determines3 Claims.ResponseExported
ResponseExported f g p q body status old = by (dec_lt (length old) (length body + 2))
  where
    by : Dec (length old < length body + 2) → f body status old ≡ g body status old
    by (yes h) =
        let e : (writing_of body status old).0 ≡ R 2 = sym (write_short body (length old) h) in
        let x = p.refused writing_of writes_exactly body status old 2 e in
        let y = q.refused writing_of writes_exactly body status old 2 e in
        after_writing _ _ (x.0 ∙ sym y.0) (x.1 ∙ sym y.1)
    by (no h) =
        let e : (writing_of body status old).0 ≡ Gives (length body + 2) = sym (write_room body (length old) (omega arith) (omega arith)) in
        let x = p.given writing_of writes_exactly body status old (length body + 2) e in
        let y = q.given writing_of writes_exactly body status old (length body + 2) e in
        after_writing _ _ (x.0 ∙ sym y.0) (x.1 ∙ sym y.1)

-- ---- the exported readings, by either table, on every frame of bytes
reader_exported : (entry : Entry) → DeterminesOn AreBytes (Claims.ReaderExported (Frames.ReadingExactly (TableOf entry)))
reader_exported entry f g p q frame bytes = by (read_by entry frame) (frame_way entry frame) refl
  where
    by : (o : Outcome Says) → FrameWay entry frame o → read_by entry frame ≡ o → f frame ≡ g frame
    by _ (under h) e = p.status (read_by entry) (reading_exactly entry) frame bytes _ e ∙ sym (q.status (read_by entry) (reading_exactly entry) frame bytes _ e)
    by _ (ends h n) e = p.status (read_by entry) (reading_exactly entry) frame bytes _ e ∙ sym (q.status (read_by entry) (reading_exactly entry) frame bytes _ e)
    by _ (goes_on h k n) e = p.status (read_by entry) (reading_exactly entry) frame bytes _ e ∙ sym (q.status (read_by entry) (reading_exactly entry) frame bytes _ e)
    by _ (found h s lc le n) e = p.given (read_by entry) (reading_exactly entry) frame bytes _ e ∙ sym (q.given (read_by entry) (reading_exactly entry) frame bytes _ e)

pub ReadExported : DeterminesOn AreBytes Claims.ReadExported
ReadExported = reader_exported Ordinary

pub ReadStrictExported : DeterminesOn AreBytes Claims.ReadStrictExported
ReadStrictExported = reader_exported Strict

-- ---- the exported writers of frames, by either table
writer_exported : (entry : Entry) → Determines (Claims.WriterExported (Frames.WriteExactly (CarryOf entry) (TableOf entry)))
writer_exported entry f g p q w = go w.shape refl
  where
    none : NoShape w.shape → f w ≡ g w
    none out =
        let x = p.no_shape w out in
        let y = q.no_shape w out in
        after_writing _ _ (x.0 ∙ sym y.0) (x.1 ∙ sym y.1)

    by_shape : (s : Case) → w.shape ≡ shape_no s → f w ≡ g w
    by_shape s e = by (writing_by entry parts w.out) (write_way entry parts w.out) refl
      where
        parts : Parts
        parts = parts_of w.header s w.content w.le

        refused : (m : ℕ) → (writing_by entry parts w.out).0 ≡ R m → f w ≡ g w
        refused m d =
            let x = p.refused (writing_by entry) (write_exactly entry) w s m e d in
            let y = q.refused (writing_by entry) (write_exactly entry) w s m e d in
            after_writing _ _ (x.0 ∙ sym y.0) (x.1 ∙ sym y.1)

        by : (o : Outcome ℕ × List ℕ) → WriteWay entry parts w.out o → writing_by entry parts w.out ≡ o → f w ≡ g w
        by _ (unfit c) d = refused 5 (ap (λ (o : Outcome ℕ × List ℕ). o.0) d)
        by _ (no_room c h) d = refused 2 (ap (λ (o : Outcome ℕ × List ℕ). o.0) d)
        by _ (written c h) d =
            let x = p.given (writing_by entry) (write_exactly entry) w s _ e (ap (λ (o : Outcome ℕ × List ℕ). o.0) d) in
            let y = q.given (writing_by entry) (write_exactly entry) w s _ e (ap (λ (o : Outcome ℕ × List ℕ). o.0) d) in
            after_writing _ _ (x.0 ∙ sym y.0) (x.1 ∙ sym y.1)

    go : (n : ℕ) → w.shape ≡ n → f w ≡ g w
    go zero e = none (nought e)
    go (suc zero) e = by_shape Instruction e
    go (suc (suc zero)) e = by_shape Le1 e
    go (suc (suc (suc zero))) e = by_shape Lc1Data e
    go (suc (suc (suc (suc zero)))) e = by_shape Lc1DataLe1 e
    go (suc (suc (suc (suc (suc zero))))) e = by_shape Lc3Data e
    go (suc (suc (suc (suc (suc (suc zero)))))) e = none (retired e)
    go (suc (suc (suc (suc (suc (suc (suc zero))))))) e = by_shape Lc3DataLe2 e
    go (suc (suc (suc (suc (suc (suc (suc (suc zero)))))))) e = by_shape Le3 e
    go (suc (suc (suc (suc (suc (suc (suc (suc (suc n))))))))) e = none (above (omega arith))

pub WriteExported : Determines Claims.WriteExported
WriteExported = writer_exported Ordinary

pub WriteStrictExported : Determines Claims.WriteStrictExported
WriteStrictExported = writer_exported Strict
