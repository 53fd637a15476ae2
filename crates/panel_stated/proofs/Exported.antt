-- The exported readings, writers, decision, next part and response: what their claims say, of the definitions.
use Prim.Native.Nat.{ℕ, ◌≤◌, ◌<◌}
use mathlib.Core.Path.{◌≡◌, refl, ap, ap₂, sym, ◌∙◌}
use mathlib.Core.List.{List, ◌∷◌}
use mathlib.Core.Logic.{⊎_elim}
use native.Mathlib.Omega.{arith}
use lib.ListN.{length, drop}
use Rattle.outcome.specs.Outcome.{Outcome, R, Word, Gives, last_refusal}
use Rattle.outcome.proofs.Laws.{r_gives, r_word}
use Rattle.apdu_stated.specs.Answers.{Says}
use Rattle.apdu_stated.specs.Reading.{read_of}
use Rattle.apdu_stated.specs.declared.Case.{Case}
use Rattle.apdu_stated.specs.declared.Entry.{Entry}
use Rattle.apdu_stated.specs.Words.{shape_no}
use Rattle.apdu_stated.specs.Writing.{Parts, parts_of, writing_by}
use Rattle.apdu_stated.specs.Claims as Frames
use Rattle.apdu_stated.proofs.Laws.{TableOf, CarryOf, same_reading, write_exactly, same_writing}
use Rattle.response_stated.specs.declared.Remainder.{Remainder}
use Rattle.response_stated.specs.declared.Sent.{Sent}
use Rattle.response_stated.specs.Terms.{Sender, sending, writing_of, sending_of}
use Rattle.response_stated.specs.Claims as Responses
use Rattle.response_stated.specs.Parts.{limit_of, response_room_of}
use Rattle.response_stated.proofs.Laws.{next_given, next_exactly, next_only, writes_exactly, writes_only, room_exactly, room_only}
use Rattle.ctap1_stated.specs.Words.{DecisionGives, Body, Ordered, Part}
use Rattle.ctap1_stated.specs.Path.{frame_limit}
use Rattle.ctap1_stated.proofs.Laws.{row, limits_exactly, limits_only, remainder_exactly, replies_exactly, is_a_part}
use Rattle.panel_stated.specs.Words.{Session, SessionRecord, presence_in, remainder_in, session_in, session_after, inputs_in}
use Rattle.session_stated.specs.Held.{room_on, frame_room_of}
use Rattle.ctap1_stated.specs.Session.{is_get_response, remainder_after}
use Rattle.panel_stated.specs.Promises.{BrinecandleNextPart}
use Rattle.panel_stated.proofs.Lists.{record_back}
use Rattle.panel_stated.specs.Numbers.{decided_no, presence_numbers, session_numbers, shape_of}
use Rattle.panel_stated.specs.Words.{Shaped}
use Rattle.std.specs.Prelude.{None}
use Rattle.panel_stated.specs.Exports.{ToWrite, frame_numbers, reads_of, write_as, buffer_as, writes_of, ToDecide, AfterDeciding, AfterPart, length_numbers, sent_numbers, sent_over, room_numbers, rooms_of, responds_of, decided_by, session_by, decides_of}
use Rattle.panel_stated.specs.Terms.{NoShape, IsNumbered}
use Rattle.panel_stated.specs.Claims
use Rattle.panel_stated.proofs.Cases
use Rattle.panel_stated.proofs.Outcomes

module _ (i : ToDecide) where
  numbered : IsNumbered (decided_by i).answer
  numbered = Outcomes.decision_said (presence_in i.presence) i.moment (inputs_in i)

  -- the session goes on with what remains by the decision's rule, and with the frame's limit
  remains : (o : Outcome DecisionGives) (read : Outcome Says) (k : Session) → (session_after o read k).remainder ≡ remainder_after o (is_get_response read) k.remainder
  remains (R n) read k = refl
  remains (Word s) read k = refl
  remains (Gives g) read k = refl

  refused_at : (o : Outcome DecisionGives) → (decided_by i).answer ≡ o → IsNumbered o → decided_no o ≤ last_refusal → session_by i ≡ session_in i.session
  refused_at (R n) e h high = rw e
  refused_at (Word s) e h high = absurd (omega (arith, h.0))
  refused_at (Gives (Body n)) e h high = absurd (omega arith)
  refused_at (Gives Ordered) e h high = absurd (omega arith)
  refused_at (Gives (Part n r)) e h high = absurd (omega arith)

  keeps_at : (said : Says) → read_of i.frame ≡ Gives said → said.header.ins ≡ 0xC0 → (o : Outcome DecisionGives) → (decided_by i).answer ≡ o → IsNumbered o → 0x6000 ≤ decided_no o → decided_no o < 0x9000
      → (session_by i).remainder ≡ remainder_in i.session
  keeps_at said r c (R n) e h low high = absurd (omega (arith, h.1))
  keeps_at said r c (Word s) e h low high = remains (decided_by i).answer (read_of i.frame) (session_in i.session) ∙ remainder_exactly.kept (presence_in i.presence) i.moment (inputs_in i) s (said, r, c) e
  keeps_at said r c (Gives (Body n)) e h low high = absurd (omega arith)
  keeps_at said r c (Gives Ordered) e h low high = absurd (omega arith)
  keeps_at said r c (Gives (Part n k)) e h low high = absurd (omega arith)

  limit_at : (o : Outcome DecisionGives) → (decided_by i).answer ≡ o → IsNumbered o → last_refusal < decided_no o → (session_by i).limit ≡ frame_limit i.frame
  unfolding frame_limit
  limit_at (R n) e h high = absurd (omega (arith, h.1))
  limit_at (Word s) e h high = rw e
  limit_at (Gives g) e h high = rw e

  not_refused : (o : Outcome DecisionGives) → IsNumbered o → last_refusal < decided_no o → (n : ℕ) → o ≡ R n → ⊥
  not_refused (R m) h high n e = omega (arith, h.1)
  not_refused (Word s) h high n e = r_word _ _ (sym e)
  not_refused (Gives g) h high n e = r_gives _ _ (sym e)

  version_at : (o : Outcome DecisionGives) → (decided_by i).answer ≡ o → IsNumbered o → decided_no o ≡ 0x9000 → (decides_of i).reply ≡ 0x55 ∷ 0x32 ∷ 0x46 ∷ 0x5F ∷ 0x56 ∷ 0x32 ∷ drop 6 i.reply
  version_at (R n) e h is = absurd (omega (arith, is, h.1))
  version_at (Word s) e h is = absurd (omega (arith, is, h.1))
  version_at (Gives (Body n)) e h is =
      ⊎_elim (λ x. x.2) (λ x. absurd (x.0 n e)) (replies_exactly (presence_in i.presence) i.moment (inputs_in i) i.reply refl)
  version_at (Gives Ordered) e h is = absurd (omega arith)
  version_at (Gives (Part n k)) e h is = absurd (omega arith)

  reply_at : (o : Outcome DecisionGives) → (decided_by i).answer ≡ o → (decided_no o ≡ 0x9000 → ⊥) → (decides_of i).reply ≡ i.reply
  reply_at (R n) e nay = rw e
  reply_at (Word s) e nay = rw e
  reply_at (Gives (Body n)) e nay = absurd (nay refl)
  reply_at (Gives Ordered) e nay = rw e
  reply_at (Gives (Part n k)) e nay = rw e

  ordered_at : (o : Outcome DecisionGives) → (decided_by i).answer ≡ o → IsNumbered o → decided_no o ≡ 0x0100 → (decides_of i).block ≡ (decided_by i).order.bytes
  ordered_at (R n) e h is = absurd (omega (arith, is, h.1))
  ordered_at (Word s) e h is = absurd (omega (arith, is, h.0))
  ordered_at (Gives (Body n)) e h is = absurd (omega arith)
  ordered_at (Gives Ordered) e h is = rw e
  ordered_at (Gives (Part n k)) e h is = absurd (omega arith)

  block_at : (o : Outcome DecisionGives) → (decided_by i).answer ≡ o → (decided_no o ≡ 0x0100 → ⊥) → (decides_of i).block ≡ i.block
  block_at (R n) e nay = rw e
  block_at (Word s) e nay = rw e
  block_at (Gives (Body n)) e nay = rw e
  block_at (Gives Ordered) e nay = absurd (nay refl)
  block_at (Gives (Part n k)) e nay = rw e

  no_part_at : (o : Outcome DecisionGives) → (decided_by i).answer ≡ o → (decided_no o ≡ 0x0200 → ⊥) → (decides_of i).part ≡ i.part
  no_part_at (R n) e nay = rw e
  no_part_at (Word s) e nay = rw e
  no_part_at (Gives (Body n)) e nay = rw e
  no_part_at (Gives Ordered) e nay = rw e
  no_part_at (Gives (Part n k)) e nay = absurd (nay refl)

  -- a part is the one that `next` sends
  part_at : (next : Sender) → Responses.NextExactly next → (o : Outcome DecisionGives) → (decided_by i).answer ≡ o → IsNumbered o → decided_no o ≡ 0x0200
      → next i.reply (remainder_in i.session) (session_by i).limit i.part ≡ (Gives (sending (decides_of i).said.length (session_by i).remainder), (decides_of i).part)
  part_at next x (R n) e h is = absurd (omega (arith, is, h.1))
  part_at next x (Word s) e h is = absurd (omega (arith, is, h.0))
  part_at next x (Gives (Body n)) e h is = absurd (omega arith)
  part_at next x (Gives Ordered) e h is = absurd (omega arith)
  part_at next x (Gives (Part n k)) e h is =
      let f = is_a_part (presence_in i.presence) i.moment (inputs_in i) n k e in
      let g = next_given (length i.reply) (remainder_in i.session) (frame_limit i.frame) (length i.part) f.within f.room in
      let given = sym g ∙ ap₂ (λ (m : ℕ) (r : Remainder). Gives (sending m r)) (sym f.long) (sym f.left) in
      ap (λ (l : ℕ). next i.reply (remainder_in i.session) l i.part) (limit_at (Gives (Part n k)) e tt (omega arith))
      ∙ next_only next sending_of x next_exactly i.reply (remainder_in i.session) (frame_limit i.frame) i.part ∙ rw (given, e)

pub decide_exported : Claims.DecideExported decides_of
decide_exported =
    record {
      row = λ i. (
        decided_by i,
        row (presence_in i.presence) i.moment (inputs_in i),
        record { answer = refl; fault = refl; place = refl; taken = refl; long = refl; order = refl },
        record_back (decided_by i).presence,
        λ is. ordered_at i (decided_by i).answer refl (numbered i) is,
      );
      limit = λ i l x high. limit_at i (decided_by i).answer refl (numbered i) high ∙ limits_only frame_limit l limits_exactly x i.frame;
      refused = λ i high. refused_at i (decided_by i).answer refl (numbered i) high;
      keeps = λ i said r c low high. keeps_at i said r c (decided_by i).answer refl (numbered i) low high;
      drops =
          λ i nay high.
          remains i (decided_by i).answer (read_of i.frame) (session_in i.session)
          ∙ remainder_exactly.dropped (presence_in i.presence) i.moment (inputs_in i) (λ x. nay x.0 x.1 x.2) (not_refused i (decided_by i).answer (numbered i) high);
      version = λ i is. version_at i (decided_by i).answer refl (numbered i) is;
      reply = λ i nay. reply_at i (decided_by i).answer refl nay;
      block = λ i nay. block_at i (decided_by i).answer refl nay;
      part = λ i next x is. part_at i next x (decided_by i).answer refl (numbered i) is;
      no_part = λ i nay. no_part_at i (decided_by i).answer refl nay;
    }

-- the numbers of what a call leaves written anew, as the definition writes them; and the claims look at what they stand for alone
abbrev pub anew : (ToDecide → AfterDeciding) → ToDecide → AfterDeciding
anew f i =
    record { said = (f i).said; presence = presence_numbers (presence_in (f i).presence); session = session_numbers (session_in (f i).session); reply = (f i).reply; block = (f i).block; part = (f i).part }

pub decide_anew : (f : ToDecide → AfterDeciding) → Claims.DecideExported (anew f) → Claims.DecideExported f
decide_anew f c =
    record {
      row = λ i. let x = c.row i in (x.0, x.1, x.2, sym (record_back (presence_in (f i).presence)) ∙ x.3, x.4);
      limit = λ i l x high. c.limit i l x high;
      refused = λ i high. c.refused i high;
      keeps = λ i said r k low high. c.keeps i said r k low high;
      drops = λ i nay high. c.drops i nay high;
      version = λ i is. c.version i is;
      reply = λ i nay. c.reply i nay;
      block = λ i nay. c.block i nay;
      part = λ i next x is. c.part i next x is;
      no_part = λ i nay. c.no_part i nay;
    }

-- by either table
pub reader_exported : (entry : Entry) → Claims.ReaderExported (Frames.ReadingExactly (TableOf entry)) (reads_of entry)
reader_exported entry =
    record {
      given = λ reader x frame bytes s e. ap frame_numbers (sym (same_reading entry reader x frame bytes) ∙ e);
      status = λ reader x frame bytes w e. ap frame_numbers (sym (same_reading entry reader x frame bytes) ∙ e);
    }

pub writer_exported : (entry : Entry) → ((w : ToWrite) → NoShape w.shape → shape_of w.shape ≡ None) → Claims.WriterExported (Frames.WriteExactly (CarryOf entry) (TableOf entry)) (writes_of entry)
writer_exported entry none =
    record {
      given = λ writer x w s n e g. let same = by_shape writer x w s e in
          (ap (λ (o : Outcome ℕ × List ℕ). length_numbers o.0) same ∙ ap length_numbers g, ap (λ (o : Outcome ℕ × List ℕ). o.1) same);
      refused = λ writer x w s m e g. let same = by_shape writer x w s e in
          (ap (λ (o : Outcome ℕ × List ℕ). length_numbers o.0) same ∙ ap length_numbers g, ap (λ (o : Outcome ℕ × List ℕ). o.1) same ∙ x.refused (parts_of w.header s w.content w.le) w.out m g);
      no_shape = λ w out. (ap (λ (s : Shaped). length_numbers (write_as entry s w)) (none w out), ap (λ (s : Shaped). buffer_as entry s w) (none w out));
    }
  where
    by_shape : (writer : Parts → List ℕ → Outcome ℕ × List ℕ) → Frames.WriteExactly (CarryOf entry) (TableOf entry) writer → (w : ToWrite) (s : Case) → w.shape ≡ shape_no s
        → (write_as entry (shape_of w.shape) w, buffer_as entry (shape_of w.shape) w) ≡ writer (parts_of w.header s w.content w.le) w.out
    by_shape writer x w s e =
        ap (λ (t : Shaped). (write_as entry t w, buffer_as entry t w)) (sym (Cases.shaped s w.shape e))
        ∙ same_writing entry (writing_by entry) writer (write_exactly entry) x (parts_of w.header s w.content w.le) w.out

pub next_part_exported : (f : (session : SessionRecord) (body part : List ℕ) → AfterPart)
    → ((session : SessionRecord) (body part : List ℕ) → BrinecandleNextPart session body part (f session body part).said (f session body part).session (f session body part).part) → Claims.NextPartExported f
next_part_exported f meets =
    record {
      given = λ sender x session body old n left e.
          let is = meets session body old in
          let same = next_only sending_of sender next_exactly x body (remainder_in session) (session_in session).limit old in
          let sent = ap (λ (o : Outcome Sent × List ℕ). o.0) same ∙ e in
          (is.0 ∙ ap sent_numbers sent, is.1 ∙ ap (λ (o : Outcome Sent). sent_over o (session_in session)) sent, is.2 ∙ ap (λ (o : Outcome Sent × List ℕ). o.1) same);
      refused = λ sender x session body old m e.
          let is = meets session body old in
          let same = next_only sending_of sender next_exactly x body (remainder_in session) (session_in session).limit old in
          let sent = ap (λ (o : Outcome Sent × List ℕ). o.0) same ∙ e in (
            is.0 ∙ ap sent_numbers sent,
            is.1 ∙ ap (λ (o : Outcome Sent). sent_over o (session_in session)) sent,
            is.2 ∙ ap (λ (o : Outcome Sent × List ℕ). o.1) same ∙ x.refused body (remainder_in session) (session_in session).limit old m e,
          );
    }

-- the room by the frame's limit
pub room_exported : Claims.RoomExported rooms_of
unfolding frame_room_of
room_exported =
    record {
      given = λ room x frame longest said n r e. ap (λ (o : Outcome Says). room_numbers (room_on o longest)) r ∙ ap room_numbers (room_only response_room_of room room_exactly x (limit_of said) longest ∙ e);
      refused = λ room x frame longest said m r e. ap (λ (o : Outcome Says). room_numbers (room_on o longest)) r ∙ ap room_numbers (room_only response_room_of room room_exactly x (limit_of said) longest ∙ e);
      no_shape = λ frame longest w r. ap (λ (o : Outcome Says). room_numbers (room_on o longest)) r;
    }

pub response_exported : Claims.ResponseExported responds_of
response_exported =
    record {
      given = λ writer x body status old n e. let same = writes_only writing_of writer writes_exactly x body status old in
          (ap (λ (o : Outcome ℕ × List ℕ). length_numbers o.0) same ∙ ap length_numbers e, ap (λ (o : Outcome ℕ × List ℕ). o.1) same);
      refused = λ writer x body status old m e. let same = writes_only writing_of writer writes_exactly x body status old in
          (ap (λ (o : Outcome ℕ × List ℕ). length_numbers o.0) same ∙ ap length_numbers e, ap (λ (o : Outcome ℕ × List ℕ). o.1) same ∙ x.refused body status old m e);
    }
