-- The claims of specs/Claims.antt, each under its own name.
use Prim.Native.Nat.{ℕ, ◌+◌, ◌<◌, ◌≤◌}
use mathlib.Core.Path.{◌≡◌, refl, ap, ap₂, sym, subst, ◌∙◌}
use mathlib.Core.Bool.{Bool, true, false}
use mathlib.Core.List.{List, [], ◌++◌}
use mathlib.Core.Logic.{◌⊎◌, inl, inr}
use native.Mathlib.Omega.{arith}
use lib.Dec.{ltb}
use lib.ListN.{length, take, drop}
use lib.Seq.{take_at}
use Rattle.outcome.specs.Outcome.{StatusWord, Outcome, R, Word, Gives, wrong_length}
use Rattle.outcome.proofs.Laws.{gives_same, word_same, word_gives, r_gives, r_word, both_are}
use Rattle.outcome.specs.Notation.{when◌then◌else◌}
use Rattle.octets.specs.Bytes.{AreBytes, laid}
use Rattle.apdu_stated.specs.declared.ApduHeader.{ApduHeader}
use Rattle.apdu_stated.specs.declared.Entry.TheVariants.{Ordinary, Strict}
use Rattle.apdu_stated.specs.Answers.{Says}
use Rattle.apdu_stated.specs.Reading.{read_of, strict_of, data_of}
use Rattle.apdu_stated.specs.Terms.{InTable, OldForm}
use Rattle.apdu_stated.proofs.Laws.{reads_entry, of_table, write_exactly, WriteWay, unfit, no_room, written, write_way, read_exactly, strict_zero_at}
use Rattle.convert_stated.specs.Converting.{old_of, is_old, new_parts, kept_by, convert_by, convert_of}
use Rattle.convert_stated.specs.Words.{Converted}
use Rattle.convert_stated.specs.Answers.{converted_of}
use Rattle.convert_stated.specs.Terms.{Becomes, as_shape_7, as_shape_8, unchanged, EmptySeven}
use Rattle.convert_stated.specs.Claims
use Rattle.convert_stated.proofs.OldForms.{known, old_exactly, old_form, form_old}
use Rattle.convert_stated.proofs.Becoming.{Said, holds, in_table, lc_is, some_data, unread_old, lc_zero, becomes_one, new_long, changed}
use Rattle.convert_stated.proofs.Ways.{Way, short, wrote, status, way, copies}
use Rattle.convert_stated.proofs.Numbers.{converted_same}

-- ---- which frames are of the old form
pub OldExactly : Claims.OldExactly is_old
OldExactly =
    record {
      by_length = λ frame. (known frame (old_of frame) refl, old_exactly frame);
      by_row = λ frame bytes. (
        λ e. let i = form_old frame bytes (known frame (old_of frame) refl e) in (i.h, i.d, i.le, i.is_old),
        λ t. old_exactly frame (old_form t.3),
      );
    }

-- ---- what a frame becomes
-- what is converted is of the old form, or is read
unread : (frame result : List ℕ) (w : StatusWord) → read_of frame ≡ Word w → (OldForm frame → ⊥) → Becomes frame result → ⊥
unread frame result w e n (as_shape_7 o some x) = n (old_form o)
unread frame result w e n (as_shape_8 o x) = n (old_form o)
unread frame result w e n (unchanged i) = word_gives _ _ (sym e ∙ reads_entry Ordinary frame _ _ i)

fits : (n : ℕ) (before result : List ℕ) → length result ≡ n → n ≤ length before → length result ≤ length before
fits n before result e h = omega arith

module _ (frame before : List ℕ) where
  gives_result : (result : List ℕ) → AreBytes frame → Becomes frame result → length result ≤ length before → {o : Outcome ℕ × List ℕ} → Way frame before o
      → o ≡ (Gives (length result), result ++ drop (length result) before)
  gives_result result bytes b room (short r c h) = let same = ap length (becomes_one bytes b c) in absurd (omega arith)
  gives_result result bytes b room (wrote r c h) = ap (λ (x : List ℕ). (Gives (length x), x ++ drop (length x) before)) (becomes_one bytes c b)
  gives_result result bytes b room (status w e n) = absurd (unread frame result w e n b)

  given_of : (n : ℕ) → {o : Outcome ℕ × List ℕ} → Way frame before o → o.0 ≡ Gives n → (result : List ℕ) × Becomes frame result × (length result ≡ n) × (n ≤ length before)
  given_of n (short r c h) e = absurd (r_gives _ _ e)
  given_of n (wrote r c h) e = let long : length r ≡ n = gives_same _ _ e in (r, c, long, omega arith)
  given_of n (status w r m) e = absurd (word_gives _ _ e)

  short_of : {o : Outcome ℕ × List ℕ} → Way frame before o → o.0 ≡ R 2 → (result : List ℕ) × Becomes frame result × (length before < length result)
  short_of (short r c h) e = (r, c, h)
  short_of (wrote r c h) e = absurd (r_gives _ _ (sym e))
  short_of (status w r n) e = absurd (r_word _ _ (sym e))

  short_at : (result : List ℕ) → AreBytes frame → Becomes frame result → length before < length result → {o : Outcome ℕ × List ℕ} → Way frame before o → o.0 ≡ R 2
  short_at result bytes b h (short r c g) = refl
  short_at result bytes b h (wrote r c g) = let same = ap length (becomes_one bytes b c) in absurd (omega arith)
  short_at result bytes b h (status w e n) = absurd (unread frame result w e n b)

  word_of : (w : StatusWord) → {o : Outcome ℕ × List ℕ} → Way frame before o → o.0 ≡ Word w → (read_of frame ≡ Word w) × (OldForm frame → ⊥)
  word_of w (short r c h) e = absurd (r_word _ _ e)
  word_of w (wrote r c h) e = absurd (word_gives _ _ (sym e))
  word_of w (status v r n) e = (r ∙ ap Word (word_same _ _ e), n)

  word_at : (w : StatusWord) → read_of frame ≡ Word w → (OldForm frame → ⊥) → {o : Outcome ℕ × List ℕ} → Way frame before o → o.0 ≡ Word w
  word_at w r n (short x c h) = absurd (unread frame x w r n c)
  word_at w r n (wrote x c h) = absurd (unread frame x w r n c)
  word_at w r n (status v e m) = ap Word (word_same _ _ (sym e ∙ r))

  -- on numbers whatever, an answer without a result leaves the buffer
  abbrev Kept : Outcome ℕ × List ℕ → Type 0
  Kept o = ((n : ℕ) → o.0 ≡ R n → o.1 ≡ before) × ((w : StatusWord) → o.0 ≡ Word w → o.1 ≡ before)

  kept_by_lem : (o : Outcome Says) → Kept (kept_by frame o before)
  kept_by_lem (R n) = (λ m e. refl, λ w e. refl)
  kept_by_lem (Word s) = (λ m e. refl, λ w e. refl)
  kept_by_lem (Gives said) = go (ltb (length before) (length frame))
    where
      go : (b : Bool) → Kept (when b then (R 2, before) else (Gives (length frame), laid frame before))
      go true = (λ m e. refl, λ w e. refl)
      go false = (λ m e. absurd (r_gives _ _ (sym e)), λ w e. absurd (word_gives _ _ (sym e)))

  kept : (o : Outcome Says) → Kept (convert_by frame o before)
  kept (R n) = kept_by_lem (read_of frame)
  kept (Word s) = kept_by_lem (read_of frame)
  kept (Gives said) = ((write_exactly Ordinary).refused (new_parts frame said) before, λ w e. absurd (go (write_way Ordinary (new_parts frame said) before) w e))
    where
      go : {o : Outcome ℕ × List ℕ} → WriteWay Ordinary (new_parts frame said) before o → (w : StatusWord) → o.0 ≡ Word w → ⊥
      go (unfit c) w e = r_word _ _ e
      go (no_room c h) w e = r_word _ _ e
      go (written c h) w e = word_gives _ _ (sym e)

pub ConvertExactly : Claims.ConvertExactly convert_of
unfolding convert_of
ConvertExactly =
    record {
      gives = λ frame before n bytes. (
        given_of frame before n (way frame before bytes),
        λ t. ap (λ (o : Outcome ℕ × List ℕ). o.0) (gives_result frame before t.0 bytes t.1 (fits n before t.0 t.2 t.3) (way frame before bytes)) ∙ ap Gives t.2,
      );
      converts = λ frame before result bytes b room. gives_result frame before result bytes b room (way frame before bytes);
      r2 = λ frame before bytes. (short_of frame before (way frame before bytes), λ t. short_at frame before t.0 bytes t.1 t.2 (way frame before bytes));
      status = λ frame before w bytes. (
        λ e. let t = word_of frame before w (way frame before bytes) e in (t.0, λ h d le o. t.1 (old_form o)),
        λ t. word_at frame before w t.0 (λ o. let i = form_old frame bytes o in t.1 i.h i.d i.le i.is_old) (way frame before bytes),
      );
      refused = λ frame before. (kept frame before (old_of frame)).0;
      left = λ frame before. (kept frame before (old_of frame)).1;
    }

-- ---- a result
-- what was written, and where it stands
pub record Result (frame : List ℕ) (n : ℕ) (after : List ℕ) : Type 0 where
  pub result : List ℕ
  pub becomes : Becomes frame result
  pub long : length result ≡ n
  pub cut : take n after ≡ result

pub result_of : (frame before : List ℕ) (n : ℕ) → AreBytes frame → (convert_of frame before).0 ≡ Gives n → Result frame n (convert_of frame before).1
result_of frame before n bytes = go (way frame before bytes)
  where
    go : {o : Outcome ℕ × List ℕ} → Way frame before o → o.0 ≡ Gives n → Result frame n o.1
    go (short r c h) e = absurd (r_gives _ _ e)
    go (wrote r c h) e = let long : length r ≡ n = gives_same _ _ e in record { result = r; becomes = c; long = long; cut = take_at r (drop (length r) before) n long }
    go (status w r m) e = absurd (word_gives _ _ e)

-- ---- the result is read
pub ConvertedIsRead : Claims.ConvertedIsRead convert_of
ConvertedIsRead =
    record {
      is_read = λ frame before n bytes e. let r = result_of frame before n bytes e in let t = holds r.becomes in rw r.cut (t.0, t.1, t.2, t.3, read_as t.4);
      strictly = λ frame before n bytes e. let r = result_of frame before n bytes e in rw r.cut (
        λ t seven. word_gives _ _ (sym (not_strictly bytes seven r.becomes) ∙ t.1),
        λ other.
            let t = in_table r.becomes in
            let read = reads_entry Ordinary r.result t.1 t.0 t.2 in
            (t.0, strictly frame r.result other r.becomes ∙ read, read),
      );
    }
  where
    read_as : {result : List ℕ} {h : ApduHeader} {d : List ℕ} {le : ℕ} → Said result h d le
        → (says : Says) × (read_of result ≡ Gives says) × (says.header ≡ h) × (data_of result says ≡ d) × (says.le ≡ le)
    read_as {result} {h} {d} {le} s = (s.says, reads_entry Ordinary result d s.says s.table, s.header, of_table result d s.says s.table, s.same_le)

    -- in the strict table too
    alike : (result d : List ℕ) (says : Says) → InTable result says d → (3 ≤ says.shape → says.shape ≤ 7 → 1 ≤ says.lc) → strict_of result ≡ read_of result
    alike result d says i some = reads_entry Strict result d says (record { table = i; row = record { some_data = some } }) ∙ sym (reads_entry Ordinary result d says i)

    strictly : (frame result : List ℕ) → (EmptySeven frame → ⊥) → Becomes frame result → strict_of result ≡ read_of result
    strictly frame result other (as_shape_7 {d = d} o some w) = let lc = lc_is w.table in alike result d w.says w.table (λ a b. omega arith)
    strictly frame result other (as_shape_8 o w) = let shape = w.shape in alike result [] w.says w.table (λ a b. absurd (omega arith))
    strictly frame _ other (unchanged {d = d} i) = alike frame d _ i (some_data i (λ seven empty. other (record { says = _; is_read = reads_entry Ordinary frame d _ i; seven = seven; empty = empty })))

    not_strictly : {frame result : List ℕ} → AreBytes frame → EmptySeven frame → Becomes frame result → strict_of result ≡ wrong_length 2 7
    not_strictly bytes e (as_shape_7 o some w) = absurd (unread_old e.is_read (old_form o))
    not_strictly bytes e (as_shape_8 o w) = absurd (unread_old e.is_read (old_form o))
    not_strictly {frame} bytes e (unchanged i) = let t = (read_exactly frame bytes e.says).0 e.is_read in strict_zero_at frame (lc_zero t.1 e.seven e.empty)

-- ---- which frames change
pub ChangesExactly : Claims.ChangesExactly convert_of
ChangesExactly =
    record {
      exactly = λ frame before n bytes e. let r = result_of frame before n bytes e in
          (λ other. old_of_lem r.becomes (λ same. other (r.cut ∙ same)), λ f same. changed f r.becomes (sym r.cut ∙ same));
      converted = λ frame before bytes f room. given f room (way frame before bytes);
    }
  where
    old_of_lem : {frame result : List ℕ} → Becomes frame result → (result ≡ frame → ⊥) → OldForm frame
    old_of_lem (as_shape_7 o some w) other = old_form o
    old_of_lem (as_shape_8 o w) other = old_form o
    old_of_lem (unchanged i) other = absurd (other refl)

    over : (f b r : ℕ) → 1 + f ≤ b → b < r → (r ≡ 1 + f) ⊎ (1 + r ≡ f) → ⊥
    over f b r room h (inl x) = omega arith
    over f b r room h (inr x) = omega arith

    given : {frame before : List ℕ} → OldForm frame → 1 + length frame ≤ length before → {o : Outcome ℕ × List ℕ} → Way frame before o → (n : ℕ) × (o.0 ≡ Gives n)
    given f room (short r b h) = absurd (over _ _ _ room h (new_long f b))
    given f room (wrote r b h) = (length r, refl)
    given f room (status w e n) = absurd (n f)

-- ---- a second time
pub ConvertsToItself : Claims.ConvertsToItself convert_of
ConvertsToItself frame before again n bytes e room =
    let r = result_of frame before n bytes e in
    let t = in_table r.becomes in
    let fits : length r.result ≤ length again = let long = r.long in omega arith in
    rw r.cut (copies r.result again t.0 t.1 t.2 fits ∙ ap (λ (m : ℕ). (Gives m, r.result ++ drop m again)) r.long)

-- ---- what the code holds
pub SaidExactly : Claims.SaidExactly converted_of
SaidExactly = record { frame = λ n. refl; refused = λ r. refl; status = λ s. refl }

pub AnswersOneToOne : Claims.AnswersOneToOne converted_of
AnswersOneToOne = converted_same

-- ---- a function that gives what a definition gives, input by input, is that definition
pub ContractsAsClaimed : Claims.ContractsAsClaimed
ContractsAsClaimed =
    record {
      is_old = λ f is. subst Claims.OldExactly (λ d frame. sym (is frame) d) OldExactly;
      convert = λ f is. subst Claims.ConvertExactly (λ d frame before. (sym (is frame before).0 d, sym (is frame before).1 d)) ConvertExactly;
    }

-- ---- two results are equal
pub ResultsDetermined : Claims.ResultsDetermined
ResultsDetermined =
    record {
      is_old = λ frame a b. both_are a b;
      convert = λ frame before a b p q. ap₂ (λ (r : Converted) (l : List ℕ). (r, l)) (converted_same a.0 b.0 (both_are _ _ p.0 q.0)) (both_are _ _ p.1 q.1);
    }
