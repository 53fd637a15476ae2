-- Every way through a conversion, with what it shows: of a frame of bytes.
use Prim.Native.Nat.{ℕ, ◌<◌, ◌≤◌}
use mathlib.Core.Path.{◌≡◌, refl, ap, sym, subst, ◌∙◌}
use mathlib.Core.List.{List, [], ◌∷◌, ◌++◌}
use native.Mathlib.Omega.{arith}
use native.Mathlib.Decide.{ℕ_discrete, dec_lt}
use borrow.Author.Tests.{lt-ltb, le-ltb, ne_eqb}
use lib.ListN.{length, drop}
use Rattle.outcome.specs.Outcome.{StatusWord, Outcome, R, Word, Gives}
use Rattle.outcome.proofs.Laws.{word_gives, r_gives}
use Rattle.octets.specs.Bytes.{AreBytes}
use Rattle.octets.proofs.Laws.{laid_fits}
use Rattle.apdu_stated.specs.declared.ApduHeader.{ApduHeader}
use Rattle.apdu_stated.specs.declared.Case.{Case}
use Rattle.apdu_stated.specs.declared.Case.TheVariants.{Lc3DataLe2}
use Rattle.apdu_stated.specs.declared.Entry.TheVariants.{Ordinary}
use Rattle.apdu_stated.specs.Answers.{Says}
use Rattle.apdu_stated.specs.Reading.{read_of}
use Rattle.apdu_stated.specs.Writing.{Parts, parts_of, writing_of}
use Rattle.apdu_stated.specs.Terms.{OneByteLe, full, plain, saying, InTable, IsFrameOf, Carries, shape7, shape8, OldForm}
use Rattle.apdu_stated.proofs.Laws.{write_exactly, frame_of_lem, read_exactly, read_refuses_not, reads_entry, WriteWay, unfit, no_room, written, write_way}
use Rattle.convert_stated.specs.Converting.{old_of, new_shape, new_parts, copied, kept_by, convert_by, convert_of}
use Rattle.convert_stated.specs.Terms.{Old, row6, Becomes, as_shape_7, as_shape_8, unchanged}
use Rattle.convert_stated.proofs.OldForms.{old_says, says_old, old_data, old_given, given_old, not_both}

-- ---- the new form
-- of a frame of the old form, the parts of the new one
pub new_parts_lem : {frame : List ℕ} {h : ApduHeader} {d : List ℕ} {le : ℕ} → Old frame h d le → new_parts frame (saying h 6 7 (length d) le) ≡ parts_of h (new_shape (length d)) d le
new_parts_lem {frame} {h} {d} {le} o = ap (λ (content : List ℕ). parts_of h (new_shape (length d)) content le) (old_data o)

pub renewed : (frame before : List ℕ) (h : ApduHeader) (d : List ℕ) (le : ℕ) → AreBytes frame → Old frame h d le → convert_of frame before ≡ writing_of (parts_of h (new_shape (length d)) d le) before
unfolding convert_of
renewed frame before h d le bytes o = ap (λ (x : Outcome Says). convert_by frame x before) (old_says bytes o) ∙ ap (λ (w : Parts). writing_of w before) (new_parts_lem o)

-- it can be carried
le_small : {b le : ℕ} → OneByteLe b le → (1 ≤ le) × (le ≤ 256)
le_small full = (omega arith, omega arith)
le_small (plain low high) = (low, omega arith)

pub carried : {frame : List ℕ} {h : ApduHeader} {d : List ℕ} {le : ℕ} → Old frame h d le → Carries (new_shape (length d)) (length d) le
carried (row6 {h} {d} {hi} {lo} {b} {le} p o) = go (ℕ_discrete (length d) 0)
  where
    small : (1 ≤ le) × (le ≤ 256)
    small = le_small o

    go : Dec (length d ≡ 0) → Carries (new_shape (length d)) (length d) le
    go (yes z) = rw z (shape8 small.0 (omega (arith, small.1)))
    go (no n) = let is = p.is in let high = p.high in let low = p.low in rw (ne_eqb (length d) 0 n) (shape7 {n = length d} (omega arith) small.0 (omega (arith, small.1)))

-- what is a frame of the new parts is what the old form becomes, and back
pub becomes_new : (frame result : List ℕ) (h : ApduHeader) (d : List ℕ) (le : ℕ) → Old frame h d le → IsFrameOf InTable (parts_of h (new_shape (length d)) d le) result → Becomes frame result
becomes_new frame result h [] le o i = as_shape_8 o i
becomes_new frame result h (x ∷ d) le o i = as_shape_7 o (omega arith) (subst (λ (s : Case). IsFrameOf InTable (parts_of h s (x ∷ d) le) result) with_data i)
  where
    with_data : new_shape (length (x ∷ d)) ≡ Lc3DataLe2
    with_data = rw (ne_eqb (length (x ∷ d)) 0 (omega arith))

-- ---- every way
pub data Way (frame before : List ℕ) : Outcome ℕ × List ℕ → Type 0 where
  short : (result : List ℕ) → Becomes frame result → length before < length result → Way frame before (R 2, before)
  wrote : (result : List ℕ) → Becomes frame result → length result ≤ length before → Way frame before (Gives (length result), result ++ drop (length result) before)
  status : (w : StatusWord) → read_of frame ≡ Word w → (OldForm frame → ⊥) → Way frame before (Word w, before)

module _ (frame before : List ℕ) (bytes : AreBytes frame) where
  -- of the old form
  by_writing : (h : ApduHeader) (d : List ℕ) (le : ℕ) → Old frame h d le → Way frame before (writing_of (parts_of h (new_shape (length d)) d le) before)
  by_writing h d le o = go (writing_of w before) (write_way Ordinary w before) refl
    where
      w : Parts
      w = parts_of h (new_shape (length d)) d le

      go : (x : Outcome ℕ × List ℕ) → WriteWay Ordinary w before x → writing_of w before ≡ x → Way frame before x
      go _ (unfit c) e = absurd (((write_exactly Ordinary).r5 w before).0 (ap (λ (x : Outcome ℕ × List ℕ). x.0) e) (carried o))
      go _ (no_room c g) e =
          let t = ((write_exactly Ordinary).r2 w before).0 (ap (λ (x : Outcome ℕ × List ℕ). x.0) e) in
          short t.0 (becomes_new frame t.0 h d le o t.1) t.2
      go _ (written c g) e = wrote _ (becomes_new frame _ h d le o (frame_of_lem Ordinary w c)) g

  -- of no old form
  by_copy : (said : Says) → read_of frame ≡ Gives said → Way frame before (copied frame before)
  by_copy said r = go (dec_lt (length before) (length frame))
    where
      as_it_is : Becomes frame frame
      as_it_is = let t = (read_exactly frame bytes said).0 r in unchanged t.1

      go : Dec (length before < length frame) → Way frame before (copied frame before)
      go (yes h) = subst (Way frame before) (sym (rw (lt-ltb (length before) (length frame) h))) (short frame as_it_is h)
      go (no n) =
          let fits : length frame ≤ length before = omega arith in
          subst (Way frame before) (sym (rw (le-ltb (length before) (length frame) fits, laid_fits frame before fits))) (wrote frame as_it_is fits)

  by_reading : (OldForm frame → ⊥) → (o : Outcome Says) → read_of frame ≡ o → Way frame before (kept_by frame o before)
  by_reading n (Gives said) e = by_copy said e
  by_reading n (Word w) e = status w e n
  by_reading n (R k) e = absurd (read_refuses_not frame k e)

  by_form : (o : Outcome Says) → old_of frame ≡ o → Way frame before (convert_by frame o before)
  by_form (Gives said) e =
      let i = says_old frame said bytes e in
      subst (Way frame before) (sym (ap (λ (s : Says). writing_of (new_parts frame s) before) i.said ∙ ap (λ (w : Parts). writing_of w before) (new_parts_lem i.is_old))) (by_writing i.h i.d i.le i.is_old)
  by_form (Word w) e = by_reading (λ o. word_gives _ _ (sym e ∙ old_given frame o)) (read_of frame) refl
  by_form (R k) e = by_reading (λ o. r_gives _ _ (sym e ∙ old_given frame o)) (read_of frame) refl

  pub way : Way frame before (convert_of frame before)
  unfolding convert_of
  way = by_form (old_of frame) refl

-- ---- on numbers whatever: a frame of the table is copied
module _ (frame before : List ℕ) (said : Says) (d : List ℕ) (i : InTable frame said d) (fits : length frame ≤ length before) where
  copied_whole : copied frame before ≡ (Gives (length frame), frame ++ drop (length frame) before)
  copied_whole = rw (le-ltb (length before) (length frame) fits, laid_fits frame before fits)

  kept_whole : kept_by frame (read_of frame) before ≡ (Gives (length frame), frame ++ drop (length frame) before)
  kept_whole = ap (λ (o : Outcome Says). kept_by frame o before) (reads_entry Ordinary frame d said i) ∙ copied_whole

  by_none : (o : Outcome Says) → old_of frame ≡ o → convert_by frame o before ≡ (Gives (length frame), frame ++ drop (length frame) before)
  by_none (Gives says) e = absurd (not_both frame d said i (given_old frame says e))
  by_none (Word w) e = kept_whole
  by_none (R n) e = kept_whole

  pub copies : convert_of frame before ≡ (Gives (length frame), frame ++ drop (length frame) before)
  unfolding convert_of
  copies = by_none (old_of frame) refl
