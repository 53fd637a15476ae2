-- What a frame becomes: one thing, in the table, that holds what the frame did.
use Prim.Native.Nat.{ℕ, ◌+◌, ◌≤◌}
use mathlib.Core.Path.{◌≡◌, refl, ap, sym, ◌∙◌}
use mathlib.Core.List.{List, [], ◌∷◌}
use mathlib.Core.Logic.{◌⊎◌, inl, inr}
use native.Mathlib.Omega.{arith}
use native.Mathlib.Decide.{ℕ_discrete}
use lib.ListN.{length, length-append}
use Rattle.outcome.specs.Outcome.{Gives}
use Rattle.outcome.proofs.Laws.{gives_same, word_gives}
use Rattle.octets.specs.Bytes.{AreBytes}
use Rattle.apdu_stated.specs.declared.ApduHeader.{ApduHeader}
use Rattle.apdu_stated.specs.declared.Case.{Case}
use Rattle.apdu_stated.specs.declared.Case.TheVariants.{Lc3DataLe2, Le3}
use Rattle.apdu_stated.specs.declared.Entry.TheVariants.{Ordinary}
use Rattle.apdu_stated.specs.Answers.{Says}
use Rattle.apdu_stated.specs.Reading.{read_of, data_of}
use Rattle.apdu_stated.specs.Writing.{parts_of, frame_of}
use Rattle.apdu_stated.specs.Terms.{InTable, row1, row2, row3, row4, row5, row7, row8, IsFrameOf, LcZero, OldForm}
use Rattle.apdu_stated.proofs.Laws.{is_built, frame_long, old_at}
use Rattle.convert_stated.specs.Terms.{Old, row6, Holds, by_table, by_old, Becomes, as_shape_7, as_shape_8, unchanged}
use Rattle.convert_stated.proofs.OldForms.{old_says, old_data, old_form, not_both}

-- a frame of the table that has these parts, as its reading says it
pub record Said (result : List ℕ) (h : ApduHeader) (d : List ℕ) (le : ℕ) : Type 0 where
  pub says : Says
  pub table : InTable result says d
  pub header : says.header ≡ h
  pub same_le : says.le ≡ le

made : {result : List ℕ} {h : ApduHeader} {s : Case} {d : List ℕ} {le : ℕ} → IsFrameOf InTable (parts_of h s d le) result → Said result h d le
made i = record { says = i.says; table = i.table; header = i.header; same_le = i.le }

-- two frames of the same old form have its header, data and Le
old_one : {frame : List ℕ} {h k : ApduHeader} {d e : List ℕ} {le me : ℕ} → AreBytes frame → Old frame h d le → Old frame k e me → (h ≡ k) × (d ≡ e) × (le ≡ me)
old_one {frame} {h} {k} {d} {e} {le} {me} bytes o p =
    let same = gives_same _ _ (sym (old_says bytes o) ∙ old_says bytes p) in (
      ap (λ (s : Says). s.header) same,
      sym (old_data o) ∙ ap (data_of frame) same ∙ old_data p,
      ap (λ (s : Says). s.le) same,
    )

-- what a frame holds, its result does
pub holds : {frame result : List ℕ} → Becomes frame result → (h : ApduHeader) × (d : List ℕ) × (le : ℕ) × Holds frame h d le × Said result h d le
holds (as_shape_7 o some w) = (_, _, _, by_old o, made w)
holds (as_shape_8 o w) = (_, _, _, by_old o, made w)
holds (unchanged i) = (_, _, _, by_table i, record { says = _; table = i; header = refl; same_le = refl })

-- eight bytes and the data
old_long : {frame : List ℕ} {h : ApduHeader} {d : List ℕ} {le : ℕ} → Old frame h d le → length frame ≡ 8 + length d
old_long (row6 {h} {d} {hi} {lo} {b} {le} p o) = let long = length-append d (b ∷ []) in omega arith

-- in the table, whatever it was
pub in_table : {frame result : List ℕ} → Becomes frame result → (says : Says) × (d : List ℕ) × InTable result says d
in_table (as_shape_7 o some w) = (_, _, w.table)
in_table (as_shape_8 o w) = (_, _, w.table)
in_table (unchanged i) = (_, _, i)

-- a frame becomes one thing
pub becomes_one : {frame a b : List ℕ} → AreBytes frame → Becomes frame a → Becomes frame b → a ≡ b
becomes_one bytes (unchanged i) (unchanged j) = refl
becomes_one bytes (unchanged i) (as_shape_7 o some w) = absurd (not_both _ _ _ i (old_form o))
becomes_one bytes (unchanged i) (as_shape_8 o w) = absurd (not_both _ _ _ i (old_form o))
becomes_one bytes (as_shape_7 o some w) (unchanged i) = absurd (not_both _ _ _ i (old_form o))
becomes_one bytes (as_shape_8 o w) (unchanged i) = absurd (not_both _ _ _ i (old_form o))
becomes_one bytes (as_shape_7 {h = h} {d = d} {le = le} o some w) (as_shape_7 {h = k} {d = e} {le = me} p more v) =
    let t = old_one bytes o p in
    (is_built Ordinary (parts_of h Lc3DataLe2 d le) _ w).built.layout
    ∙ ap frame_of (rw (t.0, t.1, t.2) refl)
    ∙ sym (is_built Ordinary (parts_of k Lc3DataLe2 e me) _ v).built.layout
becomes_one bytes (as_shape_8 {h = h} {le = le} o w) (as_shape_8 {h = k} {le = me} p v) =
    let t = old_one bytes o p in
    (is_built Ordinary (parts_of h Le3 [] le) _ w).built.layout
    ∙ ap frame_of (rw (t.0, t.2) refl)
    ∙ sym (is_built Ordinary (parts_of k Le3 [] me) _ v).built.layout
becomes_one bytes (as_shape_7 o some w) (as_shape_8 p v) = let t = old_one bytes o p in let z = ap (length {A = ℕ}) t.1 in absurd (omega arith)
becomes_one bytes (as_shape_8 p v) (as_shape_7 o some w) = let t = old_one bytes o p in let z = ap (length {A = ℕ}) t.1 in absurd (omega arith)

-- the new form is a byte longer than the old one, or, without data, a byte shorter
pub new_long : {frame result : List ℕ} → OldForm frame → Becomes frame result → (length result ≡ 1 + length frame) ⊎ (1 + length result ≡ length frame)
new_long {frame} {result} f (as_shape_7 {h = h} {d = d} {le = le} o some w) =
    let is = ap length (is_built Ordinary (parts_of h Lc3DataLe2 d le) result w).built.layout in
    let long = frame_long h Lc3DataLe2 d le in
    let eight = old_long o in
    inl (omega arith)
new_long {frame} {result} f (as_shape_8 {h = h} {le = le} o w) =
    let is = ap length (is_built Ordinary (parts_of h Le3 [] le) result w).built.layout in
    let long = frame_long h Le3 [] le in
    let eight = old_long o in
    inr (omega arith)
new_long f (unchanged i) = absurd (not_both _ _ _ i f)

-- so it is another frame
pub changed : {frame result : List ℕ} → OldForm frame → Becomes frame result → result ≡ frame → ⊥
changed {frame} {result} f b e = go (new_long f b)
  where
    go : (length result ≡ 1 + length frame) ⊎ (1 + length result ≡ length frame) → ⊥
    go (inl x) = let same = ap (length {A = ℕ}) e in omega arith
    go (inr x) = let same = ap (length {A = ℕ}) e in omega arith

-- ---- of a frame of the table
pub lc_is : {frame d : List ℕ} {says : Says} → InTable frame says d → says.lc ≡ length d
lc_is row1 = refl
lc_is (row2 o) = refl
lc_is (row3 low high) = refl
lc_is (row4 low high o) = refl
lc_is (row5 low p) = refl
lc_is (row7 p o) = refl
lc_is (row8 o) = refl

-- shapes 3 to 7 have data, but for shape 7 with an Lc of 0
pub some_data : {frame d : List ℕ} {says : Says} → InTable frame says d → (says.shape ≡ 7 → says.lc ≡ 0 → ⊥) → 3 ≤ says.shape → says.shape ≤ 7 → 1 ≤ says.lc
some_data row1 n a b = absurd (omega arith)
some_data (row2 o) n a b = absurd (omega arith)
some_data (row3 low high) n a b = low
some_data (row4 low high o) n a b = low
some_data (row5 low p) n a b = low
some_data (row7 {d = d} p o) n a b = go (ℕ_discrete (length d) 0)
  where
    go : Dec (length d ≡ 0) → 1 ≤ length d
    go (yes z) = absurd (n refl z)
    go (no m) = omega arith
some_data (row8 o) n a b = absurd (omega arith)

-- shape 7 with an Lc of 0, by its bytes
pub lc_zero : {frame d : List ℕ} {says : Says} → InTable frame says d → says.shape ≡ 7 → says.lc ≡ 0 → LcZero frame
lc_zero row1 a b = absurd (omega arith)
lc_zero (row2 o) a b = absurd (omega arith)
lc_zero (row3 low high) a b = absurd (omega arith)
lc_zero (row4 low high o) a b = absurd (omega arith)
lc_zero (row5 low p) a b = absurd (omega arith)
lc_zero (row7 {d = d} {a = x} {b = y} p o) a b = let is = p.is in let long = length-append d (x ∷ y ∷ []) in record { longer = omega arith; extended = refl; zero_lc = omega arith }
lc_zero (row8 o) a b = absurd (omega arith)

-- a frame that is read is not of the old form
pub unread_old : {frame : List ℕ} {says : Says} → read_of frame ≡ Gives says → OldForm frame → ⊥
unread_old {frame} e o = word_gives _ _ (sym (old_at frame Ordinary o) ∙ e)
