-- The strict entry beside the ordinary one: where bytes are too many, by the document's numbers, and where the two differ.
use Prim.Native.Nat.{ℕ, ◌+◌, ◌*◌, ◌<◌, ◌≤◌}
use mathlib.Core.Path.{◌≡◌, refl, ap, ap₂, sym, ◌∙◌}
use mathlib.Core.Bool.{Bool, true, false, and-false}
use mathlib.Core.List.{List}
use native.Mathlib.Omega.{arith}
use native.Mathlib.Decide.{ℕ_discrete, dec_lt}
use borrow.Author.Tests.{lt-ltb, ltb-true, ne_eqb}
use lib.ListN.{length, drop, length-drop}
use lib.Seq.{get_or-drop}
use Rattle.outcome.specs.Outcome.{Outcome, Gives, surplus_at}
use Rattle.outcome.proofs.Laws.{gives_same, word_gives}
use Rattle.octets.specs.Bytes.{byte, pair_at}
use Rattle.apdu_stated.specs.Words.{Lc3DataLe2, shape_no}
use Rattle.apdu_stated.specs.Answers.{Says}
use Rattle.apdu_stated.specs.Table.{le_read, least_of, lc_under}
use Rattle.apdu_stated.specs.Reading.{Entry, Ordinary, Strict, read_by, read_of, lengths_of, extended_of, after_data, say_of, strict_of}
use Rattle.apdu_stated.specs.Iso.{is_tolerated}
use Rattle.apdu_stated.specs.declared.Lengths.{Lengths}
use Rattle.apdu_stated.specs.declared.Lengths.TheVariants.{Surplus}
use Rattle.apdu_stated.specs.Terms.{IsoRow, LcZero, OldForm, Differ}
use Rattle.apdu_stated.proofs.Cases
use Rattle.apdu_stated.proofs.Ways.{way, way_takes, said_by, FrameWay, under, found, ends, goes_on, frame_way}
use Rattle.apdu_stated.proofs.Rows.{least_one, iso_row}

-- an extended Lc under the table's least is 0
under_zero : (entry : Entry) (lc : ℕ) → lc_under entry lc ≡ true → lc ≡ 0
under_zero entry lc d =
    let h = ltb-true lc (least_of entry Lc3DataLe2) d in
    let most = least_one entry Lc3DataLe2 in
    omega arith

-- ---- too many bytes, by the numbers: a short Lc, and an extended one, after four bytes of header
module _ (frame : List ℕ) where
  pub surplus_by : (entry : Entry) (k : ℕ) → 4 ≤ length frame → Surplus k ≡ lengths_of entry (drop 4 frame) → read_by entry frame ≡ surplus_at k
  surplus_by entry k long e = Cases.read_by_lem entry frame long ∙ ap (say_of frame) (sym e) ∙ Cases.say_surplus frame k

  pub lc_at : pair_at frame 5 ≡ byte (drop 4 frame) 1 * 256 + byte (drop 4 frame) 2
  lc_at = ap₂ (λ (a b : ℕ). a * 256 + b) (sym (get_or-drop 4 frame 1 0)) (sym (get_or-drop 4 frame 2 0))

  pub short_at : (entry : Entry) → (byte frame 4 ≡ 0x00 → ⊥) → 6 + byte frame 4 < length frame → read_by entry frame ≡ surplus_at (6 + byte frame 4)
  short_at entry nz more =
      let p = drop 4 frame in
      let all = length-drop 4 frame in
      let first : byte p 0 ≡ byte frame 4 = get_or-drop 4 frame 0 0 in
      surplus_by entry (6 + byte frame 4) (omega arith)
      (Cases.lengths_short entry p _ (omega arith) (omega arith) (λ z. nz (sym first ∙ z))
      (Cases.short_surplus p (byte frame 4) (byte frame 4) refl (sym first) (omega arith) (omega arith) (omega arith)))

  -- more than three bytes behind the header, the first of them 00, and an Lc that the table has
  module _ (entry : Entry) (z : byte frame 4 ≡ 0x00) (more : 7 < length frame) where
    pub extended_at : (l : Lengths) → lc_under entry (pair_at frame 5) ≡ false → l ≡ after_data (drop 4 frame) (pair_at frame 5) → l ≡ lengths_of entry (drop 4 frame)
    extended_at l d e =
        let all = length-drop 4 frame in
        Cases.lengths_extended entry (drop 4 frame) l (omega arith) (omega arith) (get_or-drop 4 frame 0 0 ∙ z)
        (Cases.extended_after entry (drop 4 frame) (pair_at frame 5) lc_at false (sym d) (omega arith) (omega arith) l refl e)

    pub zero_at : lc_under entry (pair_at frame 5) ≡ true → read_by entry frame ≡ surplus_at 7
    zero_at d =
        let all = length-drop 4 frame in
        surplus_by entry 7 (omega arith)
        (Cases.lengths_extended entry (drop 4 frame) (Surplus 7) (omega arith) (omega arith) (get_or-drop 4 frame 0 0 ∙ z)
        (Cases.extended_lc_zero entry (drop 4 frame) (pair_at frame 5) lc_at true (sym d) (omega arith) (omega arith) refl))

  pub wide_at : (entry : Entry) → lc_under entry (pair_at frame 5) ≡ false → byte frame 4 ≡ 0x00 → 9 + pair_at frame 5 < length frame → read_by entry frame ≡ surplus_at (9 + pair_at frame 5)
  wide_at entry d z more =
      let all = length-drop 4 frame in
      surplus_by entry (9 + pair_at frame 5) (omega arith)
      (extended_at entry z (omega arith) _ d (Cases.after_surplus (drop 4 frame) (pair_at frame 5) (omega arith) (omega arith) (omega arith) (omega arith)))

  pub strict_zero_at : LcZero frame → strict_of frame ≡ surplus_at 7
  strict_zero_at l = zero_at Strict l.extended l.longer (lt-ltb (pair_at frame 5) 1 (omega (arith, l.zero_lc)))

  -- one byte behind the data is surplus there, by either table
  pub old_at : (entry : Entry) → OldForm frame → read_by entry frame ≡ surplus_at (7 + pair_at frame 5)
  old_at entry o = go (lc_under entry (pair_at frame 5)) refl
    where
      e : length frame ≡ 8 + pair_at frame 5
      e = o.one_behind

      go : (b : Bool) → lc_under entry (pair_at frame 5) ≡ b → read_by entry frame ≡ surplus_at (7 + pair_at frame 5)
      go true d = zero_at entry o.extended (omega (arith, e)) d ∙ ap surplus_at (omega (arith, under_zero entry (pair_at frame 5) d))
      go false d =
          let all = length-drop 4 frame in
          surplus_by entry (7 + pair_at frame 5) (omega (arith, e))
          (extended_at entry o.extended (omega (arith, e)) _ d (Cases.after_one (drop 4 frame) (pair_at frame 5) (omega (arith, e, all))))

  -- two bytes behind an Lc of 0
  pub read_nine_at : byte frame 4 ≡ 0x00 → pair_at frame 5 ≡ 0 → length frame ≡ 9 → (le : ℕ) × (read_of frame ≡ Gives (said_by frame Lc3DataLe2 (pair_at frame 5) le))
  read_nine_at z empty e =
      let all = length-drop 4 frame in (
        le_read 2 (byte (drop 4 frame) (3 + pair_at frame 5) * 256 + byte (drop 4 frame) (4 + pair_at frame 5)),
        Cases.read_by_lem Ordinary frame (omega arith)
            ∙ ap (say_of frame) (sym (extended_at Ordinary z (omega arith) _ (Cases.ordinary_has (pair_at frame 5)) (Cases.after_le2 (drop 4 frame) (pair_at frame 5) _ _ (omega arith) refl refl)))
            ∙ Cases.say_found frame Lc3DataLe2 _ _,
      )

-- ---- the strict entry beside the ordinary one: they differ at an extended Lc of 0, in nine bytes or more
module _ (p : List ℕ) (not_zero : byte p 0 ≡ 0 → pair_at p 1 ≡ 0 → 3 < length p → ⊥) where
  pub extended_alike : byte p 0 ≡ 0 → extended_of Strict p ≡ extended_of Ordinary p
  extended_alike z = go (dec_lt (length p) 3) (ℕ_discrete (length p) 3)
    where
      behind : (entry : Entry) → 3 < length p → after_data p (pair_at p 1) ≡ extended_of entry p
      behind entry more =
          Cases.extended_after entry p (pair_at p 1) refl false (sym (Cases.has_data entry (pair_at p 1) (λ empty. not_zero z empty more))) (omega arith) (omega arith) _ refl refl

      go : Dec (length p < 3) → Dec (length p ≡ 3) → extended_of Strict p ≡ extended_of Ordinary p
      go (yes h) e = sym (Cases.extended_missing Strict p h) ∙ Cases.extended_missing Ordinary p h
      go (no h) (yes e) = sym (Cases.extended_le3 Strict p (pair_at p 1) refl _ e refl) ∙ Cases.extended_le3 Ordinary p (pair_at p 1) refl _ e refl
      go (no h) (no e) = sym (behind Strict (omega arith)) ∙ behind Ordinary (omega arith)

  pub lengths_alike : lengths_of Strict p ≡ lengths_of Ordinary p
  lengths_alike = go (ℕ_discrete (length p) 0) (ℕ_discrete (length p) 1) (ℕ_discrete (byte p 0) 0)
    where
      go : Dec (length p ≡ 0) → Dec (length p ≡ 1) → Dec (byte p 0 ≡ 0) → lengths_of Strict p ≡ lengths_of Ordinary p
      go (yes e) d z = sym (Cases.lengths_none Strict p e) ∙ Cases.lengths_none Ordinary p e
      go (no n) (yes e) z = sym (Cases.lengths_le1 Strict p _ e refl) ∙ Cases.lengths_le1 Ordinary p _ e refl
      go (no n) (no m) (yes z) = sym (Cases.lengths_extended Strict p _ n m z refl) ∙ extended_alike z ∙ Cases.lengths_extended Ordinary p _ n m z refl
      go (no n) (no m) (no nz) = sym (Cases.lengths_short Strict p _ n m nz refl) ∙ Cases.lengths_short Ordinary p _ n m nz refl

-- but for an extended Lc of 0 in more than seven bytes
pub otherwise_alike : (frame : List ℕ) → (LcZero frame → ⊥) → strict_of frame ≡ read_of frame
otherwise_alike frame same = go (dec_lt (length frame) 4)
  where
    first : byte (drop 4 frame) 0 ≡ byte frame 4
    first = get_or-drop 4 frame 0 0

    payload_alike : 4 ≤ length frame → lengths_of Strict (drop 4 frame) ≡ lengths_of Ordinary (drop 4 frame)
    payload_alike long =
        let all = length-drop 4 frame in
        let at = lc_at frame in
        lengths_alike (drop 4 frame) (λ z empty more. same (record { extended = sym first ∙ z; zero_lc = at ∙ empty; longer = omega arith }))

    go : Dec (length frame < 4) → strict_of frame ≡ read_of frame
    go (yes h) = sym (Cases.read_under Strict frame h) ∙ Cases.read_under Ordinary frame h
    go (no h) = Cases.read_by_lem Strict frame (omega arith) ∙ ap (say_of frame) (payload_alike (omega arith)) ∙ sym (Cases.read_by_lem Ordinary frame (omega arith))

-- eight bytes with an Lc of 0 are of the old form
pub eight_old : (frame : List ℕ) → LcZero frame → length frame ≡ 8 → OldForm frame
eight_old frame l e = let empty = l.zero_lc in record { extended = l.extended; one_behind = omega arith }

-- the test can be decided
pub lc_zero_known : (frame : List ℕ) → Dec (LcZero frame)
lc_zero_known frame = go (ℕ_discrete (byte frame 4) 0x00) (ℕ_discrete (pair_at frame 5) 0) (dec_lt 7 (length frame))
  where
    go : Dec (byte frame 4 ≡ 0x00) → Dec (pair_at frame 5 ≡ 0) → Dec (7 < length frame) → Dec (LcZero frame)
    go (yes z) (yes empty) (yes more) = yes (record { extended = z; zero_lc = empty; longer = more })
    go (no n) d e = no (λ l. n l.extended)
    go (yes z) (no n) e = no (λ l. n l.zero_lc)
    go (yes z) (yes empty) (no n) = no (λ l. n l.longer)

pub alike : (frame : List ℕ) → (Differ frame → ⊥) → strict_of frame ≡ read_of frame
alike frame same = go (lc_zero_known frame) (ℕ_discrete (length frame) 8)
  where
    go : Dec (LcZero frame) → Dec (length frame ≡ 8) → strict_of frame ≡ read_of frame
    go (no n) d = otherwise_alike frame n
    go (yes l) (yes e) = old_at frame Strict (eight_old frame l e) ∙ sym (old_at frame Ordinary (eight_old frame l e))
    go (yes l) (no n) = let longer = l.longer in absurd (same (record { lc_zero = l; nine = omega arith }))

-- the strict entry gives no shape 7 of no data
pub not_tolerated : (shape lc : ℕ) → IsoRow shape lc → is_tolerated shape lc ≡ false
not_tolerated shape lc r = go (ℕ_discrete shape 7)
  where
    go : Dec (shape ≡ 7) → is_tolerated shape lc ≡ false
    go (yes e) = let some = r.some_data (omega arith) (omega arith) in rw (ne_eqb lc 0 (omega arith), and-false)
    go (no n) = rw (ne_eqb shape 7 n)

pub strict_row : (frame : List ℕ) (says : Says) → strict_of frame ≡ Gives says → is_tolerated says.shape says.lc ≡ false
strict_row frame says e = go (strict_of frame) (frame_way Strict frame) e
  where
    go : (o : Outcome Says) → FrameWay Strict frame o → o ≡ Gives says → is_tolerated says.shape says.lc ≡ false
    go _ (under h) x = absurd (word_gives _ _ x)
    go _ (ends h f) x = absurd (word_gives _ _ x)
    go _ (goes_on h k f) x = absurd (word_gives _ _ x)
    go _ (found long s lc le f) x =
        ap (λ (y : Says). is_tolerated y.shape y.lc) (sym (gives_same _ _ x))
        ∙ not_tolerated (shape_no s) lc (iso_row s lc (way_takes Strict (drop 4 frame) (way Strict (drop 4 frame)) s lc le f))
