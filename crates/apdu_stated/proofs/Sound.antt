-- A payload that is read is laid out as its row says.
use Prim.Native.Nat.{ℕ, suc, ◌+◌, ◌*◌, ◌/◌, ◌%◌, ◌<◌, ◌≤◌}
use mathlib.Core.Path.{◌≡◌, refl, ap, ap₂, sym, ◌∙◌}
use mathlib.Core.Bool.{true}
use mathlib.Core.List.{List, [], ◌∷◌, ◌++◌}
use native.Mathlib.Omega.{arith}
use native.Mathlib.Nat.{not-suc-le-zero, le_of_suc-le-suc}
use native.Mathlib.Numerals.{add-one}
use native.Mathlib.Decide.{ℕ_discrete}
use borrow.Author.Tests.{le-leb, ne_eqb}
use lib.ListN.{length, take, drop, take-append-drop, length-take, length-drop, drop_of_length-le}
use lib.Seq.{drop-drop, drop-cons, take_all}
use Rattle.octets.specs.Bytes.{byte, pair_at, bytes2, AreBytes}
use Rattle.apdu_stated.specs.Words.{Case, Instruction, Le1, Lc1Data, Lc1DataLe1, Lc3Data, Lc3DataLe2, Le3}
use Rattle.apdu_stated.specs.Table.{lc_field, le_field, lc_least, lc_most, le_least, le_most, lc_fits, le_fits, can_carry, le_read, lc_bytes, le_bytes}
use Rattle.apdu_stated.specs.Reading.{Entry}
use Rattle.apdu_stated.specs.Writing.{payload_of}
use Rattle.apdu_stated.specs.declared.Lengths.{Lengths}
use Rattle.apdu_stated.specs.declared.Lengths.TheVariants.{Found, Missing, Surplus}
use Rattle.apdu_stated.proofs.LaidOut.{Carried}
use Rattle.apdu_stated.proofs.Ways.{Way, none, le1, short, short_le, le3, wide, wide_le2, missing, short_surplus, le1_surplus, wide_surplus, zero_surplus}

pub record LaidAs (p : List ℕ) (s : Case) (lc le : ℕ) : Type 0 where
  pub content : List ℕ
  pub is : p ≡ payload_of s content le
  pub long : length content ≡ lc
  pub carried : can_carry s lc le ≡ true

unfoldable pub Laid : List ℕ → Lengths → Type 0
Laid p (Found s lc le) = LaidAs p s lc le
Laid p Missing = Unit {0}
Laid p (Surplus place) = Unit {0}

pub carry : (s : Case) (n le : ℕ) → Carried s n le → can_carry s n le ≡ true
unfolding lc_fits le_fits
carry s n le k =
    rw (le-leb (lc_least s) n k.lc_low, le-leb n (lc_most (lc_field s)) k.lc_high, le-leb (le_least (le_field s)) le k.le_low, le-leb le (le_most (le_field s)) k.le_high)

-- ---- fields at the front and behind the data
take_1 : (p : List ℕ) → 1 ≤ length p → take 1 p ≡ byte p 0 ∷ []
take_1 [] h = absurd (not-suc-le-zero h)
take_1 (x ∷ p) h = refl

take_3 : (p : List ℕ) → 3 ≤ length p → take 3 p ≡ byte p 0 ∷ byte p 1 ∷ byte p 2 ∷ []
take_3 [] h = absurd (not-suc-le-zero h)
take_3 (x ∷ []) h = absurd (not-suc-le-zero (le_of_suc-le-suc h))
take_3 (x ∷ y ∷ []) h = absurd (not-suc-le-zero (le_of_suc-le-suc (le_of_suc-le-suc h)))
take_3 (x ∷ y ∷ z ∷ p) h = refl

module _ (p : List ℕ) (a n : ℕ) where
  tail_0 : length p ≡ a + n → drop n (drop a p) ≡ []
  tail_0 e = drop-drop n a p ∙ drop_of_length-le p {i = a + n} (omega arith)

  tail_1 : length p ≡ a + n + 1 → drop n (drop a p) ≡ byte p (a + n) ∷ []
  tail_1 e = drop-drop n a p ∙ drop-cons p (a + n) 0 (omega arith) ∙ ap (λ (l : List ℕ). byte p (a + n) ∷ l) (drop_of_length-le p {i = suc (a + n)} (omega arith))

  tail_2 : length p ≡ a + n + 2 → drop n (drop a p) ≡ byte p (a + n) ∷ byte p (a + n + 1) ∷ []
  tail_2 e =
      drop-drop n a p ∙ drop-cons p (a + n) 0 (omega arith)
      ∙ ap (λ (l : List ℕ). byte p (a + n) ∷ l)
      (ap (λ (k : ℕ). drop k p) (sym (add-one (a + n))) ∙ drop-cons p (a + n + 1) 0 (omega arith)
      ∙ ap (λ (l : List ℕ). byte p (a + n + 1) ∷ l) (drop_of_length-le p {i = suc (a + n + 1)} (omega arith)))

laid_as : (p : List ℕ) (s : Case) (lc le : ℕ) → lc_field s + lc ≤ length p → take (lc_field s) p ≡ lc_bytes (lc_field s) lc → drop lc (drop (lc_field s) p) ≡ le_bytes (le_field s) le
    → Carried s lc le → LaidAs p s lc le
unfolding payload_of
laid_as p s lc le fits front back k =
    let content = take lc (drop (lc_field s) p) in
    let long : length content ≡ lc = length-take lc (drop (lc_field s) p) ∙ rw length-drop (omega arith) in
    let cut : p ≡ take (lc_field s) p ++ (content ++ drop lc (drop (lc_field s) p)) =
    sym (take-append-drop (lc_field s) p) ∙ ap (λ (l : List ℕ). take (lc_field s) p ++ l) (sym (take-append-drop lc (drop (lc_field s) p))) in
    record {
      content = content;
      is = cut ∙ ap₂ (λ (f b : List ℕ). f ++ (content ++ b)) (front ∙ ap (lc_bytes (lc_field s)) (sym long)) back;
      long = long;
      carried = carry s lc le k;
    }

-- ---- an Le that was read
pub record LeIs (long m b : ℕ) : Type 0 where
  pub low : 1 ≤ le_read long b
  pub high : le_read long b ≤ m
  pub back : b ≡ le_read long b % m

le_is : (long m b : ℕ) → le_most long ≡ m → 1 ≤ m → b < m → 0 ≡ m % m → (b < m → b ≡ b % m) → LeIs long m b
le_is long m b most some under full same = go (ℕ_discrete b 0)
  where
    go : Dec (b ≡ 0) → LeIs long m b
    go (yes z) =
        let here : le_read long b ≡ m = ap (le_read long) z ∙ most in
        record { low = omega arith; high = omega arith; back = z ∙ full ∙ ap (λ (k : ℕ). k % m) (sym here) }
    go (no n) =
        let here : le_read long b ≡ b = rw (ne_eqb b 0 n) in
        record { low = omega arith; high = omega arith; back = same under ∙ ap (λ (k : ℕ). k % m) (sym here) }

pub le_1 : (b : ℕ) → b < 256 → LeIs 1 256 b
le_1 b h = le_is 1 256 b refl (omega arith) h refl (λ u. omega arith)

pub le_2 : (b : ℕ) → b < 65536 → LeIs 2 65536 b
le_2 b h = le_is 2 65536 b refl (omega arith) h refl (λ u. omega arith)

pub le_3 : (b : ℕ) → b < 65536 → LeIs 3 65536 b
le_3 b h = le_is 3 65536 b refl (omega arith) h refl (λ u. omega arith)

pub two_back : (h l : ℕ) → h < 256 → l < 256 → h ∷ l ∷ [] ≡ bytes2 (h * 256 + l)
two_back h l p q =
    let a : h ≡ (h * 256 + l) / 256 = omega arith in
    let b : l ≡ (h * 256 + l) % 256 = omega arith in
    ap₂ (λ (x y : ℕ). x ∷ y ∷ []) a b

-- ---- row by row
module _ (p : List ℕ) (bytes : AreBytes p) where
  three : byte p 0 ≡ 0 → 3 ≤ length p → take 3 p ≡ 0 ∷ bytes2 (pair_at p 1)
  three z h = take_3 p h ∙ ap₂ (λ (x : ℕ) (l : List ℕ). x ∷ l) z (two_back (byte p 1) (byte p 2) (bytes 1) (bytes 2))

  pair_below : (i : ℕ) → pair_at p i < 65536
  pair_below i = omega (arith, bytes i, bytes (i + 1))

  is_none : length p ≡ 0 → LaidAs p Instruction 0 0
  is_none e = laid_as p Instruction 0 0 (omega arith) refl (drop_of_length-le p {i = 0} (omega arith)) (omega arith)

  is_le1 : length p ≡ 1 → LaidAs p Le1 0 (le_read 1 (byte p 0))
  is_le1 e =
      let le = le_1 (byte p 0) (bytes 0) in
      laid_as p Le1 0 (le_read 1 (byte p 0)) (omega arith) refl (tail_1 p 0 0 e ∙ ap (λ (x : ℕ). x ∷ []) le.back)
      (record { lc_low = omega arith; lc_high = omega arith; le_low = le.low; le_high = le.high })

  is_short : (byte p 0 ≡ 0 → ⊥) → length p ≡ 1 + byte p 0 → LaidAs p Lc1Data (byte p 0) 0
  is_short nz e =
      let b = bytes 0 in
      laid_as p Lc1Data (byte p 0) 0 (omega arith) (take_1 p (omega arith)) (tail_0 p 1 (byte p 0) e) (omega arith)

  is_short_le : (byte p 0 ≡ 0 → ⊥) → length p ≡ 2 + byte p 0 → LaidAs p Lc1DataLe1 (byte p 0) (le_read 1 (byte p (1 + byte p 0)))
  is_short_le nz e =
      let b = bytes 0 in
      let le = le_1 (byte p (1 + byte p 0)) (bytes (1 + byte p 0)) in
      laid_as p Lc1DataLe1 (byte p 0) (le_read 1 (byte p (1 + byte p 0))) (omega arith) (take_1 p (omega arith))
      (tail_1 p 1 (byte p 0) (omega arith) ∙ ap (λ (x : ℕ). x ∷ []) le.back)
      (record { lc_low = omega arith; lc_high = omega arith; le_low = le.low; le_high = le.high })

  is_le3 : byte p 0 ≡ 0 → length p ≡ 3 → LaidAs p Le3 0 (le_read 3 (pair_at p 1))
  is_le3 z e =
      let le = le_3 (pair_at p 1) (pair_below 1) in
      laid_as p Le3 0 (le_read 3 (pair_at p 1)) (omega arith) refl
      (sym (take_all 3 p (omega arith)) ∙ three z (omega arith) ∙ ap (λ (x : ℕ). 0 ∷ bytes2 x) le.back)
      (record { lc_low = omega arith; lc_high = omega arith; le_low = le.low; le_high = le.high })

  is_wide : byte p 0 ≡ 0 → (pair_at p 1 ≡ 0 → ⊥) → length p ≡ 3 + pair_at p 1 → LaidAs p Lc3Data (pair_at p 1) 0
  is_wide z nz e =
      let b = pair_below 1 in
      laid_as p Lc3Data (pair_at p 1) 0 (omega arith) (three z (omega arith)) (tail_0 p 3 (pair_at p 1) e) (omega arith)

  is_wide_le2 : byte p 0 ≡ 0 → length p ≡ 5 + pair_at p 1 → LaidAs p Lc3DataLe2 (pair_at p 1) (le_read 2 (pair_at p (3 + pair_at p 1)))
  is_wide_le2 z e =
      let b = pair_below 1 in
      let at = 3 + pair_at p 1 in
      let le = le_2 (pair_at p at) (pair_below at) in
      laid_as p Lc3DataLe2 (pair_at p 1) (le_read 2 (pair_at p at)) (omega arith) (three z (omega arith))
      (tail_2 p 3 (pair_at p 1) (omega arith) ∙ two_back (byte p at) (byte p (at + 1)) (bytes at) (bytes (at + 1)) ∙ ap bytes2 le.back)
      (record { lc_low = omega arith; lc_high = omega arith; le_low = le.low; le_high = le.high })

  pub sound : {entry : Entry} {l : Lengths} → Way entry p l → Laid p l
  unfolding Laid
  sound (none e) = is_none e
  sound (le1 e) = is_le1 e
  sound (short nz e) = is_short nz e
  sound (short_le nz e) = is_short_le nz e
  sound (le3 z e) = is_le3 z e
  sound (wide z nz e) = is_wide z nz e
  sound (wide_le2 d z e) = is_wide_le2 z e
  sound (missing early) = tt
  sound (short_surplus nz h) = tt
  sound (le1_surplus d z h) = tt
  sound (wide_surplus d z h) = tt
  sound (zero_surplus d z h) = tt
