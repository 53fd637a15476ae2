-- The laws of `laid`.
use Prim.Native.Nat.{ℕ, zero, suc, ◌+◌, ◌≤◌, ◌<◌}
use native.Mathlib.Numerals.{add-one}
use mathlib.Core.Path.{◌≡◌, refl, ap, sym, ◌∙◌}
use mathlib.Core.List.{List, [], ◌∷◌, ◌++◌, append-nil}
use lib.ListN.{length, drop, take, get_or, set, drop_of_length-le}
use native.Mathlib.Omega.{arith}
use native.Mathlib.Nat.{le_of_suc-le-suc, not-suc-le-zero}
use Rattle.octets.specs.Bytes.{laid}

pub length_laid : (s d : List ℕ) → length (laid s d) ≡ length d
length_laid [] d = refl
length_laid (x ∷ s) [] = refl
length_laid (x ∷ s) (y ∷ d) = ap suc (length_laid s d)

pub laid_fits : (s d : List ℕ) → length s ≤ length d → laid s d ≡ s ++ drop (length s) d
laid_fits [] d h = refl
laid_fits (x ∷ s) [] h = absurd (not-suc-le-zero h)
laid_fits (x ∷ s) (y ∷ d) h = ap (λ (l : List ℕ). x ∷ l) (laid_fits s d (le_of_suc-le-suc h))

pub laid_nil : (s : List ℕ) → laid s [] ≡ []
laid_nil [] = refl
laid_nil (x ∷ s) = refl

-- one field after another: a lent tail
pub laid_append : (s t d : List ℕ) → laid (s ++ t) d ≡ take (length s) (laid s d) ++ laid t (drop (length s) (laid s d))
laid_append [] t d = refl
laid_append (x ∷ s) t [] = ap (λ (l : List ℕ). l) (sym (laid_nil t))
laid_append (x ∷ s) t (y ∷ d) = ap (λ (l : List ℕ). x ∷ l) (laid_append s t d)

-- the copy loop: one byte more
pub laid_step : (s d : List ℕ) (i : ℕ) → i < length s → i < length d → set (laid (take i s) d) i (get_or s i 0) ≡ laid (take (i + 1) s) d
laid_step s d i hs hd = rw add-one (go s d i hs hd)
  where
    go : (s d : List ℕ) (i : ℕ) → i < length s → i < length d → set (laid (take i s) d) i (get_or s i 0) ≡ laid (take (suc i) s) d
    go [] d i hs hd = absurd (not-suc-le-zero hs)
    go (x ∷ s) [] i hs hd = absurd (not-suc-le-zero hd)
    go (x ∷ s) (y ∷ d) zero hs hd = refl
    go (x ∷ s) (y ∷ d) (suc i) hs hd = ap (λ (l : List ℕ). x ∷ l) (go s d i (le_of_suc-le-suc hs) (le_of_suc-le-suc hd))

-- past the buffer's end nothing more is written
pub laid_full : (s d : List ℕ) (i : ℕ) → length d ≤ i → laid (take i s) d ≡ laid s d
laid_full [] d zero h = refl
laid_full [] d (suc i) h = refl
laid_full (x ∷ s) [] zero h = refl
laid_full (x ∷ s) [] (suc i) h = refl
laid_full (x ∷ s) (y ∷ d) zero h = absurd (not-suc-le-zero h)
laid_full (x ∷ s) (y ∷ d) (suc i) h = ap (λ (l : List ℕ). x ∷ l) (laid_full s d i (le_of_suc-le-suc h))

pub laid_one : (b : ℕ) (d : List ℕ) → 0 < length d → set d 0 b ≡ laid (b ∷ []) d
laid_one b [] h = absurd (not-suc-le-zero h)
laid_one b (y ∷ d) h = refl

pub laid_no_room : (s d : List ℕ) → length d ≤ 0 → d ≡ laid s d
laid_no_room s [] h = sym (laid_nil s)
laid_no_room s (y ∷ d) h = absurd (not-suc-le-zero h)

-- a longer front laid over a shorter one, and a shorter one over a longer: runs that overlap
pub laid_more : (s d : List ℕ) (k m : ℕ) → k ≤ m → laid (take m s) (laid (take k s) d) ≡ laid (take m s) d
laid_more s d zero m h = refl
laid_more s d (suc k) zero h = absurd (not-suc-le-zero h)
laid_more [] d (suc k) (suc m) h = refl
laid_more (x ∷ s) [] (suc k) (suc m) h = refl
laid_more (x ∷ s) (y ∷ d) (suc k) (suc m) h = ap (λ (l : List ℕ). x ∷ l) (laid_more s d k m (le_of_suc-le-suc h))

pub laid_again : (s d : List ℕ) (k m : ℕ) → k ≤ m → laid (take k s) (laid (take m s) d) ≡ laid (take m s) d
laid_again s d zero m h = refl
laid_again s d (suc k) zero h = absurd (not-suc-le-zero h)
laid_again [] d (suc k) (suc m) h = refl
laid_again (x ∷ s) [] (suc k) (suc m) h = refl
laid_again (x ∷ s) (y ∷ d) (suc k) (suc m) h = ap (λ (l : List ℕ). x ∷ l) (laid_again s d k m (le_of_suc-le-suc h))

-- over as many bytes nothing of the buffer is left
pub laid_whole : (s d : List ℕ) → length d ≡ length s → laid s d ≡ s
laid_whole s d e = rw (laid_fits s d (omega arith), drop_of_length-le d {i = length s} (omega arith)) (append-nil s)

-- what is copied: all of s over the front, or as much as there is room for
pub put_fits : (s d new : List ℕ) → length s ≤ length d → new ≡ s → new ++ drop (length s) d ≡ laid s d
put_fits s d new h e = ap (λ (l : List ℕ). l ++ drop (length s) d) e ∙ sym (laid_fits s d h)

cut : (s d : List ℕ) → length d ≤ length s → take (length d) s ≡ laid s d
cut s [] h = sym (laid_nil s)
cut [] (y ∷ d) h = absurd (not-suc-le-zero h)
cut (x ∷ s) (y ∷ d) h = ap (λ (l : List ℕ). x ∷ l) (cut s d (le_of_suc-le-suc h))

pub put_cut : (s d new : List ℕ) → length d < length s → new ≡ take (length d) s → new ≡ laid s d
put_cut s d new h e = e ∙ cut s d (omega arith)
