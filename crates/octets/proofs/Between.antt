-- The cases of `part_of`, and what a part within the list is.
use Prim.Native.Nat.{ℕ, ◌+◌, ◌-◌, ◌<◌, ◌≤◌}
use mathlib.Core.Path.{◌≡◌, refl, ap, ap₂, sym, ◌∙◌}
use mathlib.Core.List.{List, [], ◌∷◌, ◌++◌}
use native.Mathlib.Omega.{arith}
use native.Mathlib.Decide.{dec_lt}
use mathlib.Core.Logic.{◌⊎◌, inl, inr}
use borrow.Author.Tests.{lt-ltb, le-ltb}
use lib.ListN.{length, take, drop, length-take, length-drop}
use lib.Seq.{drop-drop, take-add, get_or-take, get_or-drop}
use Rattle.octets.specs.Bytes.{byte, part_of}

module _ (s : List ℕ) (start end : ℕ) where
  pub part_backwards : end < start → [] ≡ part_of s start end
  unfolding part_of
  part_backwards h = rw (lt-ltb end start h)

  pub part_past : start ≤ end → length s < end → [] ≡ part_of s start end
  unfolding part_of
  part_past h g = rw (le-ltb end start h, lt-ltb (length s) end g)

  pub part_within : start ≤ end → end ≤ length s → take (end - start) (drop start s) ≡ part_of s start end
  unfolding part_of
  part_within h g = rw (le-ltb end start h, le-ltb (length s) end g)

  pub part_nowhere : (end < start) ⊎ (length s < end) → [] ≡ part_of s start end
  part_nowhere (inl h) = part_backwards h
  part_nowhere (inr g) = by (dec_lt end start)
    where
      by : Dec (end < start) → [] ≡ part_of s start end
      by (yes h) = part_backwards h
      by (no n) = part_past (omega (arith, n)) g

  pub part_length : start ≤ end → end ≤ length s → length (part_of s start end) ≡ end - start
  part_length h g = rw (← part_within h g, length-take, length-drop) (omega arith)

module _ (s : List ℕ) (start mid end : ℕ) (low : start ≤ mid) (high : mid ≤ end) (within : end ≤ length s) where
  pub part_split : part_of s start end ≡ part_of s start mid ++ part_of s mid end
  part_split =
      let cut : end - start ≡ (mid - start) + (end - mid) = omega arith in
      let from : start + (mid - start) ≡ mid = omega arith in
      let behind : drop (mid - start) (drop start s) ≡ drop mid s = drop-drop (mid - start) start s ∙ ap (λ (k : ℕ). drop k s) from in
      sym (part_within s start end (omega arith) within)
      ∙ ap (λ (k : ℕ). take k (drop start s)) cut
      ∙ take-add (mid - start) (end - mid) (drop start s)
      ∙ ap₂ ◌++◌ (part_within s start mid low (omega arith)) (ap (take (end - mid)) behind ∙ part_within s mid end high within)

-- a byte of a part, and a part of one byte
pub part_byte : (s : List ℕ) (start end i : ℕ) → start + i < end → end ≤ length s → byte (part_of s start end) i ≡ byte s (start + i)
part_byte s start end i h within =
    ap (λ (l : List ℕ). byte l i) (sym (part_within s start end (omega arith) within))
    ∙ get_or-take (end - start) (drop start s) i 0 (omega arith) ∙ get_or-drop start s i 0

one_byte : (l : List ℕ) → length l ≡ 1 → l ≡ byte l 0 ∷ []
one_byte [] e = absurd (omega arith)
one_byte (x ∷ []) e = refl
one_byte (x ∷ y ∷ l) e = absurd (omega arith)

pub part_one : (s : List ℕ) (i : ℕ) → i < length s → part_of s i (i + 1) ≡ byte s i ∷ []
part_one s i h =
    one_byte (part_of s i (i + 1)) (part_length s i (i + 1) (omega arith) (omega arith) ∙ omega arith)
    ∙ ap (λ (b : ℕ). b ∷ []) (part_byte s i (i + 1) 0 (omega arith) (omega arith) ∙ ap (byte s) (omega arith))
