-- Tests as facts: both of two that hold together, two tests on numbers that say the same, and a list that is spelled out and tried for bytes.
use Prim.Native.Nat.{ℕ, zero, suc, ◌≤◌, ◌<◌}
use mathlib.Core.Bool.{Bool, true, false, ◌&&◌}
use mathlib.Core.Path.{◌≡◌, refl, sym, ◌∙◌}
use mathlib.Core.List.{List, [], ◌∷◌}
use native.Mathlib.Omega.{arith}
use borrow.Author.Tests.{ltb-true, leb-true, leb-false, le-leb, lt-leb}
use lib.Dec.{ltb, leb}
use Rattle.octets.specs.Bytes.{AreBytes}

pub both : (a b : Bool) → (a && b) ≡ true → (a ≡ true) × (b ≡ true)
both true true e = (refl, refl)
both true false e = (refl, e)
both false true e = (e, refl)
both false false e = (e, e)

pub leb_same : (a b c d : ℕ) → (a ≤ b → c ≤ d) → (b < a → d < c) → leb a b ≡ leb c d
leb_same a b c d holds fails = go (leb a b) refl
  where
    go : (t : Bool) → leb a b ≡ t → leb a b ≡ leb c d
    go true e = e ∙ sym (le-leb c d (holds (leb-true a b e)))
    go false e = e ∙ sym (lt-leb c d (fails (leb-false a b e)))

unfoldable pub small : List ℕ → Bool
small [] = true
small (x ∷ s) = ltb x 256 && small s

pub bytes_of : (s : List ℕ) → small s ≡ true → AreBytes s
unfolding small
bytes_of [] e i = omega arith
bytes_of (x ∷ s) e zero = ltb-true x 256 (both (ltb x 256) (small s) e).0
bytes_of (x ∷ s) e (suc i) = bytes_of s (both (ltb x 256) (small s) e).1 i
