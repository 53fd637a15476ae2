-- Only the definition meets each claim.
use Prim.Native.Nat.{ℕ, ◌+◌, ◌*◌, ◌/◌, ◌%◌, ◌≤◌}
use mathlib.Core.Path.{◌≡◌, refl, ap, sym, ◌∙◌}
use mathlib.Core.Bool.{Bool, true, false}
use mathlib.Core.List.{List, [], ◌∷◌}
use mathlib.Core.Logic.{◌↔◌}
use native.Mathlib.Omega.{arith}
use native.Mathlib.Decide.{ℕ_discrete}
use Rattle.outcome.specs.Notation.{Determines, Determines2, Determines3}
use Rattle.octets.specs.Bytes.{laid}
use Rattle.apdu_le.specs.Claims

pub ReadExactly : Determines Claims.ReadExactly
ReadExactly f g p q = same
  where
    one : (b : ℕ) → Dec (b ≡ 0) → f (b ∷ []) ≡ g (b ∷ [])
    one b (yes z) = rw z (p.one_zero ∙ sym q.one_zero)
    one b (no n) = p.one b n ∙ sym (q.one b n)

    two : (hi lo : ℕ) → Dec (hi * 256 + lo ≡ 0) → f (hi ∷ lo ∷ []) ≡ g (hi ∷ lo ∷ [])
    two hi lo (yes z) =
        let h : hi ≡ 0 = omega arith in
        let l : lo ≡ 0 = omega arith in
        rw (h, l) (p.two_zero ∙ sym q.two_zero)
    two hi lo (no n) = p.two hi lo n ∙ sym (q.two hi lo n)

    same : (field : List ℕ) → f field ≡ g field
    same [] = p.absent ∙ sym q.absent
    same (b ∷ []) = one b (ℕ_discrete b 0)
    same (hi ∷ lo ∷ []) = two hi lo (ℕ_discrete (hi * 256 + lo) 0)
    same (x ∷ hi ∷ lo ∷ more) = p.three x hi lo more ∙ two hi lo (ℕ_discrete (hi * 256 + lo) 0) ∙ sym (q.three x hi lo more)

pub PutExactly : Determines3 Claims.PutExactly
PutExactly f g p q width le old = go (ℕ_discrete width 0) (ℕ_discrete width 1) (ℕ_discrete width 2)
  where
    one : (w : ℕ → ℕ → List ℕ → List ℕ) → Claims.PutExactly w → w 1 le old ≡ laid (le % 256 ∷ []) old
    one w r =
        let is : le ≡ le / 256 * 256 + le % 256 = omega arith in
        ap (λ (n : ℕ). w 1 n old) is ∙ r.one (le / 256) (le % 256) old (omega arith)

    whole : le ≡ le / 65536 * 65536 + (le % 65536 / 256 * 256 + le % 256)
    whole = omega arith

    two : (w : ℕ → ℕ → List ℕ → List ℕ) → Claims.PutExactly w → w 2 le old ≡ laid (le % 65536 / 256 ∷ le % 256 ∷ []) old
    two w r = ap (λ (n : ℕ). w 2 n old) whole ∙ r.two (le / 65536) (le % 65536 / 256) (le % 256) old (omega arith) (omega arith)

    more : (w : ℕ → ℕ → List ℕ → List ℕ) → Claims.PutExactly w → 3 ≤ width → w width le old ≡ laid (0 ∷ le % 65536 / 256 ∷ le % 256 ∷ []) old
    more w r some =
        ap (λ (n : ℕ). w width n old) whole ∙ r.more width (le / 65536) (le % 65536 / 256) (le % 256) old some (omega arith) (omega arith)

    go : Dec (width ≡ 0) → Dec (width ≡ 1) → Dec (width ≡ 2) → f width le old ≡ g width le old
    go (yes z) d e = rw z (p.none le old ∙ sym (q.none le old))
    go (no n) (yes o) e = rw o (one f p ∙ sym (one g q))
    go (no n) (no m) (yes t) = rw t (two f p ∙ sym (two g q))
    go (no n) (no m) (no k) = more f p (omega arith) ∙ sym (more g q (omega arith))

pub FitsExactly : Determines2 Claims.FitsExactly
FitsExactly f g p q width le = go (ℕ_discrete width 0) (ℕ_discrete width 1)
  where
    equal : {P : Type 0} (a b : Bool) → ((a ≡ true) ↔ P) → ((b ≡ true) ↔ P) → a ≡ b
    equal true b i j = sym (j.1 (i.0 refl))
    equal false true i j = i.1 (j.0 refl)
    equal false false i j = refl

    go : Dec (width ≡ 0) → Dec (width ≡ 1) → f width le ≡ g width le
    go (yes z) d = rw z (equal (f 0 le) (g 0 le) (p.none le) (q.none le))
    go (no n) (yes o) = rw o (equal (f 1 le) (g 1 le) (p.one le) (q.one le))
    go (no n) (no m) = equal (f width le) (g width le) (p.more width le (omega arith)) (q.more width le (omega arith))
