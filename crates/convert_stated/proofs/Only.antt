-- Only the definitions meet the claims: two programs that meet one agree, on every frame of bytes.
use Prim.Native.Nat.{ℕ}
use mathlib.Core.Path.{◌≡◌, refl, ap₂, sym, ◌∙◌}
use mathlib.Core.Bool.{Bool, true, false}
use mathlib.Core.List.{List}
use Rattle.outcome.specs.Notation.{Determines}
use Rattle.outcome.specs.Outcome.{Outcome}
use Rattle.octets.specs.Bytes.{AreBytes}
use Rattle.convert_stated.specs.Words.{Ok, Err, Refused, Status}
use Rattle.convert_stated.specs.Claims
use Rattle.convert_stated.proofs.OldForms.{old_form}
use Rattle.convert_stated.proofs.Ways.{Way, short, wrote, status, way}

-- on numbers whatever
pub OldExactly : Determines Claims.OldExactly
OldExactly f g p q frame = go (f frame) (g frame) refl refl
  where
    go : (a b : Bool) → f frame ≡ a → g frame ≡ b → f frame ≡ g frame
    go true b e d = e ∙ sym ((q.by_length frame).1 ((p.by_length frame).0 e))
    go false true e d = (p.by_length frame).1 ((q.by_length frame).0 d) ∙ sym d
    go false false e d = e ∙ sym d

pub ConvertExactly : (f g : List ℕ → List ℕ → Outcome ℕ × List ℕ) → Claims.ConvertExactly f → Claims.ConvertExactly g → (frame before : List ℕ) → AreBytes frame → f frame before ≡ g frame before
ConvertExactly f g p q frame before bytes = go (way frame before bytes)
  where
    both : (f frame before).0 ≡ (g frame before).0 → (f frame before).1 ≡ (g frame before).1 → f frame before ≡ g frame before
    both a b = ap₂ (λ (x : Outcome ℕ) (y : List ℕ). (x, y)) a b

    go : {o : Outcome ℕ × List ℕ} → Way frame before o → f frame before ≡ g frame before
    go (short r b h) =
        let x = (p.r2 frame before bytes).1 (r, b, h) in
        let y = (q.r2 frame before bytes).1 (r, b, h) in
        both (x ∙ sym y) (p.refused frame before 2 x ∙ sym (q.refused frame before 2 y))
    go (wrote r b h) = p.converts frame before r bytes b h ∙ sym (q.converts frame before r bytes b h)
    go (status w e n) =
        let x = (p.status frame before w bytes).1 (e, λ h d le o. n (old_form o)) in
        let y = (q.status frame before w bytes).1 (e, λ h d le o. n (old_form o)) in
        both (x ∙ sym y) (p.left frame before w x ∙ sym (q.left frame before w y))

pub SaidExactly : Determines Claims.SaidExactly
SaidExactly f g p q (Ok n) = p.frame n ∙ sym (q.frame n)
SaidExactly f g p q (Err (Refused r)) = p.refused r ∙ sym (q.refused r)
SaidExactly f g p q (Err (Status s)) = p.status s ∙ sym (q.status s)
