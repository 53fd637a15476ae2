-- What a lent part is, in the words of `laid`: a tail that is handed on, and a tail that comes back written.
use Prim.Native.Nat.{ℕ, ◌-◌, ◌≤◌, ◌<◌}
use mathlib.Core.Path.{◌≡◌, refl, ap, sym, ◌∙◌}
use mathlib.Core.List.{List, [], ◌∷◌, ◌++◌, append-nil}
use native.Mathlib.Omega.{arith}
use native.Mathlib.Nat.{le_of_suc-le-suc, not-suc-le-zero}
use lib.ListN.{length, drop, take, length-drop, drop_of_length-le}
use lib.Seq.{take_all}
use Rattle.octets.specs.Bytes.{laid}
use Rattle.octets.proofs.Laid.{length_laid, laid_append, laid_nil}

-- `&s[a..]`, as the callee has it
pub tail_is : (s : List ℕ) (a : ℕ) → take (length s - a) (drop a s) ≡ drop a s
tail_is s a = take_all (length s - a) (drop a s) (omega (arith, length-drop a s))

past_tail : (s : List ℕ) (a : ℕ) → drop (length s - a) (drop a s) ≡ []
past_tail s a = drop_of_length-le (drop a s) {i = length s - a} (omega (arith, length-drop a s))

-- `put(out, f); g(&mut out[a..])`, where f fills the first a bytes and g lays bs over the tail: f and bs are laid over out
pub laid_then : (f bs d xs ys : List ℕ) (a : ℕ) → length f ≡ a → xs ≡ laid f d → ys ≡ laid bs (take (length xs - a) (drop a xs))
    → take a xs ++ (ys ++ drop (length xs - a) (drop a xs)) ≡ laid (f ++ bs) d
laid_then f bs d xs ys a long is_xs is_ys =
    rw (is_ys, tail_is xs a, past_tail xs a, append-nil, is_xs, ← long) (sym (laid_append f bs d))

over : (f bs d : List ℕ) → length d ≤ length f → laid f d ≡ laid (f ++ bs) d
over [] bs [] h = sym (laid_nil bs)
over [] bs (y ∷ d) h = absurd (not-suc-le-zero h)
over (x ∷ f) bs [] h = refl
over (x ∷ f) bs (y ∷ d) h = ap (λ (l : List ℕ). x ∷ l) (over f bs d (le_of_suc-le-suc h))

-- where f already passes the buffer's end, nothing that follows is written
pub laid_over : (f bs d xs : List ℕ) → xs ≡ laid f d → length xs < length f → xs ≡ laid (f ++ bs) d
laid_over f bs d xs e h =
    let same : length xs ≡ length d = ap length e ∙ length_laid f d in
    e ∙ over f bs d (omega arith)
