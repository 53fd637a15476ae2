-- The ways through `put_all`, where a field is left: with the fields behind it in the rest of the buffer, and with no rest.
use Prim.Native.Nat.{ℕ, ◌-◌, ◌≤◌, ◌<◌}
use mathlib.Core.Path.{◌≡◌, refl, sym, ap, ◌∙◌}
use mathlib.Core.List.{List, [], ◌∷◌, ◌++◌, append-nil}
use native.Mathlib.Omega.{arith}
use lib.ListN.{length, take, drop}
use lib.Seq.{take_all}
use Rattle.std.specs.Borrow.{Bor}
use Rattle.std.specs.List.{slice_index_or}
use Rattle.octets.specs.Bytes.{laid}
use Rattle.octets.proofs.Laws.{laid_then, laid_over}
use Rattle.signing_fields.specs.Terms.{contents, joined}

-- the first field, and the slice of the others, as the code has them
abbrev first : List (Bor (List ℕ)) → List ℕ
first fields = (slice_index_or fields 0 (record { ref_ptr = (0, 0); now = [] })).now

abbrev rest : List (Bor (List ℕ)) → List (Bor (List ℕ))
rest fields = take (length fields - 1) (drop 1 fields)

joined_more : (f : List ℕ) (fields : List (List ℕ)) → joined (f ∷ fields) ≡ f ++ joined fields
joined_more f [] = sym (append-nil f)
joined_more f (g ∷ fields) = refl

split : (fields : List (Bor (List ℕ))) → 1 ≤ length fields
    → joined (contents fields) ≡ first fields ++ joined (contents (rest fields))
split [] h = absurd (omega arith)
split (f ∷ fields) h =
    joined_more f.now (contents fields)
    ∙ ap (λ (l : List (Bor (List ℕ))). f.now ++ joined (contents l)) (sym (take_all (length (f ∷ fields) - 1) fields (omega arith)))

module _ (fields : List (Bor (List ℕ))) (old xs : List ℕ) (some : 1 ≤ length fields)
    (is_xs : xs ≡ laid (first fields) old) where
  pub more_put : (ys : List ℕ)
      → ys ≡ laid (joined (contents (rest fields))) (take (length xs - length (first fields)) (drop (length (first fields)) xs))
      → take (length (first fields)) xs ++ (ys ++ drop (length xs - length (first fields)) (drop (length (first fields)) xs))
      ≡ laid (joined (contents fields)) old
  more_put ys is_ys =
      let f = first fields in
      laid_then f (joined (contents (rest fields))) old xs ys (length f) refl is_xs is_ys
      ∙ ap (λ (s : List ℕ). laid s old) (sym (split fields some))

  pub full_put : length xs < length (first fields) → xs ≡ laid (joined (contents fields)) old
  full_put h =
      laid_over (first fields) (joined (contents (rest fields))) old xs is_xs h
      ∙ ap (λ (s : List ℕ). laid s old) (sym (split fields some))
