-- What is laid at a buffer's front stands there, field by field; and nothing else does.
use Prim.Native.Nat.{ℕ, ◌+◌, ◌-◌, ◌<◌, ◌≤◌}
use mathlib.Core.Path.{◌≡◌, refl, sym, ap, subst, ◌∙◌}
use mathlib.Core.List.{List, [], ◌∷◌, ◌++◌, append_assoc, append-nil}
use native.Mathlib.Omega.{arith}
use native.Mathlib.Decide.{dec_lt}
use lib.ListN.{length, length-append, get_or-append}
use lib.Seq.{get_or-append-add, ext_get_or}
use Rattle.octets.specs.Bytes.{byte, laid}
use Rattle.octets.proofs.Laws.{laid_exactly}
use Rattle.signing_fields.specs.Terms.{joined, FieldsFrom, Stand}

-- as in the definition, but that the last field has an empty rest behind it
abbrev run : List (List ℕ) → List ℕ
run [] = []
run (f ∷ fields) = f ++ run fields

run_joined : (fields : List (List ℕ)) → run fields ≡ joined fields
run_joined [] = refl
run_joined (f ∷ []) = append-nil f
run_joined (f ∷ g ∷ fields) = ap (λ (l : List ℕ). f ++ l) (run_joined (g ∷ fields))

stands_from : (before : List ℕ) (fields : List (List ℕ)) (old : List ℕ) → FieldsFrom (length before) fields old (laid (before ++ run fields) old)
stands_from before [] old = λ i h. laid_exactly.rest (before ++ []) old i (subst (λ (s : List ℕ). length s ≤ i) (sym (append-nil before)) h)
stands_from before (f ∷ fields) old =
    let long : length (before ++ (f ++ run fields)) ≡ length before + (length f + length (run fields)) = length-append before _ ∙ ap (λ (n : ℕ). length before + n) (length-append f _) in (
      λ i within room.
          laid_exactly.front (before ++ (f ++ run fields)) old (length before + i) (omega (arith, long, within)) room
          ∙ get_or-append-add before (f ++ run fields) i 0
          ∙ get_or-append f (run fields) 0 i within,
      subst (λ (n : ℕ). FieldsFrom n fields old (laid (before ++ (f ++ run fields)) old)) (length-append before f)
          (subst (λ (s : List ℕ). FieldsFrom (length (before ++ f)) fields old (laid s old)) (append_assoc before f (run fields)) (stands_from (before ++ f) fields old)),
    )

pub stands : (fields : List (List ℕ)) (old : List ℕ) → Stand fields old (laid (joined fields) old)
stands fields old =
    record {
      as_long = laid_exactly.as_long (joined fields) old;
      each = subst (λ (l : List ℕ). FieldsFrom 0 fields old (laid l old)) (run_joined fields) (stands_from [] fields old);
    }

-- ---- two buffers in which they stand are one
same_from : (at : ℕ) (fields : List (List ℕ)) (old x y : List ℕ) → FieldsFrom at fields old x → FieldsFrom at fields old y
    → (i : ℕ) → at ≤ i → i < length old → byte x i ≡ byte y i
same_from at [] old x y p q i from room = p i from ∙ sym (q i from)
same_from at (f ∷ fields) old x y p q i from room = go (dec_lt i (at + length f)) (same_from (at + length f) fields old x y p.1 q.1 i)
  where
    go : Dec (i < at + length f) → (at + length f ≤ i → i < length old → byte x i ≡ byte y i) → byte x i ≡ byte y i
    go (yes h) behind =
        let e : at + (i - at) ≡ i = omega arith in
        ap (byte x) (sym e) ∙ p.0 (i - at) (omega arith) (omega arith) ∙ sym (q.0 (i - at) (omega arith) (omega arith)) ∙ ap (byte y) e
    go (no h) behind = behind (omega arith) room

pub same_standing : (fields : List (List ℕ)) (old x y : List ℕ) → Stand fields old x → Stand fields old y → x ≡ y
same_standing fields old x y p q =
    ext_get_or 0 x y (p.as_long ∙ sym q.as_long) (λ i h. same_from 0 fields old x y p.each q.each i (omega arith) (omega (arith, h, p.as_long)))
