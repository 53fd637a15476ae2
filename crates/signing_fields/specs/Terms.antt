-- Fields in a buffer as somebody finds them who looks at its bytes.
use Rattle.std.specs.Prelude.{ℕ, ◌+◌, ◌<◌, ◌≤◌, ◌≡◌, List, [], ◌∷◌, ◌++◌, length}
use Rattle.std.specs.Borrow.{Bor}
use Rattle.octets.specs.Bytes.{byte}

-- the fields of a slice of slices
abbrev pub contents : List (Bor (List ℕ)) → List (List ℕ)
contents [] = []
contents (f ∷ fields) = f.now ∷ contents fields

-- fields one behind the other
abbrev pub joined : List (List ℕ) → List ℕ
joined [] = []
joined (f ∷ []) = f
joined (f ∷ g ∷ fields) = f ++ joined (g ∷ fields)

-- `FieldsFrom at fields old after`: from place `at` on the fields stand one behind the other, byte by byte as far as the buffer goes; behind
-- them it is as it was
abbrev pub FieldsFrom : (at : ℕ) → List (List ℕ) → (old after : List ℕ) → Type 0
FieldsFrom at [] old after = (i : ℕ) → at ≤ i → byte after i ≡ byte old i
FieldsFrom at (f ∷ fields) old after =
    ((i : ℕ) → i < length f → at + i < length old → byte after (at + i) ≡ byte f i) × FieldsFrom (at + length f) fields old after

-- the buffer stays as long as it was, and the fields stand at its front
pub record Stand (fields : List (List ℕ)) (old after : List ℕ) : Type 0 where
  pub as_long : length after ≡ length old
  pub each : FieldsFrom 0 fields old after
