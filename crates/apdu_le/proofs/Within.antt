-- What a field says that lies within a string, from a place on over one, two or three bytes.
use Prim.Native.Nat.{ℕ, ◌+◌, ◌-◌, ◌*◌, ◌<◌, ◌≤◌}
use mathlib.Core.Path.{◌≡◌, refl, ap, ap₂, sym, ◌∙◌}
use mathlib.Core.List.{List, [], ◌∷◌}
use native.Mathlib.Omega.{arith}
use lib.ListN.{length, take, drop}
use lib.Seq.{get_or-take, get_or-drop}
use Rattle.octets.specs.Bytes.{byte, pair_at}
use Rattle.octets.proofs.Laws.{length_part}
use Rattle.apdu_stated.specs.Table.{le_read}
use Rattle.apdu_le.specs.Field.{said_of}
use Rattle.apdu_le.proofs.Theorems

-- a field by its number of bytes
said_one : (field : List ℕ) → length field ≡ 1 → said_of field ≡ le_read 1 (byte field 0)
said_one [] e = absurd (omega arith)
said_one (b ∷ []) e = refl
said_one (b ∷ c ∷ more) e = absurd (omega arith)

said_two : (field : List ℕ) → length field ≡ 2 → said_of field ≡ le_read 2 (pair_at field 0)
said_two [] e = absurd (omega arith)
said_two (hi ∷ []) e = absurd (omega arith)
said_two (hi ∷ lo ∷ []) e = refl
said_two (hi ∷ lo ∷ x ∷ more) e = absurd (omega arith)

said_three : (field : List ℕ) → length field ≡ 3 → said_of field ≡ le_read 3 (pair_at field 1)
said_three [] e = absurd (omega arith)
said_three (x ∷ []) e = absurd (omega arith)
said_three (x ∷ hi ∷ []) e = absurd (omega arith)
said_three (x ∷ hi ∷ lo ∷ more) e = (Theorems.ReadExactly).three x hi lo more

module _ (s : List ℕ) (at end le : ℕ) (within : end ≤ length s) (is_le : le ≡ said_of (take (end - at) (drop at s))) where
  field : List ℕ
  field = take (end - at) (drop at s)

  field_byte : (i place : ℕ) → place ≡ at + i → place < end → byte field i ≡ byte s place
  unfolding field
  field_byte i place is h = get_or-take (end - at) (drop at s) i 0 (omega arith) ∙ get_or-drop at s i 0 ∙ ap (byte s) (sym is)

  field_pair : (i place : ℕ) → place ≡ at + i → place + 1 < end → pair_at field i ≡ pair_at s place
  field_pair i place is h =
      ap₂ (λ (hi lo : ℕ). hi * 256 + lo) (field_byte i place is (omega arith)) (field_byte (i + 1) (place + 1) (omega arith) h)

  field_long : (n : ℕ) → end ≡ at + n → length field ≡ n
  unfolding field
  field_long n e =
      let width : end - at ≡ n = omega arith in
      ap (λ (k : ℕ). length (take k (drop at s))) width ∙ length_part at n s (omega arith)

  pub one_at : end ≡ at + 1 → le ≡ le_read 1 (byte s at)
  unfolding field
  one_at e = is_le ∙ said_one field (field_long 1 e) ∙ ap (le_read 1) (field_byte 0 at (omega arith) (omega arith))

  pub two_at : end ≡ at + 2 → le ≡ le_read 2 (pair_at s at)
  unfolding field
  two_at e = is_le ∙ said_two field (field_long 2 e) ∙ ap (le_read 2) (field_pair 0 at (omega arith) (omega arith))

  pub three_at : end ≡ at + 3 → le ≡ le_read 3 (pair_at s (at + 1))
  unfolding field
  three_at e = is_le ∙ said_three field (field_long 3 e) ∙ ap (le_read 3) (field_pair 1 (at + 1) refl (omega arith))
