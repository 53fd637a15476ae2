-- Each wrong writer fails its claim at one byte a field.
use mathlib.Core.Path.{◌≡◌}
use mathlib.Core.List.{List, [], ◌∷◌}
use Rattle.std.specs.Borrow.{Bor}
use Prim.Native.Nat.{ℕ}
use native.Mathlib.Omega.{arith}
use Rattle.signing_fields.specs.Claims
use Rattle.signing_fields.specs.Wrong

one : ℕ → Bor (List ℕ)
one b = record { ref_ptr = (0, 0); now = b ∷ [] }

pub turns_all : Claims.WritesAll Wrong.turns_all → ⊥
unfolding one
turns_all claim = let e : ◌≡◌ {A = ℕ} 1 2 = (claim (one 1 ∷ one 2 ∷ []) (0 ∷ 0 ∷ [])).each.1.0 0 (omega arith) (omega arith) in omega arith

pub leaves_all : Claims.WritesAll Wrong.leaves_all → ⊥
unfolding one
leaves_all claim = let e : ◌≡◌ {A = ℕ} 0 2 = (claim (one 1 ∷ one 2 ∷ []) (0 ∷ 0 ∷ [])).each.1.0 0 (omega arith) (omega arith) in omega arith

pub turns_two : Claims.WritesTwo Wrong.turns_two → ⊥
turns_two claim = let e : ◌≡◌ {A = ℕ} 1 2 = (claim (1 ∷ []) (2 ∷ []) (0 ∷ 0 ∷ [])).each.1.0 0 (omega arith) (omega arith) in omega arith

pub leaves_two : Claims.WritesTwo Wrong.leaves_two → ⊥
leaves_two claim = let e : ◌≡◌ {A = ℕ} 0 2 = (claim (1 ∷ []) (2 ∷ []) (0 ∷ 0 ∷ [])).each.1.0 0 (omega arith) (omega arith) in omega arith

pub turns_three : Claims.WritesThree Wrong.turns_three → ⊥
turns_three claim = let e : ◌≡◌ {A = ℕ} 2 3 = (claim (1 ∷ []) (2 ∷ []) (3 ∷ []) (0 ∷ 0 ∷ 0 ∷ [])).each.1.1.0 0 (omega arith) (omega arith) in omega arith

pub leaves_three : Claims.WritesThree Wrong.leaves_three → ⊥
leaves_three claim = let e : ◌≡◌ {A = ℕ} 0 3 = (claim (1 ∷ []) (2 ∷ []) (3 ∷ []) (0 ∷ 0 ∷ 0 ∷ [])).each.1.1.0 0 (omega arith) (omega arith) in omega arith

pub turns_four : Claims.WritesFour Wrong.turns_four → ⊥
turns_four claim = let e : ◌≡◌ {A = ℕ} 3 4 = (claim (1 ∷ []) (2 ∷ []) (3 ∷ []) (4 ∷ []) (0 ∷ 0 ∷ 0 ∷ 0 ∷ [])).each.1.1.1.0 0 (omega arith) (omega arith) in omega arith

pub leaves_four : Claims.WritesFour Wrong.leaves_four → ⊥
leaves_four claim = let e : ◌≡◌ {A = ℕ} 0 4 = (claim (1 ∷ []) (2 ∷ []) (3 ∷ []) (4 ∷ []) (0 ∷ 0 ∷ 0 ∷ 0 ∷ [])).each.1.1.1.0 0 (omega arith) (omega arith) in omega arith

pub turns_five : Claims.WritesFive Wrong.turns_five → ⊥
turns_five claim = let e : ◌≡◌ {A = ℕ} 4 5 = (claim (1 ∷ []) (2 ∷ []) (3 ∷ []) (4 ∷ []) (5 ∷ []) (0 ∷ 0 ∷ 0 ∷ 0 ∷ 0 ∷ [])).each.1.1.1.1.0 0 (omega arith) (omega arith) in omega arith

pub leaves_five : Claims.WritesFive Wrong.leaves_five → ⊥
leaves_five claim = let e : ◌≡◌ {A = ℕ} 0 5 = (claim (1 ∷ []) (2 ∷ []) (3 ∷ []) (4 ∷ []) (5 ∷ []) (0 ∷ 0 ∷ 0 ∷ 0 ∷ 0 ∷ [])).each.1.1.1.1.0 0 (omega arith) (omega arith) in omega arith
