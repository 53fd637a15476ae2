-- The claim that is false of each wrong program, at an input where it bites.
use Prim.Native.Nat.{ℕ, ◌≤◌}
use mathlib.Core.Path.{refl, ap}
use mathlib.Core.List.{List, [], ◌∷◌}
use native.Mathlib.Omega.{arith}
use Rattle.octets.specs.Bytes.{byte}
use Rattle.apdu_le.specs.Field.{said_of}
use Rattle.apdu_le.specs.Claims
use Rattle.apdu_le.specs.Wrong

pub zero_is_zero : Claims.ReadExactly Wrong.zero_is_zero → ⊥
zero_is_zero exact = omega (arith, exact.one_zero)

pub two_as_one : Claims.ReadExactly Wrong.two_as_one → ⊥
two_as_one exact = omega (arith, exact.two_zero)

pub one_alone : Claims.ReadExactly Wrong.one_alone → ⊥
one_alone exact = omega (arith, exact.two_zero)

pub most_cut_short : Claims.BothWays said_of Wrong.most_cut_short → ⊥
most_cut_short ways = omega (arith, ways.back_one 256 (omega arith) (omega arith))

pub one_as_two : Claims.FitsExactly Wrong.one_as_two → ⊥
one_as_two exact = let over : 257 ≤ 256 = ((exact.one 257).0 refl).1 in omega arith

pub zero_fits : Claims.FitsExactly Wrong.zero_fits → ⊥
zero_fits exact = let some : 1 ≤ 0 = ((exact.one 0).0 refl).0 in omega arith

pub low_half_first : Claims.PutExactly Wrong.low_half_first → ⊥
low_half_first exact = omega (arith, ap (λ (s : List ℕ). byte s 0) (exact.two 0 0 1 (0 ∷ 0 ∷ []) (omega arith) (omega arith)))

pub without_the00 : Claims.PutExactly Wrong.without_the00 → ⊥
without_the00 exact = omega (arith, ap (λ (s : List ℕ). byte s 1) (exact.more 3 0 0 1 (0 ∷ 0 ∷ 0 ∷ []) (omega arith) (omega arith) (omega arith)))
