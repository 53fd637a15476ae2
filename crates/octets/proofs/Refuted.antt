-- The claim that is false of each wrong program, at an input where it bites.
use Prim.Native.Nat.{ℕ}
use mathlib.Core.Path.{◌≡◌, refl, ap}
use mathlib.Core.List.{List, [], ◌∷◌}
use native.Mathlib.Omega.{arith}
use Rattle.octets.specs.Bytes.{byte, part_of}
use Rattle.octets.specs.Claims
use Rattle.octets.specs.Wrong

-- two lists that begin differently
first : (s t : List ℕ) → s ≡ t → byte s 0 ≡ byte t 0
first s t e = ap (λ (l : List ℕ). byte l 0) e

pub clears_the_rest : Claims.LaidAtFront Wrong.clears_the_rest → ⊥
clears_the_rest front = omega (arith, ap (λ (l : List ℕ). byte l 1) (front (1 ∷ []) (2 ∷ 3 ∷ []) (omega arith)))

pub writes_nothing : Claims.LaidExactly Wrong.writes_nothing → ⊥
writes_nothing p = omega (arith, p.front (1 ∷ []) (2 ∷ []) 0 (omega arith) (omega arith))

pub repeats_the_first : Claims.LaidExactly Wrong.repeats_the_first → ⊥
repeats_the_first p = omega (arith, p.front (1 ∷ 2 ∷ []) (3 ∷ 4 ∷ []) 1 (omega arith) (omega arith))

pub spares_the_last : Claims.LaidExactly Wrong.spares_the_last → ⊥
spares_the_last p = omega (arith, p.front (1 ∷ []) (2 ∷ []) 0 (omega arith) (omega arith))

pub low_byte_first : Claims.TwoBytesExactly Wrong.low_byte_first → ⊥
low_byte_first p = omega (arith, p.high 1)

pub pair_low_first : Claims.PairBack Wrong.pair_low_first → ⊥
pair_low_first p = omega (arith, p 1 (omega arith))

pub little_endian : Claims.FourBytesExactly Wrong.little_endian → ⊥
little_endian p = omega (arith, p.first 0x01020304)

pub second_byte_lost : Claims.FourBytesExactly Wrong.second_byte_lost → ⊥
second_byte_lost p = omega (arith, p.second 0x01020304)

pub drops_the_top_bit : Claims.WideSame Wrong.drops_the_top_bit → ⊥
drops_the_top_bit p = omega (arith, p 128 (omega arith))

pub first_byte_only : Claims.ZeroExactly Wrong.first_byte_only → ⊥
first_byte_only p = omega (arith, (p (0 ∷ 1 ∷ [])).0 refl 1)

pub empty_to_the_end : Claims.PartExactly Wrong.empty_to_the_end → ⊥
empty_to_the_end p = omega (arith, p.as_long (1 ∷ []) 0 1 (omega arith) (omega arith))

pub one_too_many : Claims.WideSame Wrong.one_too_many → ⊥
one_too_many p = omega (arith, p 0 (omega arith))

pub high_byte_lost : Claims.PairBack Wrong.high_byte_lost → ⊥
high_byte_lost p = omega (arith, p 256 (omega arith))

pub high_byte_zero : Claims.TwoBytesExactly Wrong.high_byte_zero → ⊥
high_byte_zero p = omega (arith, p.high 256)

pub always_zero : Claims.ZeroExactly Wrong.always_zero → ⊥
always_zero p = omega (arith, (p (1 ∷ [])).0 refl 0)

pub one_byte_late : Claims.PartExactly Wrong.one_byte_late → ⊥
unfolding part_of
one_byte_late p = omega (arith, p.as_long (1 ∷ []) 0 1 (omega arith) (omega arith))
