-- The definitions meet the claims of specs/Claims.antt, each under its claim's name.
use Prim.Native.Nat.{ℕ, zero, suc, ◌+◌, ◌*◌, ◌≤◌, ◌<◌}
use mathlib.Core.Path.{◌≡◌, refl, sym}
use mathlib.Core.Bool.{true}
use mathlib.Core.List.{List, [], ◌∷◌}
use native.Mathlib.Omega.{arith}
use native.Mathlib.Decide.{dec_lt}
use native.Mathlib.Nat.{le_of_suc-le-suc, not-suc-le-zero}
use borrow.Author.Tests.{eqb-true, eq-eqb}
use lib.Dec.{eqb}
use lib.ListN.{length}
use Rattle.outcome.proofs.Laws.{both_are}
use Rattle.octets.specs.Bytes.{byte, laid, bytes2, bytes4, all_zero, part_of}
use Rattle.octets.specs.Claims
use Rattle.octets.proofs.Laid.{laid_fits, length_laid}
use Rattle.octets.proofs.Between.{part_length, part_byte, part_backwards, part_past}
use Rattle.octets.proofs.Tests.{both}

pub LaidAtFront : Claims.LaidAtFront laid
LaidAtFront = laid_fits

front : (s old : List ℕ) (i : ℕ) → i < length s → i < length old → byte (laid s old) i ≡ byte s i
front [] old i h g = absurd (not-suc-le-zero h)
front (x ∷ s) [] i h g = absurd (not-suc-le-zero g)
front (x ∷ s) (y ∷ old) zero h g = refl
front (x ∷ s) (y ∷ old) (suc i) h g = front s old i (le_of_suc-le-suc h) (le_of_suc-le-suc g)

rest : (s old : List ℕ) (i : ℕ) → length s ≤ i → byte (laid s old) i ≡ byte old i
rest [] old i h = refl
rest (x ∷ s) [] i h = refl
rest (x ∷ s) (y ∷ old) zero h = absurd (not-suc-le-zero h)
rest (x ∷ s) (y ∷ old) (suc i) h = rest s old i (le_of_suc-le-suc h)

pub LaidExactly : Claims.LaidExactly laid
LaidExactly = record { as_long = length_laid; front = front; rest = rest }

pub TwoBytesExactly : Claims.TwoBytesExactly bytes2
TwoBytesExactly = record { two = λ n. refl; high = λ n. refl; low = λ n. refl }

pub FourBytesExactly : Claims.FourBytesExactly bytes4
FourBytesExactly = record { four = λ n. refl; first = λ n. refl; second = λ n. refl; third = λ n. refl; fourth = λ n. refl }

pub PairBack : Claims.PairBack (λ hi lo. hi * 256 + lo)
PairBack n h = omega arith

pub WideSame : Claims.WideSame (λ b. b)
WideSame b h = refl

zeros : (s : List ℕ) → all_zero s ≡ true → (i : ℕ) → byte s i ≡ 0
zeros [] e i = refl
zeros (x ∷ s) e zero = eqb-true x 0 (both (eqb x 0) (all_zero s) e).0
zeros (x ∷ s) e (suc i) = zeros s (both (eqb x 0) (all_zero s) e).1 i

all_zeros : (s : List ℕ) → ((i : ℕ) → byte s i ≡ 0) → all_zero s ≡ true
all_zeros [] h = refl
all_zeros (x ∷ s) h = rw (eq-eqb x 0 (h 0)) (all_zeros s (λ i. h (suc i)))

pub ZeroExactly : Claims.ZeroExactly all_zero
ZeroExactly s = (zeros s, all_zeros s)

past : (s : List ℕ) (start end : ℕ) → length s < end → part_of s start end ≡ []
past s start end h = go (dec_lt end start)
  where
    go : Dec (end < start) → part_of s start end ≡ []
    go (yes b) = sym (part_backwards s start end b)
    go (no n) = sym (part_past s start end (omega arith) h)

pub PartExactly : Claims.PartExactly part_of
PartExactly =
    record {
      as_long = part_length;
      each = part_byte;
      backwards = λ s start end h. sym (part_backwards s start end h);
      past = past;
    }

pub ResultsDetermined : Claims.ResultsDetermined
ResultsDetermined =
    record {
      wide = λ n a b p q. both_are a b p.0 q.0;
      pair = λ hi lo a b. both_are a b;
      put = λ s old a b. both_are a b;
      put_byte = λ n old a b. both_are a b;
      put_pair = λ n old a b. both_are a b;
      put_word = λ n old a b. both_are a b;
      all_zero = λ s a b. both_are a b;
      part = λ s start end a b. both_are a b;
    }
