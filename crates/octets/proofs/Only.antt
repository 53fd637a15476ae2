-- Only the definitions meet the claims: two programs that meet one agree.
use Prim.Native.Nat.{ℕ, zero, suc, ◌+◌, ◌*◌, ◌/◌, ◌%◌, ◌<◌}
use mathlib.Core.Path.{◌≡◌, refl, sym, ap₂, ◌∙◌}
use mathlib.Core.Bool.{Bool, true, false}
use native.Mathlib.Omega.{arith}
use native.Mathlib.Decide.{dec_lt}
use lib.ListN.{length}
use lib.Seq.{ext_get_or}
use Rattle.outcome.specs.Notation.{Determines, Determines2, Determines3}
use Rattle.octets.specs.Bytes.{byte}
use Rattle.octets.specs.Terms.{DeterminesOn}
use Rattle.octets.specs.Claims

pub LaidExactly : Determines2 Claims.LaidExactly
LaidExactly f g p q s old =
    ext_get_or 0 (f s old) (g s old) (p.as_long s old ∙ sym (q.as_long s old)) (λ i h. go i (dec_lt i (length s)) (rw (p.as_long s old) at h))
  where
    go : (i : ℕ) → Dec (i < length s) → i < length old → byte (f s old) i ≡ byte (g s old) i
    go i (yes h) b = p.front s old i h b ∙ sym (q.front s old i h b)
    go i (no n) b = p.rest s old i (omega arith) ∙ sym (q.rest s old i (omega arith))

pub TwoBytesExactly : Determines Claims.TwoBytesExactly
TwoBytesExactly f g p q n = ext_get_or 0 (f n) (g n) (p.two n ∙ sym (q.two n)) (λ i h. go i (rw (p.two n) at h))
  where
    go : (i : ℕ) → i < 2 → byte (f n) i ≡ byte (g n) i
    go zero h = p.high n ∙ sym (q.high n)
    go (suc zero) h = p.low n ∙ sym (q.low n)
    go (suc (suc i)) h = absurd (omega arith)

pub FourBytesExactly : Determines Claims.FourBytesExactly
FourBytesExactly f g p q n = ext_get_or 0 (f n) (g n) (p.four n ∙ sym (q.four n)) (λ i h. go i (rw (p.four n) at h))
  where
    go : (i : ℕ) → i < 4 → byte (f n) i ≡ byte (g n) i
    go zero h = p.first n ∙ sym (q.first n)
    go (suc zero) h = p.second n ∙ sym (q.second n)
    go (suc (suc zero)) h = p.third n ∙ sym (q.third n)
    go (suc (suc (suc zero))) h = p.fourth n ∙ sym (q.fourth n)
    go (suc (suc (suc (suc i)))) h = absurd (omega arith)

-- of two bytes
pub PairBack : (f g : ℕ → ℕ → ℕ) → Claims.PairBack f → Claims.PairBack g → (hi lo : ℕ) → hi < 256 → lo < 256 → f hi lo ≡ g hi lo
PairBack f g p q hi lo h l =
    let n = hi * 256 + lo in
    let high : n / 256 ≡ hi = omega arith in
    let low : n % 256 ≡ lo = omega arith in
    ap₂ f (sym high) (sym low) ∙ p n (omega arith) ∙ sym (q n (omega arith)) ∙ ap₂ g high low

pub WideSame : DeterminesOn (λ b. b < 256) Claims.WideSame
WideSame f g p q b h = p b h ∙ sym (q b h)

pub ZeroExactly : Determines Claims.ZeroExactly
ZeroExactly f g p q s = go (f s) (g s) refl refl
  where
    go : (a b : Bool) → f s ≡ a → g s ≡ b → f s ≡ g s
    go true b e d = e ∙ sym ((q s).1 ((p s).0 e))
    go false true e d = (p s).1 ((q s).0 d) ∙ sym d
    go false false e d = e ∙ sym d

pub PartExactly : Determines3 Claims.PartExactly
PartExactly f g p q s start end = go (dec_lt end start) (dec_lt (length s) end)
  where
    go : Dec (end < start) → Dec (length s < end) → f s start end ≡ g s start end
    go (yes b) n = p.backwards s start end b ∙ sym (q.backwards s start end b)
    go (no b) (yes n) = p.past s start end n ∙ sym (q.past s start end n)
    go (no b) (no n) =
        let here = p.as_long s start end (omega arith) (omega arith) in
        ext_get_or 0 (f s start end) (g s start end) (here ∙ sym (q.as_long s start end (omega arith) (omega arith)))
        (λ i h. p.each s start end i (omega arith) (omega arith) ∙ sym (q.each s start end i (omega arith) (omega arith)))
