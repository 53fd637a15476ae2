-- The orders and bodies, field by field, as the claims spell them out.
use Prim.Native.Nat.{ℕ, suc, ◌+◌, ◌-◌, ◌≤◌, ◌<◌}
use mathlib.Core.Path.{◌≡◌, ap, ◌∙◌}
use mathlib.Core.List.{List, [], ◌∷◌, ◌++◌}
use native.Mathlib.Omega.{arith}
use lib.ListN.{length, take, drop}
use lib.Seq.{drop-cons}
use Rattle.octets.specs.Bytes.{byte}
use Rattle.octets.proofs.Laws.{length_part, parts_join}
use Rattle.signing_stated.specs.Layouts.{register_body, authenticate_body}
use Rattle.signing_stated.specs.Orders.{register_fields_of, authenticate_fields_of}
use Rattle.signing_stated.specs.Terms.{bytes_at}

-- four bytes from a place on
pub four_at : (b : List ℕ) (i : ℕ) → i + 4 ≤ length b → bytes_at i 4 b ≡ byte b i ∷ byte b (i + 1) ∷ byte b (i + 2) ∷ byte b (i + 3) ∷ []
four_at b i h =
    ap (take 4) (next i (i + 1) (omega arith) (omega arith))
    ∙ ap (λ (l : List ℕ). byte b i ∷ take 3 l) (next (i + 1) (i + 2) (omega arith) (omega arith))
    ∙ ap (λ (l : List ℕ). byte b i ∷ byte b (i + 1) ∷ take 2 l) (next (i + 2) (i + 3) (omega arith) (omega arith))
    ∙ ap (λ (l : List ℕ). byte b i ∷ byte b (i + 1) ∷ byte b (i + 2) ∷ take 1 l) (next (i + 3) (i + 4) (omega arith) (omega arith))
  where
    next : (j k : ℕ) → suc j ≡ k → j < length b → drop j b ≡ byte b j ∷ drop k b
    next j k e within = drop-cons b j 0 within ∙ ap (λ (n : ℕ). byte b j ∷ drop n b) e

pub register_spelled : (h : ℕ) (b certificate signature : List ℕ) → length b ≡ 385 → h ≤ 255
    → register_body (register_fields_of (130 + h) b) certificate signature
    ≡ 0x05 ∷ 0x04 ∷ [] ++ bytes_at (66 + h) 64 b ++ h ∷ [] ++ bytes_at 65 h b ++ certificate ++ signature
register_spelled h b certificate signature whole few =
    let x : 130 + h - 64 ≡ 66 + h = omega arith in
    let y : 130 + h - 32 ≡ 66 + h + 32 = omega arith in
    let n : 130 + h - 130 ≡ h = omega arith in
    let long : length (bytes_at 65 h b) ≡ h = length_part 65 h b (omega arith) in
    let key : bytes_at (66 + h) 32 b ++ bytes_at (66 + h + 32) 32 b ≡ bytes_at (66 + h) 64 b = parts_join (66 + h) 32 32 b in
    rw (x, y, n, long, key)

pub authenticate_spelled : (b signature : List ℕ) → length b ≡ 385
    → authenticate_body (authenticate_fields_of b) signature ≡ bytes_at 32 5 b ++ signature
authenticate_spelled b signature whole = rw (drop-cons b 32 0 (omega arith))
