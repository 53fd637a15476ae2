-- What bounds a body: the room that its order asked for. And the order that takes all of it.
use Prim.Native.Nat.{ℕ, ◌+◌, ◌≤◌}
use mathlib.Core.Path.{◌≡◌, refl, sym, ◌∙◌}
use mathlib.Core.Bool.{Bool, true, false}
use mathlib.Core.List.{List, ◌∷◌, ◌++◌}
use native.Mathlib.Omega.{arith}
use lib.ListN.{length, replicate, get_or-eq_default}
use Rattle.outcome.specs.Outcome.{Outcome, R, Word, Gives}
use Rattle.outcome.proofs.Laws.{gives_same, r_gives, r_word, word_gives}
use Rattle.signing_stated.specs.declared.Kind.TheVariants as Kind'
use Rattle.signing_stated.specs.Orders.{Order, certificate_length, is_of_layout}
use Rattle.signing_stated.specs.Finishing.{Finishing, finish_of, length_of}
use Rattle.signing_stated.specs.Terms.{RegisterShaped, NeedsRoom, register, authenticate}
use Rattle.signing_stated.proofs.Laws.{needs_room, comes_to_r7, way, told_body, finish_short, finish_within}

-- an answer that says a body's length, and R2, are what finishing came to
length_told : (o : Outcome (List ℕ)) (b : ℕ) → length_of o ≡ Gives b → (body : List ℕ) × (o ≡ Gives body) × (length body ≡ b)
length_told (R n) b e = absurd (r_gives _ _ e)
length_told (Word s) b e = absurd (word_gives _ _ e)
length_told (Gives body) b e = (body, refl, gives_same _ _ e)

r_told : (o : Outcome (List ℕ)) (n : ℕ) → length_of o ≡ R n → o ≡ R n
r_told (R k) n e = cc
r_told (Word s) n e = absurd (r_word _ _ (sym e))
r_told (Gives body) n e = absurd (r_gives _ _ (sym e))

pub body_most : (i : Finishing) (b : ℕ) → length_of (finish_of i) ≡ Gives b → b ≤ length i.reply
body_most i b e =
    let (body, gives, counts) = length_told (finish_of i) b e in
    let (passed, same) = told_body body (way i) gives in
    omega (arith, finish_within i body gives, counts, passed.room)

-- an order of a layout asks for no more than 394 bytes and its certificate
asks_most : {o : Order} {room : ℕ} → NeedsRoom o room → room ≤ 394 + certificate_length o
asks_most (register h shaped) = omega (arith, shaped.handle)
asks_most (authenticate shaped) = omega arith

pub never_short : (i : Finishing) → 394 + certificate_length i.order ≤ length i.reply → length_of (finish_of i) ≡ R 2 → ⊥
never_short i room e = by (is_of_layout i.order) refl
  where
    r2 : finish_of i ≡ R 2
    r2 = r_told (finish_of i) 2 e

    by : (layout : Bool) → is_of_layout i.order ≡ layout → ⊥
    by true ok = omega (arith, finish_short i r2, asks_most (needs_room i.order ok), room)
    by false bad = let seven : ◌≡◌ {A = Outcome (List ℕ)} (R 7) (R 2) = sym (comes_to_r7 i bad) ∙ r2 in let z : ◌≡◌ {A = ℕ} 7 2 = cc in omega arith

-- a Register order with a handle of 255 bytes: 385 to sign, the 04 at 320
abbrev full_block : List ℕ
full_block = replicate 320 0x00 ++ 0x04 ∷ replicate 64 0x00

abbrev pub full_order : (certificate : ℕ) → Order
full_order c = record { kind = Kind'.Register; to_sign = 385; certificate_length = c; bytes = full_block }

pub full_shaped : (c : ℕ) → RegisterShaped 255 (full_order c)
full_shaped c = record { kind = refl; counts = refl; handle = omega arith; first = refl; marker = refl; rest = λ i h. get_or-eq_default full_block 0 h }

-- finished into n bytes, with as long a certificate and signature as there may be
abbrev pub full_finish : (n c : ℕ) → Finishing
full_finish n c = record { order = full_order c; certificate = replicate c 0x00; signed = true; signature = replicate 72 0x00; reply = replicate n 0x00 }
