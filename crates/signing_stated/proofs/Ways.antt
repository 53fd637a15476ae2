-- Finishing, check by check: what it comes to once the checks before have passed; every way through the checks; and what each
-- answer tells.
use Prim.Native.Nat.{ℕ, ◌-◌, ◌≤◌, ◌<◌}
use mathlib.Core.Bool.{Bool, true, false}
use mathlib.Core.Path.{◌≡◌, refl, sym, ◌∙◌}
use mathlib.Core.List.{List}
use native.Mathlib.Omega.{arith}
use borrow.Author.Tests.{eqb-true, eqb-false, ltb-true, ltb-false, eq-eqb, ne_eqb, lt-ltb, le-ltb}
use lib.Dec.{eqb, ltb}
use lib.ListN.{length, drop, length-append}
use Rattle.outcome.specs.Outcome.{Outcome, R, SW, Gives}
use Rattle.octets.proofs.Laws.{length_take_most}
use Rattle.signing_stated.specs.Orders.{head_of, Order, Kind, Register, Authenticate, to_sign, certificate_length, is_of_layout}
use Rattle.signing_stated.specs.Finishing.{Finishing, finish_of, room_of, room_needed, body_of}

module _ (i : Finishing) where
  pub comes_to_r7 : is_of_layout i.order ≡ false → finish_of i ≡ R 7
  unfolding finish_of
  comes_to_r7 bad = rw bad

  module _ (ok : is_of_layout i.order ≡ true) where
    pub comes_to_r4 : (length i.certificate ≡ certificate_length i.order → ⊥) → finish_of i ≡ R 4
    unfolding finish_of
    comes_to_r4 other = rw (ok, ne_eqb (length i.certificate) (certificate_length i.order) other)

    module _ (its : length i.certificate ≡ certificate_length i.order) where
      pub comes_to_r2 : length i.reply < room_needed i.order → finish_of i ≡ R 2
      unfolding finish_of
      comes_to_r2 short =
          rw (ok, eq-eqb (length i.certificate) (certificate_length i.order) its, lt-ltb (length i.reply) (room_needed i.order) short)

      module _ (room : room_needed i.order ≤ length i.reply) where
        pub comes_to_6f00 : i.signed ≡ false → finish_of i ≡ SW 0x6f00
        unfolding finish_of
        comes_to_6f00 failed =
            rw (ok, eq-eqb (length i.certificate) (certificate_length i.order) its, le-ltb (length i.reply) (room_needed i.order) room, failed)

        module _ (done : i.signed ≡ true) where
          pub comes_to_r3 : 72 < length i.signature → finish_of i ≡ R 3
          unfolding finish_of
          comes_to_r3 long =
              rw (ok, eq-eqb (length i.certificate) (certificate_length i.order) its, le-ltb (length i.reply) (room_needed i.order) room, done, lt-ltb 72 (length i.signature) long)

          pub comes_to_body : length i.signature ≤ 72
              → finish_of i ≡ Gives (body_of i.order.kind i.order i.certificate i.signature)
          unfolding finish_of
          comes_to_body short =
              rw (ok, eq-eqb (length i.certificate) (certificate_length i.order) its, le-ltb (length i.reply) (room_needed i.order) room, done, le-ltb 72 (length i.signature) short)

-- every check passed
pub record ChecksPassed (i : Finishing) : Type 0 where
  pub layout : is_of_layout i.order ≡ true
  pub certificate : length i.certificate ≡ certificate_length i.order
  pub room : room_needed i.order ≤ length i.reply
  pub signer : i.signed ≡ true
  pub signature : length i.signature ≤ 72

pub data Way (i : Finishing) : Outcome (List ℕ) → Type 0 where
  no_layout : is_of_layout i.order ≡ false → Way i (R 7)
  no_certificate : is_of_layout i.order ≡ true → (length i.certificate ≡ certificate_length i.order → ⊥) → Way i (R 4)
  no_room : is_of_layout i.order ≡ true → length i.certificate ≡ certificate_length i.order
      → length i.reply < room_needed i.order → Way i (R 2)
  no_signature : is_of_layout i.order ≡ true → length i.certificate ≡ certificate_length i.order
      → room_needed i.order ≤ length i.reply → i.signed ≡ false → Way i (SW 0x6f00)
  long_signature : is_of_layout i.order ≡ true → length i.certificate ≡ certificate_length i.order
      → room_needed i.order ≤ length i.reply → i.signed ≡ true → 72 < length i.signature → Way i (R 3)
  passed : ChecksPassed i → Way i (Gives (body_of i.order.kind i.order i.certificate i.signature))

pub way : (i : Finishing) → Way i (finish_of i)
way i = by_layout (is_of_layout i.order) refl
  where
    by_signature : (ok : is_of_layout i.order ≡ true) (its : length i.certificate ≡ certificate_length i.order)
        (room : room_needed i.order ≤ length i.reply) (done : i.signed ≡ true)
        (t : Bool) → ltb 72 (length i.signature) ≡ t → Way i (finish_of i)
    by_signature ok its room done true e = rw (comes_to_r3 i ok its room done (ltb-true 72 (length i.signature) e)) (long_signature ok its room done (ltb-true 72 (length i.signature) e))
    by_signature ok its room done false e =
        rw (comes_to_body i ok its room done (ltb-false 72 (length i.signature) e))
        (passed (record { layout = ok; certificate = its; room = room; signer = done; signature = ltb-false 72 (length i.signature) e }))

    by_signer : (ok : is_of_layout i.order ≡ true) (its : length i.certificate ≡ certificate_length i.order)
        (room : room_needed i.order ≤ length i.reply) (t : Bool) → i.signed ≡ t → Way i (finish_of i)
    by_signer ok its room true e = by_signature ok its room e (ltb 72 (length i.signature)) refl
    by_signer ok its room false e = rw (comes_to_6f00 i ok its room e) (no_signature ok its room e)

    by_room : (ok : is_of_layout i.order ≡ true) (its : length i.certificate ≡ certificate_length i.order)
        (t : Bool) → ltb (length i.reply) (room_needed i.order) ≡ t → Way i (finish_of i)
    by_room ok its true e = rw (comes_to_r2 i ok its (ltb-true _ _ e)) (no_room ok its (ltb-true _ _ e))
    by_room ok its false e = by_signer ok its (ltb-false _ _ e) i.signed refl

    by_certificate : (ok : is_of_layout i.order ≡ true) (t : Bool)
        → eqb (length i.certificate) (certificate_length i.order) ≡ t → Way i (finish_of i)
    by_certificate ok true e = by_room ok (eqb-true _ _ e) (ltb (length i.reply) (room_needed i.order)) refl
    by_certificate ok false e = rw (comes_to_r4 i ok (eqb-false _ _ e)) (no_certificate ok (eqb-false _ _ e))

    by_layout : (t : Bool) → is_of_layout i.order ≡ t → Way i (finish_of i)
    by_layout true e = by_certificate e (eqb (length i.certificate) (certificate_length i.order)) refl
    by_layout false e = rw (comes_to_r7 i e) (no_layout e)

module _ {i : Finishing} where
  pub told_body : {x : Outcome (List ℕ)} (body : List ℕ) → Way i x → x ≡ Gives body
      → ChecksPassed i × (body ≡ body_of i.order.kind i.order i.certificate i.signature)
  told_body body (no_layout bad) e = let z : ◌≡◌ {A = ℕ} 0 1 = cc in absurd (omega arith)
  told_body body (no_certificate _ other) e = let z : ◌≡◌ {A = ℕ} 0 1 = cc in absurd (omega arith)
  told_body body (no_room _ _ short) e = let z : ◌≡◌ {A = ℕ} 0 1 = cc in absurd (omega arith)
  told_body body (no_signature _ _ _ _) e = let z : ◌≡◌ {A = ℕ} 0 1 = cc in absurd (omega arith)
  told_body body (long_signature _ _ _ _ _) e = let z : ◌≡◌ {A = ℕ} 0 1 = cc in absurd (omega arith)
  told_body body (passed p) e = (p, cc)

  pub told_r2 : {x : Outcome (List ℕ)} → Way i x → x ≡ R 2 → length i.reply < room_needed i.order
  told_r2 (no_layout bad) e = let z : ◌≡◌ {A = ℕ} 7 2 = cc in absurd (omega arith)
  told_r2 (no_certificate _ other) e = let z : ◌≡◌ {A = ℕ} 4 2 = cc in absurd (omega arith)
  told_r2 (no_room _ _ short) e = short
  told_r2 (no_signature _ _ _ _) e = let z : ◌≡◌ {A = ℕ} 0 1 = cc in absurd (omega arith)
  told_r2 (long_signature _ _ _ _ _) e = let z : ◌≡◌ {A = ℕ} 3 2 = cc in absurd (omega arith)
  told_r2 (passed p) e = let z : ◌≡◌ {A = ℕ} 0 1 = cc in absurd (omega arith)

  -- past layout, certificate and room, the one refusal left is R3
  pub told_r3 : {x : Outcome (List ℕ)} (n : ℕ) → Way i x → x ≡ R n → is_of_layout i.order ≡ true
      → length i.certificate ≡ certificate_length i.order → room_needed i.order ≤ length i.reply → n ≡ 3
  told_r3 n (no_layout bad) e ok its room =
      let z : ◌≡◌ {A = Bool} true false = sym ok ∙ bad in let y : ◌≡◌ {A = ℕ} 0 1 = cc in absurd (omega arith)
  told_r3 n (no_certificate _ other) e ok its room = absurd (other its)
  told_r3 n (no_room _ _ short) e ok its room = absurd (omega arith)
  told_r3 n (no_signature _ _ _ _) e ok its room = let z : ◌≡◌ {A = ℕ} 0 1 = cc in absurd (omega arith)
  told_r3 n (long_signature _ _ _ _ _) e ok its room = cc
  told_r3 n (passed p) e ok its room = let z : ◌≡◌ {A = ℕ} 0 1 = cc in absurd (omega arith)

-- a body is within the room asked for, whatever the order holds
pub body_within : (k : Kind) (o : Order) (certificate signature : List ℕ) → length certificate ≡ certificate_length o
    → length signature ≤ 72 → length (body_of k o certificate signature) ≤ room_of k (head_of o)
body_within Register o certificate signature its short =
    let n : ℕ = to_sign o in
    simp length-append
    (omega (arith, length_take_most 32 (drop (to_sign o - 64) o.bytes), length_take_most 32 (drop (to_sign o - 32) o.bytes), length_take_most (to_sign o - 130) (drop 65 o.bytes)))
body_within Authenticate o certificate signature its short =
    simp length-append (omega (arith, length_take_most 4 (drop 33 o.bytes)))
