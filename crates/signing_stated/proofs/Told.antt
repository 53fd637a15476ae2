-- Bytes to sign, and what they tell: two layouts that no bytes share, each with one reading; and fronts that are another order's.
use Prim.Native.Nat.{ℕ, ◌+◌, ◌*◌, ◌≤◌}
use mathlib.Core.Bool.{Bool, true, false}
use mathlib.Core.Logic.{◌↔◌}
use mathlib.Core.Path.{◌≡◌, refl, sym, ap, ◌∙◌}
use mathlib.Core.List.{List, [], ◌∷◌, ◌++◌, append_assoc}
use native.Mathlib.Omega.{arith}
use lib.ListN.{length, take, length-append, get_or-append}
use lib.Seq.{take_at, get_or_at, get_or-take}
use Rattle.octets.specs.Bytes.{byte, bytes4}
use Rattle.signing_stated.specs.Layouts.{RegisterFields, AuthenticateFields, register_to_sign, authenticate_to_sign, public_key, presence_byte}
use Rattle.signing_stated.specs.Orders.{AuthenticateParts, fields_for, block, register_fields_of, authenticate_fields_of, register_order_of, authenticate_order_of, authenticate_order_for}
use Rattle.signing_stated.specs.Terms.{RegisterLengths, AuthenticateLengths, PartsLengths, signed_bytes, longer}
use Rattle.signing_stated.proofs.Cases.{four}
use Rattle.signing_stated.proofs.Fit.{lengths_of, register_order_fit, authenticate_order_fit}
use Rattle.signing_stated.proofs.FieldsKept.{block_front, register_to_sign_length, authenticate_to_sign_length, register_kept, authenticate_kept, authenticate_front, front_lengths}

-- ---- the bytes to sign of an order are its layout's
pub signed_register : (f : RegisterFields) (c : ℕ) → RegisterLengths f → signed_bytes (register_order_of f c) ≡ register_to_sign f
signed_register f c l = ap signed_bytes (register_order_fit f c l) ∙ block_front (register_to_sign f) (130 + length f.handle) (register_to_sign_length f l) (omega (arith, l.handle))

pub signed_authenticate : (f : AuthenticateFields) → AuthenticateLengths f → signed_bytes (authenticate_order_of f) ≡ authenticate_to_sign f
signed_authenticate f l = ap signed_bytes (authenticate_order_fit f l) ∙ block_front (authenticate_to_sign f) 69 (authenticate_to_sign_length f l) (omega arith)

-- ---- the layouts apart: 130 + h bytes, and 69
layouts_apart : (f : RegisterFields) (g : AuthenticateFields) → RegisterLengths f → AuthenticateLengths g → register_to_sign f ≡ authenticate_to_sign g → ⊥
layouts_apart f g l m e = omega (arith, ap length e, register_to_sign_length f l, authenticate_to_sign_length g m)

-- ---- and each with one reading: as many bytes, so the handle is as long, and every field stands at the same place
pub register_injective : (f g : RegisterFields) → RegisterLengths f → RegisterLengths g → register_to_sign f ≡ register_to_sign g → f ≡ g
register_injective f g l m e =
    let as_long : 130 + length f.handle ≡ 130 + length g.handle = sym (register_to_sign_length f l) ∙ ap length e ∙ register_to_sign_length g m in
    sym (register_kept f l)
    ∙ ap (λ (n : ℕ). register_fields_of n (block (register_to_sign f))) as_long
    ∙ ap (λ (s : List ℕ). register_fields_of (130 + length g.handle) (block s)) e
    ∙ register_kept g m

authenticate_injective : (f g : AuthenticateFields) → AuthenticateLengths f → AuthenticateLengths g → authenticate_to_sign f ≡ authenticate_to_sign g → f ≡ g
authenticate_injective f g l m e = sym (authenticate_kept f l) ∙ ap (λ (s : List ℕ). authenticate_fields_of (block s)) e ∙ authenticate_kept g m

-- what the decision makes an Authenticate order of is told by its fields: a presence byte says whether somebody touched, four bytes which number
told : (a b : Bool) → presence_byte a ≡ presence_byte b → a ≡ b
told true true e = refl
told true false e = absurd (omega arith)
told false true e = absurd (omega arith)
told false false e = refl

abbrev number : List ℕ → ℕ
number s = byte s 0 * 0x1000000 + byte s 1 * 0x10000 + byte s 2 * 0x100 + byte s 3

numbered : (n : ℕ) → number (bytes4 n) ≡ n
numbered n = omega arith

counted : (n m : ℕ) → bytes4 n ≡ bytes4 m → n ≡ m
counted n m e = sym (numbered n) ∙ ap number e ∙ numbered m

parts_equal : (p q : AuthenticateParts) → fields_for p ≡ fields_for q → p ≡ q
parts_equal p q e =
    let present : p.present ≡ q.present = told p.present q.present (ap (λ (f : AuthenticateFields). f.presence) e) in
    let counter : p.counter ≡ q.counter = counted p.counter q.counter (ap (λ (f : AuthenticateFields). f.counter) e) in
    λ i. record { application = (e i).application; challenge = (e i).challenge; present = present i; counter = counter i }

-- ---- so of orders
pub orders_apart : (f : RegisterFields) (c : ℕ) (p : AuthenticateParts) → RegisterLengths f → PartsLengths p
    → signed_bytes (register_order_of f c) ≡ signed_bytes (authenticate_order_for p) → ⊥
orders_apart f c p l m e =
    layouts_apart f (fields_for p) l (lengths_of p m) (sym (signed_register f c l) ∙ e ∙ signed_authenticate (fields_for p) (lengths_of p m))

pub enrolments_told : (f g : RegisterFields) (c d : ℕ) → RegisterLengths f → RegisterLengths g
    → signed_bytes (register_order_of f c) ≡ signed_bytes (register_order_of g d) → f ≡ g
enrolments_told f g c d l m e = register_injective f g l m (sym (signed_register f c l) ∙ e ∙ signed_register g d m)

pub logins_told : (p q : AuthenticateParts) → PartsLengths p → PartsLengths q
    → signed_bytes (authenticate_order_for p) ≡ signed_bytes (authenticate_order_for q) → p ≡ q
logins_told p q l m e =
    parts_equal p q
    (authenticate_injective (fields_for p) (fields_for q) (lengths_of p l) (lengths_of q m)
    (sym (signed_authenticate (fields_for p) (lengths_of p l)) ∙ e ∙ signed_authenticate (fields_for q) (lengths_of q m)))

-- ---- fronts
module _ (f : RegisterFields) (l : RegisterLengths f) where
  -- where an Authenticate order has its presence byte, a Register order has the application's last
  shared_byte : byte (register_to_sign f) 32 ≡ byte f.application 31
  shared_byte =
      ap (λ (s : List ℕ). byte s 31) (four f.application f.challenge f.handle (public_key f.x f.y))
      ∙ get_or-append f.application (f.challenge ++ (f.handle ++ public_key f.x f.y)) 0 31 (omega (arith, l.application))

  front_ends : (p : AuthenticateFields) → AuthenticateLengths p → take 69 (register_to_sign f) ≡ authenticate_to_sign p → byte f.application 31 ≤ 1
  front_ends p m e =
      let at : byte (authenticate_to_sign p) 32 ≡ p.presence =
      ap (λ (s : List ℕ). byte s 32) (four p.application (p.presence ∷ []) p.counter p.challenge)
      ∙ get_or_at p.application p.presence (p.counter ++ p.challenge) 0 32 m.application in
      let same : byte f.application 31 ≡ p.presence =
      sym shared_byte ∙ sym (get_or-take 69 (register_to_sign f) 32 0 (omega arith)) ∙ ap (λ (s : List ℕ). byte s 32) e ∙ at in
      omega (arith, same, m.presence)

  pub front_of_login : (c : ℕ)
      → ((p : AuthenticateFields) × AuthenticateLengths p × (take 69 (signed_bytes (register_order_of f c)) ≡ signed_bytes (authenticate_order_of p))) ↔ (byte f.application 31 ≤ 1)
  front_of_login c = (
    λ x. front_ends x.0 x.1 (ap (take 69) (sym (signed_register f c l)) ∙ x.2 ∙ signed_authenticate x.0 x.1),
    λ low.
        let long : 69 ≤ length (register_to_sign f) = omega (arith, register_to_sign_length f l) in
        let fits = front_lengths (register_to_sign f) long (omega (arith, shared_byte, low)) in
        (authenticate_fields_of (register_to_sign f), fits, ap (take 69) (signed_register f c l) ∙ authenticate_front (register_to_sign f) long ∙ sym (signed_authenticate _ fits)),
  )

  -- a handle that goes on with a key
  longer_lengths : (x y : List ℕ) → length f.handle ≤ 190 → length x ≡ 32 → length y ≡ 32 → RegisterLengths (longer f x y)
  longer_lengths x y h lx ly = record { application = l.application; challenge = l.challenge; handle = simp length-append (omega (arith, l.x, l.y)); x = lx; y = ly }

  pub front_of_enrolment : (c d : ℕ) (x y : List ℕ) → length f.handle ≤ 190 → length x ≡ 32 → length y ≡ 32
      → take (130 + length f.handle) (signed_bytes (register_order_of (longer f x y) d)) ≡ signed_bytes (register_order_of f c)
  front_of_enrolment c d x y h lx ly =
      let n : ℕ = 130 + length f.handle in
      ap (take n) (signed_register (longer f x y) d (longer_lengths x y h lx ly) ∙ goes_on x y)
      ∙ take_at (register_to_sign f) (public_key x y) n (register_to_sign_length f l)
      ∙ sym (signed_register f c l)
    where
      goes_on : (x y : List ℕ) → register_to_sign (longer f x y) ≡ register_to_sign f ++ public_key x y
      goes_on x y = ap (λ (s : List ℕ). s ++ public_key x y) (sym (append_assoc (0x00 ∷ [] ++ f.application ++ f.challenge) f.handle (public_key f.x f.y)))
