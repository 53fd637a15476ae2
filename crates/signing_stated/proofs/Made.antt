-- Orders that are made of lengths that fit, and what finishing gives for them.
use Prim.Native.Nat.{ℕ, ◌+◌, ◌-◌, ◌<◌, ◌≤◌}
use mathlib.Core.Bool.{Bool, true, false, not, ◌&&◌}
use mathlib.Core.Path.{◌≡◌, refl, sym, ap, ◌∙◌}
use mathlib.Core.List.{List, []}
use lib.Dec.{eqb, leb}
use borrow.Author.Tests.{eq-eqb, le-ltb}
use Rattle.outcome.specs.Notation.{when◌then◌else◌}
use native.Mathlib.Omega.{arith}
use lib.ListN.{length, replicate, length-replicate}
use Rattle.octets.proofs.Laws.{length_laid}
use Rattle.outcome.specs.Outcome.{R, SW, Gives}
use Rattle.signing_stated.specs.Layouts.{RegisterFields, AuthenticateFields, register_to_sign, authenticate_to_sign, is_register_fit, is_authenticate_fit}
use Rattle.signing_stated.specs.Orders.{Kind, Register, Authenticate, Head, Order, head_of, to_sign, certificate_length, block, blank_order, register_order_of, authenticate_order_of, is_register_layout, is_layout, is_of_layout, register_fields_of, authenticate_fields_of}
use Rattle.signing_stated.specs.Finishing.{Finishing, finish_of, body_of, register_room, authenticate_room, room_of, room_needed}
use Rattle.signing_stated.proofs.FieldsKept.{register_kept, authenticate_kept, register_made_shape, authenticate_made_shape}
use Rattle.signing_stated.proofs.Shapes.{register_shape, shape_register, shape_authenticate}
use Rattle.signing_stated.proofs.Cases.{register_body_length, authenticate_body_length}
use Rattle.signing_stated.proofs.Fit.{register_lengths, authenticate_lengths, register_order_fit, authenticate_order_fit}
use Rattle.signing_stated.proofs.Ways.{comes_to_r7, way, told_body, told_r2, told_r3, body_within}

pub made_of_layout :
    ((f : RegisterFields) (c : ℕ) → is_register_fit f ≡ true → is_of_layout (register_order_of f c) ≡ true)
    × ((f : AuthenticateFields) → is_authenticate_fit f ≡ true → is_of_layout (authenticate_order_of f) ≡ true)
made_of_layout = (
  λ f c fit.
      ap is_of_layout (register_order_fit f c (register_lengths f fit))
      ∙ shape_register _ _ (register_made_shape f (register_lengths f fit)),
  λ f fit.
      ap is_of_layout (authenticate_order_fit f (authenticate_lengths f fit))
      ∙ shape_authenticate _ _ _ (authenticate_made_shape f (authenticate_lengths f fit)),
)

blank_of_neither : is_of_layout blank_order ≡ false
unfolding blank_order is_register_layout
blank_of_neither = refl

pub blank_refused : (is_of_layout blank_order ≡ false) × ((i : Finishing) → i.order ≡ blank_order → finish_of i ≡ R 7)
blank_refused = (blank_of_neither, λ i e. comes_to_r7 i (ap is_of_layout e ∙ blank_of_neither))

pub fields_kept :
    ((f : RegisterFields) (c : ℕ) → is_register_fit f ≡ true
    → register_fields_of (to_sign (register_order_of f c)) (register_order_of f c).bytes ≡ f)
    × ((f : AuthenticateFields) → is_authenticate_fit f ≡ true → authenticate_fields_of (authenticate_order_of f).bytes ≡ f)
fields_kept = (
  λ f c fit.
      ap (λ (o : Order). register_fields_of (to_sign o) o.bytes) (register_order_fit f c (register_lengths f fit))
      ∙ register_kept f (register_lengths f fit),
  λ f fit.
      ap (λ (o : Order). authenticate_fields_of o.bytes) (authenticate_order_fit f (authenticate_lengths f fit))
      ∙ authenticate_kept f (authenticate_lengths f fit),
)

-- the room that a made order asks for
pub room_of_made :
    ((f : RegisterFields) (c : ℕ) → is_register_fit f ≡ true → room_needed (register_order_of f c) ≡ register_room (length f.handle) c)
    × ((f : AuthenticateFields) → is_authenticate_fit f ≡ true → room_needed (authenticate_order_of f) ≡ authenticate_room)
room_of_made = (
  λ f c fit.
      let same : 130 + length f.handle - 130 ≡ length f.handle = omega arith in
      ap room_needed (register_order_fit f c (register_lengths f fit)) ∙ ap (λ (h : ℕ). register_room h c) same,
  λ f fit. ap room_needed (authenticate_order_fit f (authenticate_lengths f fit)),
)

-- and no order for these fields asks for more, a blank one neither
pub room_most : (f : RegisterFields) (c : ℕ) → room_needed (register_order_of f c) ≤ register_room (length f.handle) c
unfolding register_order_of blank_order
room_most f c = by (is_register_fit f) (register_to_sign f)
  where
    by : (fit : Bool) (s : List ℕ)
        → room_needed (when not fit then blank_order else record { kind = Register; to_sign = 130 + length f.handle; certificate_length = c; bytes = block s })
        ≤ register_room (length f.handle) c
    by true s = omega arith
    by false s = omega arith

-- whatever was lent: R2 tells that the order's room was not there, and a body is within it
pub finish_short : (i : Finishing) → finish_of i ≡ R 2 → length i.reply < room_needed i.order
finish_short i e = told_r2 (way i) e

pub finish_within : (i : Finishing) (body : List ℕ) → finish_of i ≡ Gives body → length body ≤ room_needed i.order
finish_within i body e =
    let (passed, same) = told_body body (way i) e in
    rw same (body_within i.order.kind i.order i.certificate i.signature passed.certificate passed.signature)

-- once the layout is right, the certificate is the order's and the room is there, finishing gives none of R7, R4 and R2
pub room_kept : (i : Finishing) → is_of_layout i.order ≡ true → length i.certificate ≡ certificate_length i.order
    → room_needed i.order ≤ length i.reply → (finish_of i ≡ R 7 → ⊥) × (finish_of i ≡ R 4 → ⊥) × (finish_of i ≡ R 2 → ⊥)
room_kept i ok its room = (
  λ e. let z = told_r3 7 (way i) e ok its room in omega arith,
  λ e. let z = told_r3 4 (way i) e ok its room in omega arith,
  λ e. let z = told_r3 2 (way i) e ok its room in omega arith,
)

-- the head of a Register order is known from the lengths of its fields
pub head_by_lengths : (f g : RegisterFields) (c k : ℕ) → length f.application ≡ length g.application → length f.challenge ≡ length g.challenge
    → length f.handle ≡ length g.handle → length f.x ≡ length g.x → length f.y ≡ length g.y → c ≡ k
    → head_of (register_order_of f c) ≡ head_of (register_order_of g k)
unfolding register_order_of
head_by_lengths f g c k a d h x y e =
    head_is (is_register_fit f) (130 + length f.handle) c (block (register_to_sign f))
    ∙ (λ i. head_for (eqb (a i) 32 && eqb (d i) 32 && leb (h i) 255 && eqb (x i) 32 && eqb (y i) 32) (130 + h i) (e i))
    ∙ sym (head_is (is_register_fit g) (130 + length g.handle) k (block (register_to_sign g)))
  where
    head_for : Bool → ℕ → ℕ → Head
    head_for fit n c = when not fit then head_of blank_order else record { kind = Register; to_sign = n; certificate_length = c }

    head_is : (fit : Bool) (n c : ℕ) (bytes : List ℕ)
        → head_of (when not fit then blank_order else record { kind = Register; to_sign = n; certificate_length = c; bytes = bytes }) ≡ head_for fit n c
    head_is true n c bytes = refl
    head_is false n c bytes = refl

-- and then it gives 6f00 where the signer failed, and else, with a signature of at most 72 bytes, a body that is within the room
module _ (i : Finishing) (ok : is_of_layout i.order ≡ true) (its : length i.certificate ≡ certificate_length i.order) (room : room_needed i.order ≤ length i.reply) where
  pub finish_failed : i.signed ≡ false → finish_of i ≡ SW 0x6f00
  unfolding finish_of
  finish_failed f = rw (ok, eq-eqb (length i.certificate) (certificate_length i.order) its, le-ltb (length i.reply) (room_needed i.order) room, f)

  pub finish_gives : i.signed ≡ true → length i.signature ≤ 72
      → (finish_of i ≡ Gives (body_of i.order.kind i.order i.certificate i.signature))
      × (length (body_of i.order.kind i.order i.certificate i.signature) ≤ room_needed i.order)
  unfolding finish_of
  finish_gives s fits = (
    rw (ok, eq-eqb (length i.certificate) (certificate_length i.order) its, le-ltb (length i.reply) (room_needed i.order) room, s, le-ltb 72 (length i.signature) fits),
    body_within i.order.kind i.order i.certificate i.signature its fits,
  )

-- with 72 bytes of signature a body takes all the room that its order asks for
pub body_full : (k : Kind) (o : Order) (certificate signature : List ℕ) → is_layout k o ≡ true → length o.bytes ≡ 385 → length certificate ≡ certificate_length o
    → length signature ≡ 72 → length (body_of k o certificate signature) ≡ room_of k (head_of o)
body_full Register o certificate signature ok whole its is =
    let s = register_shape (to_sign o) o.bytes ok in
    omega (arith, register_body_length (to_sign o) o.bytes s.least s.most whole certificate signature, its, is)
body_full Authenticate o certificate signature ok whole its is = omega (arith, authenticate_body_length o.bytes signature whole, is)

-- a made order's block has 385 bytes, and so has a blank one's
block_whole : (s : List ℕ) → length (block s) ≡ 385
unfolding block
block_whole s = length_laid s (replicate 385 0) ∙ length-replicate {A = ℕ} 385 0

either : (fit : Bool) (blank made : Order) → length blank.bytes ≡ 385 → length made.bytes ≡ 385 → length (when not fit then blank else made).bytes ≡ 385
either true blank made a b = b
either false blank made a b = a

pub made_whole : ((f : RegisterFields) (c : ℕ) → length (register_order_of f c).bytes ≡ 385) × ((f : AuthenticateFields) → length (authenticate_order_of f).bytes ≡ 385)
unfolding register_order_of authenticate_order_of blank_order
made_whole = (λ f c. either (is_register_fit f) _ _ (block_whole []) (block_whole (register_to_sign f)), λ f. either (is_authenticate_fit f) _ _ (block_whole []) (block_whole (authenticate_to_sign f)))
