-- Only the definitions meet the claims: two functions that meet one agree on every input.
use Prim.Native.Nat.{ℕ, ◌+◌, ◌-◌, ◌≤◌}
use mathlib.Core.Bool.{Bool, true, false}
use mathlib.Core.Path.{◌≡◌, refl, sym, ap, ◌∙◌}
use mathlib.Core.Logic.{◌↔◌}
use mathlib.Core.List.{List}
use native.Mathlib.Omega.{arith}
use native.Mathlib.Decide.{ℕ_discrete}
use lib.ListN.{length}
use Rattle.outcome.specs.Notation.{AtMostOne, Determines, Determines2, Determines3}
use Rattle.outcome.specs.Outcome.{Outcome}
use Rattle.octets.specs.Bytes.{byte, bytes4}
use Rattle.signing_stated.specs.Claims
use Rattle.signing_stated.specs.Layouts.{RegisterFields, AuthenticateFields, presence_byte, is_register_fit}
use Rattle.signing_stated.specs.Orders.{Order, Register, Authenticate, AuthenticateParts, certificate_length, register_order_of, authenticate_order_of, authenticate_order_for, register_fields_of, authenticate_fields_of}
use Rattle.signing_stated.specs.Finishing.{Finishing, Refused, Status, Ok, Err, Ended, finish_of, room_needed}
use Rattle.signing_stated.specs.Terms.{bytes_at, RegisterLengths, PartsLengths, IsWhole, IsBlank, NeedsRoom, register, authenticate, OfLayout}
use Rattle.signing_stated.proofs.Fit.{register_fit, register_lengths}
use Rattle.signing_stated.proofs.Shapes.{RegisterShape, AuthenticateShape, from_zeros, needs_room, of_no_layout}
use Rattle.signing_stated.proofs.FieldsKept.{register_equal, authenticate_equal, order_equal, register_order_of_lem, authenticate_order_of_lem}
use Rattle.signing_stated.proofs.Spelled.{four_at}
use Rattle.signing_stated.proofs.Ways.{ChecksPassed, Way, no_layout, no_certificate, no_room, no_signature, long_signature, passed, way}

-- two answers of a test that hold exactly when the same does
same_test : {P : Type 0} (a b : Bool) → (a ≡ true) ↔ P → (b ≡ true) ↔ P → a ≡ b
same_test true b p q = sym (q.1 (p.0 refl))
same_test false true p q = p.1 (q.0 refl)
same_test false false p q = refl

pub KindNumbers : Determines Claims.KindNumbers
KindNumbers f g p q Register = p.register ∙ sym q.register
KindNumbers f g p q Authenticate = p.authenticate ∙ sym q.authenticate

blank_same : (o p : Order) → IsBlank o → IsBlank p → o ≡ p
blank_same o p a b =
    order_equal o p (a.kind ∙ sym b.kind) (a.counts ∙ sym b.counts) (a.certificate ∙ sym b.certificate) (a.zeros ∙ sym b.zeros)

pub BlankExactly : AtMostOne Claims.BlankExactly
BlankExactly = blank_same

-- an order that meets the claim is the definition's
register_is : (make : RegisterFields → ℕ → Order) → Claims.MakesRegister make
    → (f : RegisterFields) (c : ℕ) → RegisterLengths f → make f c ≡ register_order_of f c
register_is make p f c l =
    let o : Order = make f c in
    let b : List ℕ = (make f c).bytes in
    let n : ℕ = 130 + length f.handle in
    let h : 130 + length f.handle - 130 ≡ length f.handle = omega arith in
    let m : 130 + length f.handle - 65 ≡ 65 + length f.handle = omega arith in
    let x : 130 + length f.handle - 64 ≡ 66 + length f.handle = omega arith in
    let y : 130 + length f.handle - 32 ≡ 98 + length f.handle = omega arith in
    let shape : RegisterShape n b =
    record {
      least = omega arith;
      most = omega (arith, l.handle);
      first = p.first f c l;
      marker = ap (λ (i : ℕ). byte b i) m ∙ p.marker f c l;
      rest = from_zeros b n (p.rest f c l);
    } in
    let fields : register_fields_of n b ≡ f =
    register_equal (register_fields_of n b) f (p.application f c l) (p.challenge f c l)
    (ap (λ (k : ℕ). bytes_at 65 k b) h ∙ p.handle f c l)
    (ap (λ (k : ℕ). bytes_at k 32 b) x ∙ p.x f c l)
    (ap (λ (k : ℕ). bytes_at k 32 b) y ∙ p.y f c l) in
    register_order_of_lem n b (p.whole f c l) shape o (p.kind f c l) (p.counts f c l) refl
    ∙ ap (λ (g : RegisterFields). register_order_of g (certificate_length o)) fields
    ∙ ap (register_order_of f) (p.certificate f c l)

pub MakesRegister : Determines2 Claims.MakesRegister
MakesRegister f g p q a c = by_fit (is_register_fit a) refl
  where
    by_fit : (t : Bool) → is_register_fit a ≡ t → f a c ≡ g a c
    by_fit true fit = let l = register_lengths a fit in register_is f p a c l ∙ sym (register_is g q a c l)
    by_fit false bad =
        let none : RegisterLengths a → ⊥ =
        λ l. let z : ◌≡◌ {A = Bool} true false = sym (register_fit a l) ∙ bad in let y : ◌≡◌ {A = ℕ} 0 1 = cc in omega arith in
        blank_same (f a c) (g a c) (p.unfit a c none) (q.unfit a c none)

abbrev fields_of : AuthenticateParts → AuthenticateFields
fields_of p = record { application = p.application; presence = presence_byte p.present; counter = bytes4 p.counter; challenge = p.challenge }

authenticate_is : (make : AuthenticateParts → Order) → Claims.MakesAuthenticate make
    → (a : AuthenticateParts) → PartsLengths a → make a ≡ authenticate_order_for a
authenticate_is make p a l =
    let b : List ℕ = (make a).bytes in
    let long : length b ≡ 385 = p.whole a l in
    let presence : byte b 32 ≡ presence_byte a.present = by_presence a.present refl in
    let shape : AuthenticateShape 69 0 b =
    record { long = refl; presence = small a.present presence; rest = from_zeros b 69 (p.rest a l); no_certificate = refl } in
    let counter : bytes_at 33 4 b ≡ bytes4 a.counter =
    four_at b 33 (omega arith) ∙ rw (p.counter_1 a l, p.counter_2 a l, p.counter_3 a l, p.counter_4 a l) in
    authenticate_order_of_lem b long 69 0 shape (make a) (p.kind a l) (p.counts a l) (p.certificate a l) refl
    ∙ ap authenticate_order_of (authenticate_equal (authenticate_fields_of b) (fields_of a) (p.application a l) presence counter (p.challenge a l))
  where
    by_presence : (t : Bool) → a.present ≡ t → byte (make a).bytes 32 ≡ presence_byte a.present
    by_presence true e = p.present a l e ∙ ap presence_byte (sym e)
    by_presence false e = p.absent a l e ∙ ap presence_byte (sym e)

    small : (t : Bool) → byte (make a).bytes 32 ≡ presence_byte t → byte (make a).bytes 32 ≤ 1
    small true e = omega arith
    small false e = omega arith

pub MakesAuthenticate : Determines Claims.MakesAuthenticate
MakesAuthenticate f g p q a = by_application (ℕ_discrete (length a.application) 32)
  where
    none_same : (PartsLengths a → ⊥) → f a ≡ g a
    none_same none = blank_same (f a) (g a) (p.unfit a none) (q.unfit a none)

    by_challenge : length a.application ≡ 32 → Dec (length a.challenge ≡ 32) → f a ≡ g a
    by_challenge e (yes d) =
        let l : PartsLengths a = record { application = e; challenge = d } in authenticate_is f p a l ∙ sym (authenticate_is g q a l)
    by_challenge e (no d) = none_same (λ l. d l.challenge)

    by_application : Dec (length a.application ≡ 32) → f a ≡ g a
    by_application (yes e) = by_challenge e (ℕ_discrete (length a.challenge) 32)
    by_application (no e) = none_same (λ l. e l.application)

-- of orders with a block of 385 bytes, as every order in memory has
pub LayoutExactly : (f g : Order → Bool) → Claims.LayoutExactly f → Claims.LayoutExactly g → (o : Order) → IsWhole o → f o ≡ g o
LayoutExactly f g p q o whole = same_test (f o) (g o) (p o whole) (q o whole)

pub RegisterRoomExactly : Determines3 Claims.RegisterRoomExactly
RegisterRoomExactly f g p q room h c = same_test (f room h c) (g room h c) (p room h c) (q room h c)

pub AuthenticateRoomExactly : Determines Claims.AuthenticateRoomExactly
AuthenticateRoomExactly f g p q room = same_test (f room) (g room) (p room) (q room)

-- of orders of their layout: no other is asked
pub RoomNeededExactly : (f g : Order → ℕ) → Claims.RoomNeededExactly f → Claims.RoomNeededExactly g
    → (o : Order) (room : ℕ) → NeedsRoom o room → f o ≡ g o
RoomNeededExactly f g p q o room a = p o room a ∙ sym (q o room a)

-- of any order with a block of 385 bytes, as every order in memory has
pub FinishesExactly : (f g : Finishing → Ended) → Claims.FinishesExactly f → Claims.FinishesExactly g
    → (i : Finishing) → IsWhole i.order → f i ≡ g i
FinishesExactly f g p q i whole = by_way (finish_of i) (way i)
  where
    by_room : (room : ℕ) → NeedsRoom i.order room → room ≤ length i.reply → ChecksPassed i → f i ≡ g i
    by_room _ (register h s) fits k =
        let enough : 139 + h + length i.certificate ≤ length i.reply = omega (arith, k.certificate) in
        p.register_body i h whole s k.certificate enough k.signer k.signature
        ∙ sym (q.register_body i h whole s k.certificate enough k.signer k.signature)
    by_room _ (authenticate s) fits k =
        let none : length i.certificate ≡ 0 = k.certificate ∙ s.no_certificate in
        p.authenticate_body i whole s none fits k.signer k.signature
        ∙ sym (q.authenticate_body i whole s none fits k.signer k.signature)

    by_way : (x : Outcome (List ℕ)) → Way i x → f i ≡ g i
    by_way _ (no_layout bad) = let none = of_no_layout i.order bad in p.r7 i none ∙ sym (q.r7 i none)
    by_way _ (no_certificate ok other) =
        let a : OfLayout i.order = (room_needed i.order, needs_room i.order ok) in p.r4 i a other ∙ sym (q.r4 i a other)
    by_way _ (no_room ok its short) = let a = needs_room i.order ok in p.r2 i _ a its short ∙ sym (q.r2 i _ a its short)
    by_way _ (no_signature ok its room failed) =
        let a = needs_room i.order ok in p.signer_failed i _ a its room failed ∙ sym (q.signer_failed i _ a its room failed)
    by_way _ (long_signature ok its room done long) =
        let a = needs_room i.order ok in p.r3 i _ a its room done long ∙ sym (q.r3 i _ a its room done long)
    by_way _ (passed k) = by_room (room_needed i.order) (needs_room i.order k.layout) k.room k

-- ---- what finishing answers
pub FinishedExactly : Determines Claims.FinishedExactly
FinishedExactly f g p q (Err (Refused why)) = (p.refused _ why).1 refl ∙ sym ((q.refused _ why).1 refl)
FinishedExactly f g p q (Err (Status s)) = (p.status _ s).1 refl ∙ sym ((q.status _ s).1 refl)
FinishedExactly f g p q (Ok n) = (p.body _ n).1 refl ∙ sym ((q.body _ n).1 refl)
