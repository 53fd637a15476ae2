-- Fields that fit, as lengths, and the orders that they make.
use Prim.Native.Nat.{ℕ, ◌+◌, ◌≤◌}
use mathlib.Core.Bool.{Bool, true, false}
use mathlib.Core.Path.{◌≡◌, refl}
use native.Mathlib.Omega.{arith}
use borrow.Author.Tests.{eq-eqb, le-leb, eqb-true, leb-true}
use lib.ListN.{length}
use Rattle.octets.proofs.Laws.{both}
use Rattle.signing_stated.specs.Layouts.{RegisterFields, AuthenticateFields, is_register_fit, is_authenticate_fit, register_to_sign, authenticate_to_sign, presence_byte}
use Rattle.signing_stated.specs.Orders.{Register, Authenticate, AuthenticateParts, fields_for, block, register_order_of, authenticate_order_of}
pub use Rattle.signing_stated.specs.Terms.{RegisterLengths, AuthenticateLengths, PartsLengths}

pub register_fit : (f : RegisterFields) → RegisterLengths f → is_register_fit f ≡ true
register_fit f l =
    rw (eq-eqb (length f.application) 32 l.application, eq-eqb (length f.challenge) 32 l.challenge, le-leb (length f.handle) 255 l.handle, eq-eqb (length f.x) 32 l.x, eq-eqb (length f.y) 32 l.y)

pub authenticate_fit : (f : AuthenticateFields) → AuthenticateLengths f → is_authenticate_fit f ≡ true
authenticate_fit f l =
    rw (eq-eqb (length f.application) 32 l.application, le-leb f.presence 1 l.presence, eq-eqb (length f.counter) 4 l.counter, eq-eqb (length f.challenge) 32 l.challenge)

pub register_lengths : (f : RegisterFields) → is_register_fit f ≡ true → RegisterLengths f
register_lengths f e =
    let p = both _ _ e in
    let q = both _ _ p.0 in
    let r = both _ _ q.0 in
    let s = both _ _ r.0 in
    record {
      application = eqb-true _ _ s.0;
      challenge = eqb-true _ _ s.1;
      handle = leb-true _ _ r.1;
      x = eqb-true _ _ q.1;
      y = eqb-true _ _ p.1;
    }

pub authenticate_lengths : (f : AuthenticateFields) → is_authenticate_fit f ≡ true → AuthenticateLengths f
authenticate_lengths f e =
    let p = both _ _ e in
    let q = both _ _ p.0 in
    let r = both _ _ q.0 in
    record {
      application = eqb-true _ _ r.0;
      presence = leb-true _ _ r.1;
      counter = eqb-true _ _ q.1;
      challenge = eqb-true _ _ p.1;
    }

pub register_order_fit : (f : RegisterFields) (c : ℕ) → RegisterLengths f
    → register_order_of f c ≡ record { kind = Register; to_sign = 130 + length f.handle; certificate_length = c; bytes = block (register_to_sign f) }
unfolding register_order_of
register_order_fit f c l = rw (register_fit f l)

pub authenticate_order_fit : (f : AuthenticateFields) → AuthenticateLengths f
    → authenticate_order_of f ≡ record { kind = Authenticate; to_sign = 69; certificate_length = 0; bytes = block (authenticate_to_sign f) }
unfolding authenticate_order_of
authenticate_order_fit f l = rw (authenticate_fit f l)

-- what the decision makes an Authenticate order of fits
presence_small : (b : Bool) → presence_byte b ≤ 1
presence_small true = omega arith
presence_small false = omega arith

pub lengths_of : (p : AuthenticateParts) → PartsLengths p → AuthenticateLengths (fields_for p)
lengths_of p l = record { application = l.application; presence = presence_small p.present; counter = refl; challenge = l.challenge }
