-- FIDO's messages and document 01's layouts: the same bytes.
use Prim.Native.Nat.{ℕ, ◌+◌, ◌/◌, ◌%◌, ◌≤◌, ◌<◌}
use mathlib.Core.Bool.{Bool, true, false}
use mathlib.Core.Path.{◌≡◌, refl, sym, ap, ◌∙◌}
use mathlib.Core.List.{List, [], ◌∷◌, ◌++◌, append_assoc, append-nil}
use native.Mathlib.Omega.{arith}
use lib.ListN.{length, length-append}
use lib.Seq.{length-take-le}
use Rattle.octets.specs.Bytes.{bytes4}
use Rattle.signing_stated.specs.Fido.{IsMessage, IsKey, IsCounter, presence_bit, registration_signed, registration_response, authentication_signed, authentication_response}
use Rattle.signing_stated.specs.Layouts.{RegisterFields, AuthenticateFields, public_key, register_to_sign, authenticate_to_sign, register_body, authenticate_body, presence_byte}
use Rattle.signing_stated.specs.Orders.{Order, Register, Authenticate, to_sign, block, register_order_of, authenticate_order_of}
use Rattle.signing_stated.specs.Terms.{RegisterLengths, AuthenticateLengths, signed_bytes, HoldsMessage}
use Rattle.signing_stated.proofs.Cases.{four, five}
use Rattle.signing_stated.proofs.Shapes.{from_zeros}
use Rattle.signing_stated.proofs.Fit.{register_order_fit, authenticate_order_fit}
use Rattle.signing_stated.proofs.FieldsKept.{block_of, order_equal, register_to_sign_length, authenticate_to_sign_length}

-- a last field has nothing behind it
last : (s : List ℕ) → s ≡ s ++ []
last s = sym (append-nil s)

-- ---- the key, the presence byte and the counter
key_long : (x y : List ℕ) → length x ≡ 32 → length y ≡ 32 → length (public_key x y) ≡ 65
key_long x y lx ly = simp length-append (omega arith)

pub key_is : (x y : List ℕ) → length x ≡ 32 → length y ≡ 32 → IsKey x y (public_key x y)
key_is x y lx ly =
    record {
      message = record {
        are = ap (λ (l : List ℕ). 0x04 ∷ (x ++ l)) (last y);
        within = (omega arith, omega arith, (omega arith, omega arith, (omega arith, omega arith, omega arith)));
      };
    }

pub is_key : (x y key : List ℕ) → IsKey x y key → key ≡ public_key x y
is_key x y key k = k.message.are ∙ ap (λ (l : List ℕ). 0x04 ∷ (x ++ l)) (append-nil y)

pub counter_is : (n : ℕ) → n < 0x100000000 → IsCounter n (bytes4 n)
counter_is n h =
    record {
      b1 = n / 0x1000000;
      b2 = n / 0x10000 % 256;
      b3 = n / 256 % 256;
      b4 = n % 256;
      are = refl;
      small = (omega arith, omega arith, omega arith, omega arith);
      is = omega arith;
    }

pub presence_same : (b : Bool) → presence_byte b ≡ presence_bit b
presence_same true = refl
presence_same false = refl

pub bit_small : (b : Bool) → presence_bit b ≤ 1
bit_small true = omega arith
bit_small false = omega arith

-- ---- fields one behind the other, as a layout joins them and as a message does
three_then : (a b c : List ℕ) → a ++ b ++ c ≡ a ++ (b ++ (c ++ []))
three_then a b c = append_assoc a b c ∙ ap (λ (l : List ℕ). a ++ (b ++ l)) (last c)

four_then : (a b c d : List ℕ) → a ++ b ++ c ++ d ≡ a ++ (b ++ (c ++ (d ++ [])))
four_then a b c d = four a b c d ∙ ap (λ (l : List ℕ). a ++ (b ++ (c ++ l))) (last d)

five_then : (a b c d e : List ℕ) → a ++ b ++ c ++ d ++ e ≡ a ++ (b ++ (c ++ (d ++ (e ++ []))))
five_then a b c d e = five a b c d e ∙ ap (λ (l : List ℕ). a ++ (b ++ (c ++ (d ++ l)))) (last e)

six_then : (a b c d e f : List ℕ) → a ++ b ++ c ++ d ++ e ++ f ≡ a ++ (b ++ (c ++ (d ++ (e ++ (f ++ [])))))
six_then a b c d e f = append_assoc (a ++ b ++ c ++ d) e f ∙ five a b c d (e ++ f) ∙ ap (λ (l : List ℕ). a ++ (b ++ (c ++ (d ++ (e ++ l))))) (last f)

-- ---- what is signed
module _ (f : RegisterFields) where
  registered : register_to_sign f ≡ 0x00 ∷ [] ++ (f.application ++ (f.challenge ++ (f.handle ++ (public_key f.x f.y ++ []))))
  registered = five_then (0x00 ∷ []) f.application f.challenge f.handle (public_key f.x f.y)

  pub registration_signed_lem : RegisterLengths f → IsMessage (registration_signed f.application f.challenge f.handle (public_key f.x f.y)) (register_to_sign f)
  registration_signed_lem l =
      let key : length (public_key f.x f.y) ≡ 65 = key_long f.x f.y l.x l.y in
      record {
        are = registered;
        within = (
          omega arith,
          omega arith,
          (
            omega (arith, l.application),
            omega (arith, l.application),
            (omega (arith, l.challenge), omega (arith, l.challenge), (omega arith, l.handle, (omega (arith, key), omega (arith, key), omega arith))),
          ),
        );
      }

  -- an order that holds the message is the one that these fields make
  pub registered_order : (o : Order) (c : ℕ) → RegisterLengths f → HoldsMessage Register c (registration_signed f.application f.challenge f.handle (public_key f.x f.y)) o → o ≡ register_order_of f c
  registered_order o c l m =
      let front : signed_bytes o ≡ register_to_sign f = m.message.are ∙ sym registered in
      let long : to_sign o ≡ 130 + length f.handle =
      sym (length-take-le (to_sign o) o.bytes (omega (arith, m.whole, m.within))) ∙ ap length front ∙ register_to_sign_length f l in
      order_equal o (record { kind = Register; to_sign = 130 + length f.handle; certificate_length = c; bytes = block (register_to_sign f) })
      m.of_kind long m.its (block_of o.bytes (to_sign o) m.whole m.within (from_zeros o.bytes (to_sign o) m.rest) ∙ ap block front)
      ∙ sym (register_order_fit f c l)

  pub registration_response_lem : (certificate signature : List ℕ) → RegisterLengths f → length signature ≤ 72
      → IsMessage (registration_response (public_key f.x f.y) f.handle certificate signature) (register_body f certificate signature)
  registration_response_lem certificate signature l short =
      let key : length (public_key f.x f.y) ≡ 65 = key_long f.x f.y l.x l.y in
      record {
        are = six_then (0x05 ∷ []) (public_key f.x f.y) (length f.handle ∷ []) f.handle certificate signature;
        within = (
          omega arith,
          omega arith,
          (
            omega (arith, key),
            omega (arith, key),
            (omega arith, omega arith, (omega arith, l.handle, (omega arith, omega arith, (omega arith, short, omega arith)))),
          ),
        );
      }

module _ (f : AuthenticateFields) where
  signed : authenticate_to_sign f ≡ f.application ++ (f.presence ∷ [] ++ (f.counter ++ (f.challenge ++ [])))
  signed = four_then f.application (f.presence ∷ []) f.counter f.challenge

  pub authentication_signed_lem : AuthenticateLengths f → IsMessage (authentication_signed f.application f.presence f.counter f.challenge) (authenticate_to_sign f)
  authentication_signed_lem l =
      record {
        are = signed;
        within = (
          omega (arith, l.application),
          omega (arith, l.application),
          (
            omega arith,
            omega arith,
            (omega (arith, l.counter), omega (arith, l.counter), (omega (arith, l.challenge), omega (arith, l.challenge), omega arith)),
          ),
        );
      }

  pub signed_order : (o : Order) → AuthenticateLengths f → HoldsMessage Authenticate 0 (authentication_signed f.application f.presence f.counter f.challenge) o → o ≡ authenticate_order_of f
  signed_order o l m =
      let front : signed_bytes o ≡ authenticate_to_sign f = m.message.are ∙ sym signed in
      let long : to_sign o ≡ 69 =
      sym (length-take-le (to_sign o) o.bytes (omega (arith, m.whole, m.within))) ∙ ap length front ∙ authenticate_to_sign_length f l in
      order_equal o (record { kind = Authenticate; to_sign = 69; certificate_length = 0; bytes = block (authenticate_to_sign f) })
      m.of_kind long m.its (block_of o.bytes (to_sign o) m.whole m.within (from_zeros o.bytes (to_sign o) m.rest) ∙ ap block front)
      ∙ sym (authenticate_order_fit f l)

  pub authentication_response_lem : (signature : List ℕ) → AuthenticateLengths f → length signature ≤ 72
      → IsMessage (authentication_response f.presence f.counter signature) (authenticate_body f signature)
  authentication_response_lem signature l short =
      record {
        are = three_then (f.presence ∷ []) f.counter signature;
        within = (omega arith, omega arith, (omega (arith, l.counter), omega (arith, l.counter), (omega arith, short, omega arith)));
      }
