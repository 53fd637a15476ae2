-- A signing order, and what finishing makes of it, byte by byte. Document 01, 'The decision', from "A signing order holds its kind" on. Terms
-- first; the claim, `FinishesExactly`, last.
mod Words
use Words.*

-- "the number of bytes to sign, the certificate length .., and the bytes to sign in a block of 385 bytes"
pub record Order : Type 0 where
  pub kind : Kind  -- Register or Authenticate
  pub to_sign : ℕ
  pub certificate_length : ℕ
  pub bytes : List ℕ  -- the block

abbrev pub to_sign : Order → ℕ
to_sign o = o.to_sign

abbrev pub certificate_length : Order → ℕ
certificate_length o = o.certificate_length

-- a block in memory has 385 bytes; a list may have any number, so it has to be said
abbrev pub IsWhole : Order → Type 0
IsWhole o = length o.bytes ≡ 385

-- what finishing is lent
pub record Finishing : Type 0 where
  pub order : Order
  pub certificate : List ℕ
  pub signed : Bool  -- the signer did not fail
  pub signature : List ℕ
  pub reply : List ℕ  -- the reply buffer before the call

-- what finishing comes to: its answer, which says the body's length, and the reply buffer after the call
pub record Ended : Type 0 where
  pub answer : Outcome ℕ
  pub reply : List ℕ

-- this answer, and the reply buffer as it was
abbrev pub keeping : Outcome ℕ → Finishing → Ended
keeping answer i = record { answer = answer; reply = i.reply }

-- `bytes_at from count s`: count bytes of s, the first at place from
abbrev pub bytes_at : (from count : ℕ) → List ℕ → List ℕ
bytes_at from count s = take count (drop from s)

-- What is not R7: "order not of either layout: length, first byte, 04 marker, presence byte, zero tail, or an Authenticate order with
-- certificate length not 0". A Register order with a handle of h bytes, "Register, 130 + h: 00, application, challenge, handle, public key
-- (04, x, y)":
pub record RegisterShaped (h : ℕ) (o : Order) : Type 0 where
  pub kind : o.kind ≡ Register
  pub counts : to_sign o ≡ 130 + h
  pub handle : h ≤ 255
  pub first : byte o.bytes 0 ≡ 0x00
  pub marker : byte o.bytes (65 + h) ≡ 0x04
  pub rest : (i : ℕ) → 130 + h ≤ i → byte o.bytes i ≡ 0x00

-- "Authenticate, 69: application, presence byte .., counter (4, big-endian), challenge"
pub record AuthenticateShaped (o : Order) : Type 0 where
  pub kind : o.kind ≡ Authenticate
  pub counts : to_sign o ≡ 69
  pub presence : (byte o.bytes 32 ≡ 0x00) ⊎ (byte o.bytes 32 ≡ 0x01)
  pub rest : (i : ℕ) → 69 ≤ i → byte o.bytes i ≡ 0x00
  pub no_certificate : certificate_length o ≡ 0

-- `NeedsRoom o n`: an order of one of the layouts, and the room that it asks for. "R2 (139 + h + c, or 77)"
pub data NeedsRoom (o : Order) : ℕ → Type 0 where
  register : (h : ℕ) → RegisterShaped h o → NeedsRoom o (139 + h + certificate_length o)
  authenticate : AuthenticateShaped o → NeedsRoom o 77

abbrev pub OfLayout : Order → Type 0
OfLayout o = (room : ℕ) × NeedsRoom o room

-- On any order, each check once those before it have passed: "Checks: R7, R4, R2 (139 + h + c, or 77), signer failed 6f00, R3"; then "Bodies,
-- status 9000: Register 05, public key, h in one byte, handle, certificate, signature; Authenticate presence byte, counter, signature". A
-- body "fills the front of the buffer; the rest stays", and every other answer leaves the buffer.
pub record FinishesExactly (finish : Finishing → Ended) : Type 0 where
  pub r7 : (i : Finishing) → (OfLayout i.order → ⊥) → finish i ≡ keeping (R 7) i
  pub r4 : (i : Finishing) → OfLayout i.order
      → (length i.certificate ≡ certificate_length i.order → ⊥) → finish i ≡ keeping (R 4) i
  pub r2 : (i : Finishing) (room : ℕ) → NeedsRoom i.order room → length i.certificate ≡ certificate_length i.order
      → length i.reply < room → finish i ≡ keeping (R 2) i
  pub signer_failed : (i : Finishing) (room : ℕ) → NeedsRoom i.order room
      → length i.certificate ≡ certificate_length i.order → room ≤ length i.reply
      → i.signed ≡ false → finish i ≡ keeping (SW 0x6f00) i
  pub r3 : (i : Finishing) (room : ℕ) → NeedsRoom i.order room → length i.certificate ≡ certificate_length i.order
      → room ≤ length i.reply → i.signed ≡ true → 72 < length i.signature → finish i ≡ keeping (R 3) i
  pub register_body : (i : Finishing) (h : ℕ) → IsWhole i.order → RegisterShaped h i.order
      → length i.certificate ≡ certificate_length i.order
      → 139 + h + length i.certificate ≤ length i.reply → i.signed ≡ true → length i.signature ≤ 72
      → finish i
      ≡ record {
        answer = Gives (67 + h + length i.certificate + length i.signature);
        reply =
            0x05 ∷ 0x04 ∷ []
            ++ bytes_at (66 + h) 64 i.order.bytes  -- x and y
            ++ h ∷ []
            ++ bytes_at 65 h i.order.bytes  -- the handle
            ++ i.certificate
            ++ i.signature
            ++ drop (67 + h + length i.certificate + length i.signature) i.reply;
      }
  pub authenticate_body : (i : Finishing) → IsWhole i.order → AuthenticateShaped i.order → length i.certificate ≡ 0
      → 77 ≤ length i.reply → i.signed ≡ true → length i.signature ≤ 72
      → finish i
      ≡ record {
        answer = Gives (5 + length i.signature);
        reply =
            bytes_at 32 5 i.order.bytes  -- presence byte and counter
            ++ i.signature
            ++ drop (5 + length i.signature) i.reply;
      }
