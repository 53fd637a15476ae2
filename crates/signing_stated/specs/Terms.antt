-- Words that the claims use: lengths that fit, orders of a layout, and those of Replies.antt. Numbers are document 01's, spelled out again,
-- and not the definitions' words.
use Rattle.std.specs.Prelude.{ℕ, ◌≤◌, true, ◌≡◌, List, ◌++◌, length, take, drop, replicate}
use Rattle.octets.specs.Bytes.{byte, all_zero}
use Rattle.signing_stated.specs.Fido.{Field, IsMessage, IsKey, IsCounter, presence_bit, registration_signed, authentication_signed}
use Rattle.signing_stated.specs.Layouts.{RegisterFields, AuthenticateFields, public_key, is_register_fit, is_authenticate_fit}
use Rattle.signing_stated.specs.Orders.{Kind, Register, Order, AuthenticateParts, to_sign, certificate_length, register_order_of, authenticate_order_of}
pub use Rattle.signing_stated.specs.Replies.{bytes_at, IsWhole, RegisterShaped, AuthenticateShaped, NeedsRoom, register, authenticate, OfLayout, keeping}

-- ---- fields that fit their layout
pub record RegisterLengths (f : RegisterFields) : Type 0 where
  pub application : length f.application ≡ 32
  pub challenge : length f.challenge ≡ 32
  pub handle : length f.handle ≤ 255
  pub x : length f.x ≡ 32
  pub y : length f.y ≡ 32

pub record AuthenticateLengths (f : AuthenticateFields) : Type 0 where
  pub application : length f.application ≡ 32
  pub presence : f.presence ≤ 1
  pub counter : length f.counter ≡ 4
  pub challenge : length f.challenge ≡ 32

pub record PartsLengths (p : AuthenticateParts) : Type 0 where
  pub application : length p.application ≡ 32
  pub challenge : length p.challenge ≡ 32

-- ---- orders
-- ours: DECISIONS, blank order: no kind's bytes, nothing to sign, zeros throughout
pub record IsBlank (o : Order) : Type 0 where
  pub kind : o.kind ≡ Register
  pub counts : to_sign o ≡ 0
  pub certificate : certificate_length o ≡ 0
  pub zeros : o.bytes ≡ replicate 385 0x00

-- an order of a layout: one that fields of the right lengths make
abbrev pub IsRegisterOrder : Order → Type 0
IsRegisterOrder o = (f : RegisterFields) × (c : ℕ) × (is_register_fit f ≡ true) × (o ≡ register_order_of f c)

abbrev pub IsAuthenticateOrder : Order → Type 0
IsAuthenticateOrder o = (f : AuthenticateFields) × (is_authenticate_fit f ≡ true) × (o ≡ authenticate_order_of f)

-- `HoldsJust s n o`: the order o has n bytes to sign, they are s, and zeros follow
abbrev pub HoldsJust : List ℕ → ℕ → Order → Type 0
HoldsJust s n o = (to_sign o ≡ n) × (take n o.bytes ≡ s) × (all_zero (drop n o.bytes) ≡ true)

-- the bytes to sign of an order
abbrev pub signed_bytes : Order → List ℕ
signed_bytes o = take (to_sign o) o.bytes

-- s is FIDO's message of these fields: what is signed at a registration, and at an authentication
abbrev pub IsEnrolment : RegisterFields → (s : List ℕ) → Type 0
IsEnrolment f s = (key : List ℕ) × IsKey f.x f.y key × IsMessage (registration_signed f.application f.challenge f.handle key) s

abbrev pub IsLogin : AuthenticateParts → (s : List ℕ) → Type 0
IsLogin p s =
    (counter : List ℕ) × IsCounter p.counter counter × IsMessage (authentication_signed p.application (presence_bit p.present) counter p.challenge) s

-- fields whose handle goes on with the key of f, and another key behind it
abbrev pub longer : RegisterFields → (x y : List ℕ) → RegisterFields
longer f x y = record { application = f.application; challenge = f.challenge; handle = f.handle ++ public_key f.x f.y; x = x; y = y }

-- `HoldsMessage kind certificate fields o`: an order of this kind and certificate length, whose bytes to sign are a message of these fields, with zeros behind
-- them up to the block's end
pub record HoldsMessage (kind : Kind) (certificate : ℕ) (fields : List Field) (o : Order) : Type 0 where
  pub of_kind : o.kind ≡ kind
  pub its : certificate_length o ≡ certificate
  pub whole : IsWhole o
  pub within : to_sign o ≤ 385
  pub message : IsMessage fields (signed_bytes o)
  pub rest : (i : ℕ) → to_sign o ≤ i → byte o.bytes i ≡ 0x00
