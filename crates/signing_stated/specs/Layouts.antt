-- Document 01, 'The decision', from "A signing order holds its kind": what is signed and what is sent, as FIDO U2F Raw
-- Message Formats 1.2 lays them out: byte strings, field after field, each field by its name.
use Rattle.std.specs.Prelude.{ℕ, Bool, ◌&&◌, List, [], ◌∷◌, ◌++◌, eqb, leb, length}
use Rattle.outcome.specs.Notation.{when◌then◌else◌}

-- what goes into a Register order
pub record RegisterFields : Type 0 where
  pub application : List ℕ
  pub challenge : List ℕ
  pub handle : List ℕ
  pub x : List ℕ
  pub y : List ℕ

-- what goes into an Authenticate order
pub record AuthenticateFields : Type 0 where
  pub application : List ℕ
  pub presence : ℕ
  pub counter : List ℕ
  pub challenge : List ℕ

-- 01: "public key (04, x, y)"; FIDO: user public key, 65 bytes
abbrev pub public_key : (x y : List ℕ) → List ℕ
public_key x y = 0x04 ∷ [] ++ x ++ y

-- 01: "Register, 130 + h: 00, application, challenge, handle, public key (04, x, y)"
abbrev pub register_to_sign : RegisterFields → List ℕ
register_to_sign f =
    0x00 ∷ []
    ++ f.application  -- 32
    ++ f.challenge  -- 32
    ++ f.handle  -- h
    ++ public_key f.x f.y  -- 65

-- 01: "Authenticate, 69: application, presence byte .., counter (4, big-endian), challenge"
abbrev pub authenticate_to_sign : AuthenticateFields → List ℕ
authenticate_to_sign f =
    f.application  -- 32
    ++ f.presence ∷ []  -- 1
    ++ f.counter  -- 4
    ++ f.challenge  -- 32

-- 01: "Register 05, public key, h in one byte, handle, certificate, signature"
abbrev pub register_body : RegisterFields → (certificate signature : List ℕ) → List ℕ
register_body f certificate signature =
    0x05 ∷ []
    ++ public_key f.x f.y  -- 65
    ++ length f.handle ∷ []  -- 1
    ++ f.handle  -- h
    ++ certificate  -- c
    ++ signature  -- 0 to 72

-- 01: "Authenticate presence byte, counter, signature"
abbrev pub authenticate_body : AuthenticateFields → (signature : List ℕ) → List ℕ
authenticate_body f signature =
    f.presence ∷ []  -- 1
    ++ f.counter  -- 4
    ++ signature  -- 0 to 72

-- 01: "presence byte (01 for P1 03, 00 for 08)"
abbrev pub presence_byte : Bool → ℕ
presence_byte present = when present then 0x01 else 0x00

-- the lengths that the two layouts have room for; FIDO: key handle 0 to 255
abbrev pub is_register_fit : RegisterFields → Bool
is_register_fit f =
    eqb (length f.application) 32
    && eqb (length f.challenge) 32
    && leb (length f.handle) 255
    && eqb (length f.x) 32
    && eqb (length f.y) 32

abbrev pub is_authenticate_fit : AuthenticateFields → Bool
is_authenticate_fit f =
    eqb (length f.application) 32
    && leb f.presence 1
    && eqb (length f.counter) 4
    && eqb (length f.challenge) 32
