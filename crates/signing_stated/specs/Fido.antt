-- FIDO U2F Raw Message Formats v1.2: what is signed at a registration and at an authentication, and the response message to each, as that
-- document has them: tables of fields, one behind the other, each with the bytes that it may take. Written from the public text, apart from document
-- 01's layouts (Layouts.antt) and places.
use Rattle.std.specs.Prelude.{ℕ, ◌+◌, ◌*◌, ◌≤◌, Bool, true, false, ◌≡◌, List, [], ◌∷◌, ◌++◌, length}

-- a field: its bytes, the least and the most that it takes
pub record Field : Type 0 where
  pub bytes : List ℕ
  pub least : ℕ
  pub most : ℕ

-- of so many bytes; of none up to so many
abbrev pub exactly : ℕ → List ℕ → Field
exactly n bytes = record { bytes = bytes; least = n; most = n }

abbrev pub up_to : ℕ → List ℕ → Field
up_to n bytes = record { bytes = bytes; least = 0; most = n }

-- the fields one behind the other
abbrev pub joined : List Field → List ℕ
joined [] = []
joined (f ∷ fields) = f.bytes ++ joined fields

-- each field has a length that it may have
abbrev pub Within : List Field → Type 0
Within [] = 0 ≤ 0
Within (f ∷ fields) = (f.least ≤ length f.bytes) × (length f.bytes ≤ f.most) × Within fields

-- `IsMessage fields m`: m is these fields, and nothing else
pub record IsMessage (fields : List Field) (m : List ℕ) : Type 0 where
  pub are : m ≡ joined fields
  pub within : Within fields

-- the user public key: an uncompressed point, 04 and then x and y
pub record IsKey (x y key : List ℕ) : Type 0 where
  pub message : IsMessage (exactly 1 (0x04 ∷ []) ∷ exactly 32 x ∷ exactly 32 y ∷ []) key

-- the counter, 4 bytes, big-endian
pub record IsCounter (n : ℕ) (bytes : List ℕ) : Type 0 where
  pub b1 : ℕ
  pub b2 : ℕ
  pub b3 : ℕ
  pub b4 : ℕ
  pub are : bytes ≡ b1 ∷ b2 ∷ b3 ∷ b4 ∷ []
  pub small : (b1 ≤ 255) × (b2 ≤ 255) × (b3 ≤ 255) × (b4 ≤ 255)
  pub is : n ≡ b1 * 0x1000000 + b2 * 0x10000 + b3 * 0x100 + b4

-- the user presence byte: bit 0 says that presence was verified, the others are 0
abbrev pub presence_bit : Bool → ℕ
presence_bit true = 0x01
presence_bit false = 0x00

-- ---- registration

-- signed with the attestation key
abbrev pub registration_signed : (application challenge handle key : List ℕ) → List Field
registration_signed application challenge handle key =
    exactly 1 (0x00 ∷ [])  -- reserved
    ∷ exactly 32 application  -- the application parameter
    ∷ exactly 32 challenge  -- the challenge parameter
    ∷ up_to 255 handle  -- the key handle
    ∷ exactly 65 key  -- the user public key
    ∷ []

-- the response message; the certificate's length is its own (X.509 in DER)
abbrev pub registration_response : (key handle certificate signature : List ℕ) → List Field
registration_response key handle certificate signature =
    exactly 1 (0x05 ∷ [])  -- reserved
    ∷ exactly 65 key
    ∷ exactly 1 (length handle ∷ [])  -- the key handle's length
    ∷ up_to 255 handle
    ∷ exactly (length certificate) certificate  -- the attestation certificate
    ∷ up_to 72 signature
    ∷ []

-- ---- authentication

-- signed with the user's key
abbrev pub authentication_signed : (application : List ℕ) (presence : ℕ) (counter challenge : List ℕ) → List Field
authentication_signed application presence counter challenge =
    exactly 32 application
    ∷ exactly 1 (presence ∷ [])  -- the user presence byte
    ∷ exactly 4 counter
    ∷ exactly 32 challenge
    ∷ []

-- the response message
abbrev pub authentication_response : (presence : ℕ) (counter signature : List ℕ) → List Field
authentication_response presence counter signature =
    exactly 1 (presence ∷ [])
    ∷ exactly 4 counter
    ∷ up_to 72 signature
    ∷ []
