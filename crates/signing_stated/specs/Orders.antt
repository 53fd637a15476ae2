-- Document 01, 'The decision': "A signing order holds its kind, the number of bytes to sign, the certificate length (0 for
-- Authenticate), and the bytes to sign in a block of 385 bytes, zero after their end". Covered: the order that given
-- fields make; the layout tests behind R7 ('Refusal numbers'); and the fields that an order of its layout holds.
use Rattle.std.specs.Prelude.{ℕ, ◌+◌, ◌-◌, Bool, not, ◌&&◌, List, [], eqb, leb, length, take, drop, replicate}
use Rattle.outcome.specs.Notation.{when◌then◌else◌}
use Rattle.octets.specs.Bytes.{byte, laid, all_zero, bytes4}
pub use Rattle.signing_stated.specs.Words.{Kind, Register, Authenticate, Head, Order, head_of, order_with}
pub use Rattle.signing_stated.specs.Replies.{to_sign, certificate_length}
use Rattle.signing_stated.specs.Layouts.{RegisterFields, AuthenticateFields, register_to_sign, authenticate_to_sign, presence_byte, is_register_fit, is_authenticate_fit}

-- ours: DECISIONS, kind numbers: the INS of the command that the order answers
abbrev pub kind_no : Kind → ℕ
kind_no Register = 0x01
kind_no Authenticate = 0x02

-- 01: "in a block of 385 bytes, zero after their end"
unfoldable pub block : List ℕ → List ℕ
block s = laid s (replicate 385 0x00)

-- ours: DECISIONS, blank order: what stands in an answer without an order
unfoldable pub blank_order : Order
blank_order = record { kind = Register; to_sign = 0; certificate_length = 0; bytes = block [] }

-- 01: "Register, 130 + h". Ours: DECISIONS, blank order: fields that the layout has no room for make no order
unfoldable pub register_order_of : RegisterFields → ℕ → Order
register_order_of f certificate =
    when not (is_register_fit f) then blank_order
    else record {
      kind = Register;
      to_sign = 130 + length f.handle;
      certificate_length = certificate;
      bytes = block (register_to_sign f);
    }

-- 01: "Authenticate, 69", "the certificate length (0 for Authenticate)"
unfoldable pub authenticate_order_of : AuthenticateFields → Order
authenticate_order_of f =
    when not (is_authenticate_fit f) then blank_order
    else record {
      kind = Authenticate;
      to_sign = 69;
      certificate_length = 0;
      bytes = block (authenticate_to_sign f);
    }

-- 01, R7: "order not of either layout: length, first byte, 04 marker, presence byte, zero tail, or an Authenticate order
-- with certificate length not 0". Judged against the order's kind: DECISIONS, "R7".
unfoldable pub is_register_layout : (size : ℕ) (bytes : List ℕ) → Bool
is_register_layout size bytes =
    leb 130 size && leb size 385  -- length
    && eqb (byte bytes 0) 0x00  -- first byte
    && eqb (byte bytes (size - 65)) 0x04  -- 04 marker; size is 130 or more
    && all_zero (drop size bytes)  -- zero tail

unfoldable pub is_authenticate_layout : (size certificate : ℕ) (bytes : List ℕ) → Bool
is_authenticate_layout size certificate bytes =
    eqb size 69  -- length
    && leb (byte bytes 32) 0x01  -- presence byte
    && all_zero (drop 69 bytes)  -- zero tail
    && eqb certificate 0  -- certificate length

abbrev pub is_layout : Kind → Order → Bool
is_layout Register o = is_register_layout (to_sign o) o.bytes
is_layout Authenticate o = is_authenticate_layout (to_sign o) (certificate_length o) o.bytes

abbrev pub is_of_layout : Order → Bool
is_of_layout o = is_layout o.kind o

-- the fields of a Register order of its layout, whose length is 130 or more: `take n (drop i bytes)` is the n bytes from
-- place i on
abbrev pub register_fields_of : (size : ℕ) (bytes : List ℕ) → RegisterFields
register_fields_of size bytes =
    record {
      application = take 32 (drop 1 bytes);
      challenge = take 32 (drop 33 bytes);
      handle = take (size - 130) (drop 65 bytes);
      x = take 32 (drop (size - 64) bytes);
      y = take 32 (drop (size - 32) bytes);
    }

-- the fields of an Authenticate order of its layout
abbrev pub authenticate_fields_of : (bytes : List ℕ) → AuthenticateFields
authenticate_fields_of bytes =
    record {
      application = take 32 bytes;
      presence = byte bytes 32;
      counter = take 4 (drop 33 bytes);
      challenge = take 32 (drop 37 bytes);
    }

-- what an Authenticate order is made of, as the decision has it: whether somebody touched, and the counter as a number
pub record AuthenticateParts : Type 0 where
  pub application : List ℕ
  pub challenge : List ℕ
  pub present : Bool
  pub counter : ℕ

-- 01: "presence byte (01 for P1 03, 00 for 08), counter (4, big-endian)"
abbrev pub fields_for : AuthenticateParts → AuthenticateFields
fields_for p = record { application = p.application; presence = presence_byte p.present; counter = bytes4 p.counter; challenge = p.challenge }

abbrev pub authenticate_order_for : AuthenticateParts → Order
authenticate_order_for p = authenticate_order_of (fields_for p)
