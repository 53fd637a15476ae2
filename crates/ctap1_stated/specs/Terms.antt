-- Words that only the claims use: conditions, and orders spelled out; those of Table.antt among them.
use Rattle.std.specs.Prelude.{◌⊎◌, ◌≡◌}
use Rattle.ctap1_stated.specs.Words.{when◌then◌else◌, Gives, ℕ, Bool, false, List, length, Order, Inputs, Enrolment, Ordered, Decision, DecisionResult, Allowed}
use Rattle.ctap1_stated.specs.declared.Allowed.TheVariants as Allowed'
use Rattle.octets.specs.Bytes.{byte}
use Rattle.apdu_stated.specs.Answers.{Says}
use Rattle.apdu_stated.specs.Reading.{read_of}
use Rattle.signing_stated.specs.Orders.{kind_no}
pub use Rattle.ctap1_stated.specs.Words.{Decider}
pub use Rattle.ctap1_stated.specs.Table.{result, moved_at, spent_at, prompted_at, order_of_register, order_of_authenticate, Comes, Fetching, room_of_register, Registering, Signing, OwnTouch, OthersTouch}

-- x and y are lent as blocks of 32 bytes; a definition over lists has to say so
abbrev pub AreBlocks : Inputs → Type 0
AreBlocks a = (length a.x ≡ 32) × (length a.y ≡ 32)

-- what is lent, with another side named
abbrev pub on_side : (side : ℕ) → Inputs → Inputs
on_side s a =
    record { side = s; frame = a.frame; hardware = a.hardware; new_handle = a.new_handle; certificate = a.certificate; x = a.x; y = a.y; room = a.room; remainder = a.remainder; part_room = a.part_room }

-- what is lent, with other contents of the new handle, the certificate, x and y
abbrev pub with_contents : Enrolment → Inputs → Inputs
with_contents e a =
    record { side = a.side; frame = a.frame; hardware = a.hardware; new_handle = e.new_handle; certificate = e.certificate; x = e.x; y = e.y; room = a.room; remainder = a.remainder; part_room = a.part_room }

-- these contents are as long as what is lent
pub record AsLong (e : Enrolment) (a : Inputs) : Type 0 where
  pub new_handle : length e.new_handle ≡ length a.new_handle
  pub certificate : length e.certificate ≡ length a.certificate
  pub x : length e.x ≡ length a.x
  pub y : length e.y ≡ length a.y

-- a shaped frame with INS C0, whatever it is answered
abbrev pub HasInsC0 : Inputs → Type 0
HasInsC0 a = (said : Says) × (read_of a.frame ≡ Gives said) × (said.header.ins ≡ 0xC0)

-- ---- what functions hand back: no order, and nothing taken; and the lent block, written for an order alone
abbrev pub HandsNoOrder : Decision → Type 0
HandsNoOrder r = (kind_no r.order.kind ≡ 0x01) × (r.order.to_sign ≡ 0) × (r.order.certificate_length ≡ 0) × (r.taken ≡ false)

abbrev pub BlockWritten : DecisionResult → (old block : List ℕ) → Type 0
BlockWritten d old block = (d.answer ≡ Gives Ordered → block ≡ d.order.bytes) × ((d.answer ≡ Gives Ordered → ⊥) → block ≡ old)

-- ---- an order that says a person was there: a Register order, or an Authenticate order with presence byte 01
abbrev pub SaysPresent : Order → Type 0
SaysPresent o = (kind_no o.kind ≡ 0x01) ⊎ ((kind_no o.kind ≡ 0x02) × (byte o.bytes 32 ≡ 0x01))

abbrev pub OrdersPresent : DecisionResult → Type 0
OrdersPresent r = (r.answer ≡ Gives Ordered) × SaysPresent r.order

-- ---- check-only: said from whether CTAP1 is allowed and whether the handle is good
abbrev pub check_only_answer : Allowed → Bool → ℕ
check_only_answer Allowed'.Failed good = 0x6f00
check_only_answer Allowed'.No good = 0x6986
check_only_answer Allowed'.Yes good = when good then 0x6985 else 0x6a80
