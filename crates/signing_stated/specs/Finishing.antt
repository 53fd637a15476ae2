-- Document 01, 'The decision', from "Finishing takes order, certificate, signer's answer and reply buffer", and
-- 'Refusal numbers': "A 9000 body fills the front of the buffer; the rest stays".
use Rattle.std.specs.Prelude.{ℕ, ◌+◌, ◌-◌, ◌≤◌, not, ◌≡◌, List, eqb, ltb, length}
use Rattle.outcome.specs.Notation.{when◌then◌else◌}
use Rattle.outcome.specs.Outcome.{Outcome, R, Word, SW, Gives}
use Rattle.outcome.specs.NotDone.{not_done_of}
use Rattle.octets.specs.Bytes.{laid}
use Rattle.signing_stated.specs.Orders.{Kind, Register, Authenticate, Head, Order, head_of, to_sign, certificate_length, is_of_layout, register_fields_of, authenticate_fields_of}
use Rattle.signing_stated.specs.Layouts.{register_body, authenticate_body}
pub use Rattle.signing_stated.specs.Words.{Finished, NotDone, Refused, Status, Ok, Err}
pub use Rattle.signing_stated.specs.Replies.{Finishing, Ended}

-- 01: "R2 (139 + h + c, or 77)"
abbrev pub register_room : (h c : ℕ) → ℕ
register_room h c = 139 + h + c

abbrev pub authenticate_room : ℕ
authenticate_room = 77

-- the room that an order of its layout asks for. A Register order has 130 + h to sign, so h is what it has over 130
abbrev pub room_of : Kind → Head → ℕ
room_of Register h = register_room (h.to_sign - 130) h.certificate_length
room_of Authenticate h = authenticate_room

abbrev pub room_needed : Order → ℕ
room_needed o = room_of o.kind (head_of o)

-- what the layout tests have seen of the number of bytes to sign: in a Register order it counts the handle's from 130 on
abbrev pub CountsHandle : Kind → (size : ℕ) → Type 0
CountsHandle kind size = kind ≡ Register → 130 ≤ size

-- the body that an order of its layout comes to
abbrev pub body_of : Kind → Order → (certificate signature : List ℕ) → List ℕ
body_of Register o certificate signature = register_body (register_fields_of (to_sign o) o.bytes) certificate signature
body_of Authenticate o certificate signature = authenticate_body (authenticate_fields_of o.bytes) signature

-- 01: "Checks: R7, R4, R2 (139 + h + c, or 77), signer failed 6f00, R3"
unfoldable pub finish_of : Finishing → Outcome (List ℕ)
finish_of i =
    let o = i.order in
    when not (is_of_layout o) then R 7
    else when not (eqb (length i.certificate) (certificate_length o)) then R 4
    else when ltb (length i.reply) (room_needed o) then R 2
    else when not i.signed then SW 0x6f00
    else when ltb 72 (length i.signature) then R 3
    else Gives (body_of o.kind o i.certificate i.signature)

-- an R refusal, a status word, or 9000 with a body of n bytes
abbrev pub finished_of : Finished → Outcome ℕ
finished_of (Err why) = not_done_of why
finished_of (Ok n) = Gives n

-- the answer says the body's length
abbrev pub length_of : Outcome (List ℕ) → Outcome ℕ
length_of (R n) = R n
length_of (Word s) = Word s
length_of (Gives body) = Gives (length body)

-- 01: "A 9000 body fills the front of the buffer; the rest stays"; every other answer leaves the buffer as it was
abbrev pub reply_of : Outcome (List ℕ) → List ℕ → List ℕ
reply_of (R n) old = old
reply_of (Word s) old = old
reply_of (Gives body) old = laid body old

abbrev pub end_of : Finishing → Ended
end_of i = record { answer = length_of (finish_of i); reply = reply_of (finish_of i) i.reply }
