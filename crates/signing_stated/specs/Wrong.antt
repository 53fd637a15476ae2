-- Wrong programs, one fault each, said as what they do otherwise than the definition. proofs/Refuted.antt has that each fails
-- its claim.
use Rattle.std.specs.Prelude.{ℕ, ◌+◌, ◌-◌, ◌/◌, ◌%◌, Bool, true, not, ◌&&◌, List, [], ◌∷◌, ◌++◌, eqb, leb, ltb, length, take, drop, replicate}
use Rattle.outcome.specs.Notation.{when◌then◌else◌}
use Rattle.outcome.specs.Outcome.{Outcome, R, Word, SW, Gives, word_of, refusal_no}
use Rattle.outcome.specs.declared.Refusal.TheVariants.{R1, R2, R3, R4, R5, R6, R7, R8}
use Rattle.octets.specs.Bytes.{byte, laid, bytes4}
use Rattle.signing_stated.specs.Layouts.{RegisterFields, register_to_sign, register_body, presence_byte}
use Rattle.signing_stated.specs.Orders.{Kind, Register, Authenticate, Order, AuthenticateParts, kind_no, to_sign, certificate_length, block, register_order_of, authenticate_order_of, authenticate_order_for, is_of_layout, register_fields_of}
use Rattle.signing_stated.specs.Finishing.{Finishing, Finished, Refused, Status, Ok, Err, Ended, end_of, finish_of, register_room, room_needed, body_of}
use Rattle.signing_stated.specs.Terms.{keeping}

-- ---- numbers
-- DECISIONS, kind numbers: both kinds under 01
abbrev pub kinds_alike : Kind → ℕ
kinds_alike kind = 0x01

-- and each under the other's INS
abbrev pub kinds_turned : Kind → ℕ
kinds_turned Register = 0x02
kinds_turned Authenticate = 0x01

-- 01, 'Refusal numbers': R4 said as R2
abbrev pub r4_said_as_r2 : Finished → Outcome ℕ
r4_said_as_r2 (Err (Refused R1)) = R 1
r4_said_as_r2 (Err (Refused R2)) = R 2
r4_said_as_r2 (Err (Refused R3)) = R 3
r4_said_as_r2 (Err (Refused R4)) = R 2
r4_said_as_r2 (Err (Refused R5)) = R 5
r4_said_as_r2 (Err (Refused R6)) = R 6
r4_said_as_r2 (Err (Refused R7)) = R 7
r4_said_as_r2 (Err (Refused R8)) = R 8
r4_said_as_r2 (Err (Status s)) = Word (word_of s)
r4_said_as_r2 (Ok n) = Gives n

-- one number for every status word
abbrev pub always6f00 : Finished → Outcome ℕ
always6f00 (Err (Refused why)) = R (refusal_no why)
always6f00 (Err (Status s)) = SW 0x6f00
always6f00 (Ok n) = Gives n

-- ---- orders
-- DECISIONS, blank order: a certificate length where there is no order
abbrev pub blank_of_one : Order
blank_of_one = record { kind = Register; to_sign = 0; certificate_length = 1; bytes = replicate 385 0x00 }

-- R7: "order not of either layout": zeros that are an Authenticate order
abbrev pub blank_of69 : Order
blank_of69 = record { kind = Authenticate; to_sign = 69; certificate_length = 0; bytes = replicate 385 0x00 }

-- "00, application, challenge, handle, public key (04, x, y)": the order of the request, not of the bytes to sign
abbrev pub register_challenge_first : RegisterFields → ℕ → Order
register_challenge_first f c =
    register_order_of (record { application = f.challenge; challenge = f.application; handle = f.handle; x = f.x; y = f.y }) c

-- "public key (04, x, y)": x and y alone
abbrev pub drops_marker : RegisterFields → ℕ → Order
drops_marker f c =
    record {
      kind = Register;
      to_sign = 129 + length f.handle;
      certificate_length = c;
      bytes = block (0x00 ∷ [] ++ f.application ++ f.challenge ++ f.handle ++ f.x ++ f.y);
    }

-- "in a block of 385 bytes"
abbrev pub block_of384 : RegisterFields → ℕ → Order
block_of384 f c =
    record {
      kind = Register;
      to_sign = 130 + length f.handle;
      certificate_length = c;
      bytes = laid (register_to_sign f) (replicate 384 0x00);
    }

-- "6f00 if .. h > 255": a handle whose length takes more than one byte
abbrev pub handle_of256 : RegisterFields → ℕ → Order
handle_of256 f c =
    when eqb (length f.handle) 256
    then record { kind = Register; to_sign = 386; certificate_length = c; bytes = block (register_to_sign f) }
    else register_order_of f c

-- "the certificate length": one more than was lent
abbrev pub certificate_one_more : RegisterFields → ℕ → Order
certificate_one_more f c = register_order_of f (c + 1)

-- "Register, 130 + h": the last byte of y is not counted
abbrev pub counts_one_less : RegisterFields → ℕ → Order
counts_one_less f c =
    record {
      kind = Register;
      to_sign = 129 + length f.handle;
      certificate_length = c;
      bytes = block (register_to_sign f);
    }

-- "Authenticate, 69: application, presence byte .., challenge": application and challenge swapped
abbrev pub authenticate_challenge_first : AuthenticateParts → Order
authenticate_challenge_first p =
    authenticate_order_for (record { application = p.challenge; challenge = p.application; present = p.present; counter = p.counter })

-- "presence byte (01 for P1 03, 00 for 08)": P1 08 signed as if somebody had touched the panel
abbrev pub presence_always01 : AuthenticateParts → Order
presence_always01 p =
    authenticate_order_for (record { application = p.application; challenge = p.challenge; present = true; counter = p.counter })

-- "counter (4, big-endian)": the low byte first
abbrev pub counter_little_endian : AuthenticateParts → Order
counter_little_endian p =
    authenticate_order_of
    (record {
      application = p.application;
      presence = presence_byte p.present;
      counter = p.counter % 256 ∷ p.counter / 256 % 256 ∷ p.counter / 65536 % 256 ∷ p.counter / 16777216 ∷ [];
      challenge = p.challenge;
    })

-- 02, E11: "every field inside them": the public key is not signed
abbrev pub key_left_out : RegisterFields → ℕ → Order
key_left_out f c =
    record {
      kind = Register;
      to_sign = 65 + length f.handle;
      certificate_length = c;
      bytes = block (0x00 ∷ [] ++ f.application ++ f.challenge ++ f.handle);
    }

-- the same: the handle's last byte is not
abbrev pub handle_cut : RegisterFields → ℕ → Order
handle_cut f c =
    register_order_of (record { application = f.application; challenge = f.challenge; handle = take (length f.handle - 1) f.handle; x = f.x; y = f.y }) c

-- the same: the presence byte is not
abbrev pub presence_left_out : AuthenticateParts → Order
presence_left_out p =
    record { kind = Authenticate; to_sign = 68; certificate_length = 0; bytes = block (p.application ++ bytes4 p.counter ++ p.challenge) }

-- the same: the counter's first byte is not
abbrev pub counter_cut : AuthenticateParts → Order
counter_cut p =
    record {
      kind = Authenticate;
      to_sign = 68;
      certificate_length = 0;
      bytes = block (p.application ++ presence_byte p.present ∷ [] ++ drop 1 (bytes4 p.counter) ++ p.challenge);
    }

-- a reading of the bytes to sign that takes the challenge for the application
abbrev pub reads_challenge_first : (size : ℕ) (bytes : List ℕ) → RegisterFields
reads_challenge_first size bytes =
    let f = register_fields_of size bytes in
    record { application = f.challenge; challenge = f.application; handle = f.handle; x = f.x; y = f.y }

-- an order as it is seen by one who does not look at the bytes after its end
abbrev without_tail : Order → Order
without_tail o =
    record {
      kind = o.kind;
      to_sign = to_sign o;
      certificate_length = certificate_length o;
      bytes = block (take (to_sign o) o.bytes);
    }

-- R7: "zero tail": not looked at
abbrev pub tests_no_tail : Order → Bool
tests_no_tail o = is_of_layout (without_tail o)

-- R7: "first byte": asked of both kinds
abbrev pub tests_first_byte : Order → Bool
tests_first_byte o = is_of_layout o && eqb (byte o.bytes 0) 0x00

-- ---- room
-- "R2 (139 + h + c, or 77)", one less and one more
abbrev pub room138 : (room h c : ℕ) → Bool
room138 room h c = leb (138 + h + c) room

abbrev pub room140 : (room h c : ℕ) → Bool
room140 room h c = leb (140 + h + c) room

abbrev pub room76 : (room : ℕ) → Bool
room76 room = leb 76 room

abbrev pub room78 : (room : ℕ) → Bool
room78 room = leb 78 room

-- the number of bytes to sign taken for the handle's length
abbrev pub length_for_handle : Order → ℕ
length_for_handle o = register_room (to_sign o) (certificate_length o)

-- ---- finishing
-- the checks before the signer's have passed
abbrev is_ready : Finishing → Bool
is_ready i =
    is_of_layout i.order
    && eqb (length i.certificate) (certificate_length i.order)
    && leb (room_needed i.order) (length i.reply)

-- "Checks: R7, R4, R2 (..), signer failed 6f00, R3": R4 before R7. Fails `FinishesExactly`.
abbrev pub certificate_before_layout : Finishing → Ended
certificate_before_layout i = when not (eqb (length i.certificate) (certificate_length i.order)) then keeping (R 4) i else end_of i

-- R2 before R4. Fails `FinishesExactly`.
abbrev pub room_before_certificate : Finishing → Ended
room_before_certificate i =
    when is_of_layout i.order && ltb (length i.reply) (room_needed i.order) then keeping (R 2) i else end_of i

-- 6f00 before R2. Fails `FinishesExactly`.
abbrev pub signer_before_room : Finishing → Ended
signer_before_room i =
    when is_of_layout i.order && eqb (length i.certificate) (certificate_length i.order) && not i.signed then keeping (SW 0x6f00) i
    else end_of i

-- R3 before 6f00. Fails `FinishesExactly`.
abbrev pub signature_before_signer : Finishing → Ended
signature_before_signer i = when is_ready i && ltb 72 (length i.signature) then keeping (R 3) i else end_of i

-- R4, "certificate length is not the order's": asked of the signature's length. Fails `FinishesExactly`.
abbrev pub certificate_not_compared : Finishing → Ended
certificate_not_compared i =
    when is_of_layout i.order && not (eqb (length i.signature) (certificate_length i.order)) then keeping (R 4) i else end_of i

-- R7, "zero tail": not looked at. Fails `FinishesExactly`.
abbrev pub tail_not_looked_at : Finishing → Ended
tail_not_looked_at i =
    end_of
    (record {
      order = without_tail i.order;
      certificate = i.certificate;
      signed = i.signed;
      signature = i.signature;
      reply = i.reply;
    })

-- R7, "04 marker": the byte after it looked at. Fails `FinishesExactly`.
abbrev pub marker_of_another_byte : Finishing → Ended
marker_of_another_byte i =
    when eqb (kind_no i.order.kind) 0x01 && not (eqb (byte i.order.bytes (to_sign i.order - 64)) 0x04) then keeping (R 7) i
    else end_of i

-- R7, "first byte": asked of an Authenticate order too. Fails `FinishesExactly`.
abbrev pub first_byte_of_both : Finishing → Ended
first_byte_of_both i = when eqb (byte i.order.bytes 0) 0x00 then end_of i else keeping (R 7) i

-- "R2 (139 + h + c, or 77)": one byte more is wanted, of either kind. Fails `FinishesExactly`.
abbrev pub wants_room140 : Finishing → Ended
wants_room140 i =
    when is_of_layout i.order && eqb (length i.certificate) (certificate_length i.order) && leb (length i.reply) (room_needed i.order) then keeping (R 2) i
    else end_of i

-- R3, "signature longer than 72": at 72 already. Fails `FinishesExactly`.
abbrev pub refuses72 : Finishing → Ended
refuses72 i = when is_ready i && i.signed && eqb (length i.signature) 72 then keeping (R 3) i else end_of i

-- R3: not at 73. Fails `FinishesExactly`.
abbrev pub takes73 : Finishing → Ended
takes73 i =
    let body = body_of i.order.kind i.order i.certificate i.signature in
    when is_ready i && i.signed && eqb (length i.signature) 73 then record { answer = Gives (length body); reply = laid body i.reply }
    else end_of i

-- "A body never exceeds the room asked for": the same
abbrev pub overlong_body : Finishing → Ended
overlong_body i = takes73 i

-- what is done to the buffer where there is a body, and where there is none
abbrev on_body : Outcome ℕ → (body other : List ℕ) → List ℕ
on_body (R n) body other = other
on_body (Word s) body other = other
on_body (Gives n) body other = body

-- "Register 05, public key, ..": the public key's 04 first. Fails `FinishesExactly`.
abbrev pub body_of04 : Finishing → Ended
body_of04 i = record { answer = (end_of i).answer; reply = on_body (end_of i).answer (laid (0x04 ∷ []) (end_of i).reply) (end_of i).reply }

-- 'What each statement has to say': "a finisher that writes nothing". Fails `FinishesExactly`.
abbrev pub writes_nothing : Finishing → Ended
writes_nothing i = record { answer = (end_of i).answer; reply = i.reply }

-- 'What each statement has to say': "one that gives an invented body length": that of the longest signature
abbrev invented_for : Outcome ℕ → ℕ → Outcome ℕ
invented_for (R n) m = R n
invented_for (Word s) m = Word s
invented_for (Gives n) m = Gives m

-- fails `FinishesExactly`
abbrev pub length_invented : Finishing → Ended
length_invented i = record { answer = invented_for (end_of i).answer (room_needed i.order); reply = (end_of i).reply }

-- "An R refusal changes no buffer": the buffer is cleared. Fails `FinishesExactly`.
abbrev pub clears_reply : Finishing → Ended
clears_reply i = record { answer = (end_of i).answer; reply = on_body (end_of i).answer (end_of i).reply (replicate (length i.reply) 0x00) }

-- "Bodies, status 9000: Register 05, public key, h in one byte, handle, ..": the challenge sent for the handle
abbrev pub sends_challenge : Finishing → Outcome (List ℕ)
sends_challenge i =
    let f = register_fields_of (to_sign i.order) i.order.bytes in
    when is_ready i && i.signed && eqb (kind_no i.order.kind) 0x01
    then Gives (register_body (record { application = f.application; challenge = f.challenge; handle = f.challenge; x = f.x; y = f.y }) i.certificate i.signature)
    else finish_of i

-- "Authenticate presence byte, counter, signature": the counter left out
abbrev pub leaves_counter_out : Finishing → Outcome (List ℕ)
leaves_counter_out i =
    when is_ready i && i.signed && eqb (kind_no i.order.kind) 0x02 then Gives (byte i.order.bytes 32 ∷ [] ++ i.signature)
    else finish_of i

-- "R2 found after the touch is spent or the counter taken": one byte more is wanted
abbrev pub asks_again : Finishing → Outcome (List ℕ)
asks_again i = when is_ready i && leb (length i.reply) (room_needed i.order) then R 2 else finish_of i
