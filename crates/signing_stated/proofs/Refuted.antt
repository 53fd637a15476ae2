-- The claims are false of the wrong programs of specs/Wrong.antt, each at an input where it bites.
use Prim.Native.Nat.{ℕ, ◌≤◌}
use mathlib.Core.Bool.{Bool, true, false, false≢true}
use mathlib.Core.Path.{◌≡◌, refl, ap, ◌∙◌}
use mathlib.Core.Logic.{◌⊎◌, inl}
use mathlib.Core.List.{List, [], ◌∷◌, ◌++◌}
use native.Mathlib.Omega.{arith}
use lib.ListN.{length, replicate}
use Rattle.outcome.specs.Outcome.{Outcome, R, Word, Gives}
use Rattle.outcome.specs.declared.Refusal.TheVariants.{R2, R4}
use Rattle.outcome.specs.declared.ApduStatusCode.TheVariants.{ClaInvalid}
use Rattle.octets.specs.Bytes.{byte}
use Rattle.signing_stated.specs.Claims
use Rattle.signing_stated.specs.Wrong
use Rattle.signing_stated.specs.Fido.{registration_signed, authentication_signed}
use Rattle.signing_stated.specs.Layouts.{RegisterFields, AuthenticateFields, public_key}
use Rattle.signing_stated.specs.Orders.{Order, Register, Authenticate, AuthenticateParts, block, blank_order, register_order_of, authenticate_order_of, authenticate_order_for, is_register_layout, is_authenticate_layout, authenticate_fields_of}
use Rattle.signing_stated.specs.Finishing.{Finishing, Finished, Refused, Status, Err, Ended, finish_of, end_of, room_needed}
use Rattle.signing_stated.specs.Terms.{IsRegisterOrder, IsAuthenticateOrder, HoldsMessage, RegisterLengths, PartsLengths, RegisterShaped, AuthenticateShaped, NeedsRoom, register, authenticate, OfLayout}
use Rattle.signing_stated.proofs.Shapes.{zeros_from, needs_room}
use Rattle.signing_stated.proofs.Messages.{key_is, registration_signed_lem, authentication_signed_lem}
use Rattle.signing_stated.proofs.Theorems.{LayoutExactly, BlankRefused}

-- the number of an answer, to tell two apart
abbrev said : Outcome ℕ → ℕ
said (R n) = n
said (Word s) = s.number
said (Gives n) = 0x9000

-- the length that an answer says
abbrev counted : Outcome ℕ → ℕ
counted (R n) = 0
counted (Word s) = 0
counted (Gives n) = n

-- ---- numbers
pub kinds_alike : Claims.KindNumbers Wrong.kinds_alike → ⊥
kinds_alike p = let e : ◌≡◌ {A = ℕ} 1 2 = p.authenticate in omega arith

pub kinds_turned : Claims.KindNumbers Wrong.kinds_turned → ⊥
kinds_turned p = let e : ◌≡◌ {A = ℕ} 2 1 = p.register in omega arith

pub always6f00 : Claims.FinishedExactly Wrong.always6f00 → ⊥
always6f00 p = omega (arith, ap (λ (x : Outcome ℕ). said x) ((p.status (Err (Status ClaInvalid)) ClaInvalid).1 refl))

pub r4_unsaid : Claims.FinishedExactly Wrong.r4_said_as_r2 → ⊥
r4_unsaid p = let e : ◌≡◌ {A = ℕ} 2 4 = ap (λ (x : Outcome ℕ). said x) ((p.refused (Err (Refused R4)) R4).1 refl) in omega arith

pub r4_said_as_r2 : Claims.FinishedOneToOne Wrong.r4_said_as_r2 → ⊥
r4_said_as_r2 p = let e : ◌≡◌ {A = Finished} (Err (Refused R2)) (Err (Refused R4)) = p (Err (Refused R2)) (Err (Refused R4)) refl in let z : ◌≡◌ {A = ℕ} 0 1 = cc in omega arith

-- ---- orders: application of 01s, challenge of 02s, no handle, x and y zeros
abbrev enrolled : RegisterFields
enrolled = record { application = replicate 32 1; challenge = replicate 32 2; handle = []; x = replicate 32 0; y = replicate 32 3 }

fits : RegisterLengths enrolled
fits = record { application = refl; challenge = refl; handle = omega arith; x = refl; y = refl }

pub blank_of_one : Claims.BlankExactly Wrong.blank_of_one → ⊥
blank_of_one p = let e : ◌≡◌ {A = ℕ} 1 0 = p.certificate in omega arith

pub register_challenge_first : Claims.MakesRegister Wrong.register_challenge_first → ⊥
unfolding register_order_of block
register_challenge_first p =
    let e : ◌≡◌ {A = ℕ} 2 1 = ap (λ (s : List ℕ). byte s 0) (p.application enrolled 0 fits) in omega arith

pub drops_marker : Claims.MakesRegister Wrong.drops_marker → ⊥
drops_marker p = let e : ◌≡◌ {A = ℕ} 129 130 = p.counts enrolled 0 fits in omega arith

pub block_of384 : Claims.MakesRegister Wrong.block_of384 → ⊥
block_of384 p = let e : ◌≡◌ {A = ℕ} 384 385 = p.whole enrolled 0 fits in omega arith

abbrev long_handled : RegisterFields
long_handled = record { application = replicate 32 1; challenge = replicate 32 2; handle = replicate 256 0; x = replicate 32 0; y = replicate 32 3 }

too_long : RegisterLengths long_handled → ⊥
too_long l = let h : 256 ≤ 255 = l.handle in omega arith

pub handle_of256 : Claims.MakesRegister Wrong.handle_of256 → ⊥
handle_of256 p = let e : ◌≡◌ {A = ℕ} 386 0 = (p.unfit long_handled 0 too_long).counts in omega arith

pub certificate_one_more : Claims.MakesRegister Wrong.certificate_one_more → ⊥
unfolding register_order_of
certificate_one_more p = let e : ◌≡◌ {A = ℕ} 1 0 = p.certificate enrolled 0 fits in omega arith

pub counts_one_less : Claims.BytesToSign Wrong.counts_one_less authenticate_order_of → ⊥
counts_one_less p = let e : ◌≡◌ {A = ℕ} 129 130 = (p.0 enrolled 0 refl).0 in omega arith

-- application of 01s, challenge of 02s, nobody touched, counter 1
abbrev parts : AuthenticateParts
parts = record { application = replicate 32 1; challenge = replicate 32 2; present = false; counter = 1 }

parts_fit : PartsLengths parts
parts_fit = record { application = refl; challenge = refl }

pub authenticate_challenge_first : Claims.MakesAuthenticate Wrong.authenticate_challenge_first → ⊥
unfolding authenticate_order_of block
authenticate_challenge_first p =
    let e : ◌≡◌ {A = ℕ} 2 1 = ap (λ (s : List ℕ). byte s 0) (p.application parts parts_fit) in omega arith

pub presence_always01 : Claims.MakesAuthenticate Wrong.presence_always01 → ⊥
unfolding authenticate_order_of block
presence_always01 p = let e : ◌≡◌ {A = ℕ} 1 0 = p.absent parts parts_fit refl in omega arith

pub counter_little_endian : Claims.MakesAuthenticate Wrong.counter_little_endian → ⊥
unfolding authenticate_order_of block
counter_little_endian p = let e : ◌≡◌ {A = ℕ} 1 0 = p.counter_1 parts parts_fit in omega arith

-- 02, E11. Without the key, an enrolment with a handle of 4 bytes has a login's bytes: the application's last is its presence byte, the challenge's first four its counter
abbrev handled : RegisterFields
handled = record { application = replicate 32 1; challenge = replicate 32 2; handle = replicate 4 2; x = replicate 32 0; y = replicate 32 3 }

abbrev posed_as : AuthenticateParts
posed_as = record { application = 0 ∷ replicate 31 1; challenge = replicate 32 2; present = true; counter = 0x02020202 }

pub key_left_out : Claims.NoneCarriesOver Wrong.key_left_out authenticate_order_for → ⊥
unfolding authenticate_order_of block
key_left_out p = p.apart handled 0 posed_as (record { application = refl; challenge = refl; handle = omega arith; x = refl; y = refl }) (record { application = refl; challenge = refl }) refl

-- handles that differ in their last byte
pub handle_cut : Claims.NoneCarriesOver Wrong.handle_cut authenticate_order_for → ⊥
unfolding register_order_of block
handle_cut p =
    let with : ℕ → RegisterFields = λ n. record { application = replicate 32 1; challenge = replicate 32 2; handle = n ∷ []; x = replicate 32 0; y = replicate 32 3 } in
    let fit : (n : ℕ) → RegisterLengths (with n) = λ n. record { application = refl; challenge = refl; handle = omega arith; x = refl; y = refl } in
    let e : ◌≡◌ {A = ℕ} 7 8 = ap (λ (f : RegisterFields). byte f.handle 0) (p.enrolments (with 7) (with 8) 0 0 (fit 7) (fit 8) refl) in
    omega arith

-- somebody was there, and nobody
pub presence_left_out : Claims.NoneCarriesOver register_order_of Wrong.presence_left_out → ⊥
unfolding block
presence_left_out p =
    let touched : AuthenticateParts = record { application = replicate 32 1; challenge = replicate 32 2; present = true; counter = 1 } in
    false≢true (ap (λ (x : AuthenticateParts). x.present) (p.logins parts touched parts_fit (record { application = refl; challenge = refl }) refl))

-- counters 1 and 1 + 2^24
pub counter_cut : Claims.NoneCarriesOver register_order_of Wrong.counter_cut → ⊥
unfolding block
counter_cut p =
    let later : AuthenticateParts = record { application = replicate 32 1; challenge = replicate 32 2; present = false; counter = 0x1000001 } in
    let e : ◌≡◌ {A = ℕ} 1 0x1000001 = ap (λ (x : AuthenticateParts). x.counter) (p.logins parts later parts_fit (record { application = refl; challenge = refl }) refl) in
    omega arith

pub front_without_marker : Claims.NotRuledOut Wrong.drops_marker authenticate_order_of → ⊥
unfolding block
front_without_marker p =
    let e : ◌≡◌ {A = ℕ} 130 129 = ap length (p.enrolment enrolled 0 0 (replicate 32 0) (replicate 32 0) fits (omega arith) refl refl) in
    omega arith

-- with the challenge first, the front is a login's where the challenge ends in 01, whatever the application ends in
pub front_of_challenge : Claims.NotRuledOut Wrong.register_challenge_first authenticate_order_of → ⊥
unfolding register_order_of authenticate_order_of block
front_of_challenge p =
    let f : RegisterFields = record { application = replicate 32 2; challenge = replicate 32 1; handle = replicate 4 2; x = replicate 32 0; y = replicate 32 3 } in
    let g : AuthenticateFields = record { application = 0 ∷ replicate 31 1; presence = 1; counter = replicate 4 2; challenge = replicate 32 2 } in
    let low =
    (p.login f 0 (record { application = refl; challenge = refl; handle = omega arith; x = refl; y = refl })).0
    (g, record { application = refl; presence = omega arith; counter = refl; challenge = refl }, refl) in
    omega (arith, low)

pub reads_challenge_first : Claims.FieldsKept Wrong.reads_challenge_first authenticate_fields_of → ⊥
unfolding register_order_of block
reads_challenge_first p =
    let e : ◌≡◌ {A = ℕ} 2 1 = ap (λ (f : RegisterFields). byte f.application 0) (p.0 enrolled 0 refl) in omega arith

-- ---- orders in memory: an Authenticate order of zeros, and one with byte 200 set; a Register order without a handle
abbrev login : Order
login = record { kind = Authenticate; to_sign = 69; certificate_length = 0; bytes = replicate 385 0 }

abbrev tailed : Order
tailed = record { kind = Authenticate; to_sign = 69; certificate_length = 0; bytes = replicate 200 0 ++ 1 ∷ [] ++ replicate 184 0 }

abbrev enrolment : Order
enrolment = record { kind = Register; to_sign = 130; certificate_length = 0; bytes = replicate 65 0 ++ 4 ∷ [] ++ replicate 319 0 }

login_shaped : AuthenticateShaped login
login_shaped =
    record { kind = refl; counts = refl; presence = inl refl; rest = zeros_from login.bytes 69 refl; no_certificate = refl }

enrolment_shaped : RegisterShaped 0 enrolment
enrolment_shaped =
    record {
      kind = refl;
      counts = refl;
      handle = omega arith;
      first = refl;
      marker = refl;
      rest = zeros_from enrolment.bytes 130 refl;
    }

tailed_unshaped : OfLayout tailed → ⊥
tailed_unshaped a = go a.0 a.1
  where
    go : (room : ℕ) → NeedsRoom tailed room → ⊥
    go _ (register h s) = let e : Authenticate ≡ Register = s.kind in let z : ◌≡◌ {A = ℕ} 0 1 = cc in omega arith
    go _ (authenticate s) = let e : ◌≡◌ {A = ℕ} 1 0 = s.rest 200 (omega arith) in omega arith

pub tests_no_tail : Claims.LayoutExactly Wrong.tests_no_tail → ⊥
unfolding is_authenticate_layout block
tests_no_tail p = tailed_unshaped (of ((p tailed refl).0 refl))
  where
    of : IsRegisterOrder tailed ⊎ IsAuthenticateOrder tailed → OfLayout tailed
    of m = (room_needed tailed, needs_room tailed ((LayoutExactly tailed refl).1 m))

-- an application of F0s
abbrev begun : Order
begun = record { kind = Authenticate; to_sign = 69; certificate_length = 0; bytes = 0xf0 ∷ [] ++ replicate 384 0 }

begun_shaped : AuthenticateShaped begun
begun_shaped =
    record { kind = refl; counts = refl; presence = inl refl; rest = zeros_from begun.bytes 69 refl; no_certificate = refl }

pub tests_first_byte : Claims.LayoutExactly Wrong.tests_first_byte → ⊥
unfolding is_authenticate_layout
tests_first_byte p =
    let e : ◌≡◌ {A = Bool} false true = (p begun refl).1 ((LayoutExactly begun refl).0 refl) in
    let z : ◌≡◌ {A = ℕ} 0 1 = cc in
    omega arith

-- ---- room
pub room138 : Claims.RegisterRoomExactly Wrong.room138 → ⊥
room138 p = let e : 503 ≤ 502 = (p 502 64 300).0 refl in omega arith

pub room140 : Claims.RegisterRoomExactly Wrong.room140 → ⊥
room140 p = let e : ◌≡◌ {A = Bool} false true = (p 503 64 300).1 (omega arith) in let z : ◌≡◌ {A = ℕ} 0 1 = cc in omega arith

pub room76 : Claims.AuthenticateRoomExactly Wrong.room76 → ⊥
room76 p = let e : 77 ≤ 76 = (p 76).0 refl in omega arith

pub room78 : Claims.AuthenticateRoomExactly Wrong.room78 → ⊥
room78 p = let e : ◌≡◌ {A = Bool} false true = (p 77).1 (omega arith) in let z : ◌≡◌ {A = ℕ} 0 1 = cc in omega arith

pub length_for_handle : Claims.RoomNeededExactly Wrong.length_for_handle → ⊥
length_for_handle p = let e : ◌≡◌ {A = ℕ} 269 139 = p enrolment 139 (register 0 enrolment_shaped) in omega arith

-- ---- finishing
-- an order with so long a certificate, a signer's answer, so long a signature, and so long a buffer, of FFs
abbrev lent : Order → ℕ → Bool → ℕ → ℕ → Finishing
lent o certificate signed signature room =
    record {
      order = o;
      certificate = replicate certificate 0;
      signed = signed;
      signature = replicate signature 0;
      reply = replicate room 0xff;
    }

pub blank_of69 : Claims.BlankRefused Wrong.blank_of69 end_of → ⊥
blank_of69 p = p.0 (77, authenticate login_shaped)

pub certificate_before_layout : Claims.FinishesExactly Wrong.certificate_before_layout → ⊥
unfolding blank_order
certificate_before_layout p =
    let e : ◌≡◌ {A = ℕ} 4 7 = ap (λ (e : Ended). said e.answer) (p.r7 (lent blank_order 1 true 0 0) BlankRefused.0) in omega arith

login_asks : OfLayout login
login_asks = (77, authenticate login_shaped)

pub room_before_certificate : Claims.FinishesExactly Wrong.room_before_certificate → ⊥
unfolding is_authenticate_layout
room_before_certificate p =
    let e : ◌≡◌ {A = ℕ} 2 4 = ap (λ (e : Ended). said e.answer) (p.r4 (lent login 1 true 0 0) login_asks (λ z. omega arith)) in omega arith

pub signer_before_room : Claims.FinishesExactly Wrong.signer_before_room → ⊥
unfolding is_authenticate_layout
signer_before_room p =
    let e : ◌≡◌ {A = ℕ} 0x6f00 2 =
    ap (λ (e : Ended). said e.answer) (p.r2 (lent login 0 false 0 76) 77 (authenticate login_shaped) refl (omega arith)) in
    omega arith

pub signature_before_signer : Claims.FinishesExactly Wrong.signature_before_signer → ⊥
unfolding is_authenticate_layout
signature_before_signer p =
    let e : ◌≡◌ {A = ℕ} 3 0x6f00 =
    ap (λ (e : Ended). said e.answer) (p.signer_failed (lent login 0 false 73 77) 77 (authenticate login_shaped) refl (omega arith) refl) in
    omega arith

pub certificate_not_compared : Claims.FinishesExactly Wrong.certificate_not_compared → ⊥
unfolding is_authenticate_layout
certificate_not_compared p =
    let e : ◌≡◌ {A = ℕ} 4 0x9000 =
    ap (λ (e : Ended). said e.answer) (p.authenticate_body (lent login 0 true 70 77) refl login_shaped refl (omega arith) refl (omega arith)) in
    omega arith

pub tail_not_looked_at : Claims.FinishesExactly Wrong.tail_not_looked_at → ⊥
unfolding is_authenticate_layout finish_of block
tail_not_looked_at p =
    let e : ◌≡◌ {A = ℕ} 0x9000 7 = ap (λ (e : Ended). said e.answer) (p.r7 (lent tailed 0 true 0 77) tailed_unshaped) in omega arith

pub marker_of_another_byte : Claims.FinishesExactly Wrong.marker_of_another_byte → ⊥
marker_of_another_byte p =
    let e : ◌≡◌ {A = ℕ} 7 0x9000 =
    ap (λ (e : Ended). said e.answer) (p.register_body (lent enrolment 0 true 0 139) 0 refl enrolment_shaped refl (omega arith) refl (omega arith)) in
    omega arith

pub first_byte_of_both : Claims.FinishesExactly Wrong.first_byte_of_both → ⊥
first_byte_of_both p =
    let e : ◌≡◌ {A = ℕ} 7 0x9000 =
    ap (λ (e : Ended). said e.answer) (p.authenticate_body (lent begun 0 true 0 77) refl begun_shaped refl (omega arith) refl (omega arith)) in
    omega arith

pub wants_room140 : Claims.FinishesExactly Wrong.wants_room140 → ⊥
unfolding is_register_layout
wants_room140 p =
    let e : ◌≡◌ {A = ℕ} 2 0x9000 =
    ap (λ (e : Ended). said e.answer) (p.register_body (lent enrolment 0 true 0 139) 0 refl enrolment_shaped refl (omega arith) refl (omega arith)) in
    omega arith

pub refuses72 : Claims.FinishesExactly Wrong.refuses72 → ⊥
unfolding is_authenticate_layout
refuses72 p =
    let e : ◌≡◌ {A = ℕ} 3 0x9000 =
    ap (λ (e : Ended). said e.answer) (p.authenticate_body (lent login 0 true 72 77) refl login_shaped refl (omega arith) refl (omega arith)) in
    omega arith

pub takes73 : Claims.FinishesExactly Wrong.takes73 → ⊥
unfolding is_authenticate_layout
takes73 p =
    let e : ◌≡◌ {A = ℕ} 0x9000 3 =
    ap (λ (e : Ended). said e.answer) (p.r3 (lent login 0 true 73 77) 77 (authenticate login_shaped) refl (omega arith) refl (omega arith)) in
    omega arith

pub overlong_body : Claims.BodyWithinRoom Wrong.overlong_body → ⊥
unfolding is_authenticate_layout
overlong_body p = let e : 78 ≤ 77 = p (lent login 0 true 73 77) 77 78 (authenticate login_shaped) refl in omega arith

pub body_of04 : Claims.FinishesExactly Wrong.body_of04 → ⊥
unfolding is_register_layout finish_of
body_of04 p =
    let e : ◌≡◌ {A = ℕ} 4 5 =
    ap (λ (e : Ended). byte e.reply 0) (p.register_body (lent enrolment 0 true 0 139) 0 refl enrolment_shaped refl (omega arith) refl (omega arith)) in
    omega arith

pub writes_nothing : Claims.FinishesExactly Wrong.writes_nothing → ⊥
writes_nothing p =
    let e : ◌≡◌ {A = ℕ} 0xff 5 =
    ap (λ (e : Ended). byte e.reply 0) (p.register_body (lent enrolment 0 true 0 139) 0 refl enrolment_shaped refl (omega arith) refl (omega arith)) in
    omega arith

pub length_invented : Claims.FinishesExactly Wrong.length_invented → ⊥
unfolding is_authenticate_layout finish_of
length_invented p =
    let e : ◌≡◌ {A = ℕ} 77 75 =
    ap (λ (e : Ended). counted e.answer) (p.authenticate_body (lent login 0 true 70 77) refl login_shaped refl (omega arith) refl (omega arith)) in
    omega arith

pub clears_reply : Claims.FinishesExactly Wrong.clears_reply → ⊥
unfolding is_authenticate_layout finish_of
clears_reply p =
    let e : ◌≡◌ {A = ℕ} 0 0xff =
    ap (λ (e : Ended). byte e.reply 0) (p.r2 (lent login 0 true 0 76) 77 (authenticate login_shaped) refl (omega arith)) in
    omega arith

-- a made order, and the fields that made it
abbrev logged : AuthenticateFields
logged = record { application = replicate 32 1; presence = 0; counter = replicate 4 0; challenge = replicate 32 2 }

bytes_in : Outcome (List ℕ) → List ℕ
bytes_in (R n) = []
bytes_in (Word s) = []
bytes_in (Gives body) = body

-- the same as FIDO has them
enrolled_held : HoldsMessage Register 0 (registration_signed (replicate 32 1) (replicate 32 2) [] (public_key (replicate 32 0) (replicate 32 3))) (register_order_of enrolled 0)
unfolding register_order_of block
enrolled_held =
    record {
      of_kind = refl;
      its = refl;
      whole = refl;
      within = omega arith;
      message = registration_signed_lem enrolled fits;
      rest = zeros_from (register_order_of enrolled 0).bytes 130 refl;
    }

logged_held : HoldsMessage Authenticate 0 (authentication_signed (replicate 32 1) 0 (replicate 4 0) (replicate 32 2)) (authenticate_order_of logged)
unfolding authenticate_order_of block
logged_held =
    record {
      of_kind = refl;
      its = refl;
      whole = refl;
      within = omega arith;
      message = authentication_signed_lem logged (record { application = refl; presence = omega arith; counter = refl; challenge = refl });
      rest = zeros_from (authenticate_order_of logged).bytes 69 refl;
    }

pub sends_challenge : Claims.RegisterRoundTrip Wrong.sends_challenge → ⊥
unfolding register_order_of block is_register_layout bytes_in
sends_challenge p =
    let r =
    p (lent (register_order_of enrolled 0) 0 true 0 139) (replicate 32 1) (replicate 32 2) [] (replicate 32 0) (replicate 32 3) (public_key (replicate 32 0) (replicate 32 3))
    (key_is (replicate 32 0) (replicate 32 3) refl refl) enrolled_held (omega arith) refl (omega arith) in
    let e : ◌≡◌ {A = ℕ} 32 0 = ap (λ (x : Outcome (List ℕ)). byte (bytes_in x) 66) r.1 ∙ ap (λ (s : List ℕ). byte s 66) r.2.are in
    omega arith

pub leaves_counter_out : Claims.AuthenticateRoundTrip Wrong.leaves_counter_out → ⊥
unfolding authenticate_order_of block is_authenticate_layout bytes_in
leaves_counter_out p =
    let r = p (lent (authenticate_order_of logged) 0 true 0 77) (replicate 32 1) false (replicate 4 0) (replicate 32 2) logged_held refl (omega arith) refl (omega arith) in
    let e : ◌≡◌ {A = ℕ} 1 5 = ap (λ (x : Outcome (List ℕ)). length (bytes_in x)) r.1 ∙ ap length r.2.are in
    omega arith

pub challenge_signed_first : Claims.SignsFido Wrong.register_challenge_first authenticate_order_for → ⊥
unfolding register_order_of block
challenge_signed_first p =
    let e : ◌≡◌ {A = ℕ} 2 1 = ap (λ (s : List ℕ). byte s 1) (p.registration enrolled 0 fits).2.are in omega arith

pub presence_signed01 : Claims.SignsFido register_order_of Wrong.presence_always01 → ⊥
unfolding authenticate_order_of block
presence_signed01 p =
    let e : ◌≡◌ {A = ℕ} 1 0 = ap (λ (s : List ℕ). byte s 32) (p.authentication parts parts_fit (omega arith)).2.are in omega arith

pub asks_again : Claims.MadeOrderKept Wrong.asks_again → ⊥
unfolding authenticate_order_of block is_authenticate_layout
asks_again p =
    let e : ◌≡◌ {A = ℕ} 2 3 = p.1 (lent (authenticate_order_of logged) 0 true 0 77) logged refl refl refl (omega arith) 2 refl in omega arith
