-- What is promised of orders and finishing, of any function: proofs/Theorems.antt has that the definitions meet it,
-- proofs/Only.antt that no others meet the claims that end in 'Exactly' or begin with 'Makes', proofs/Refuted.antt that the
-- wrong programs of specs/Wrong.antt do not. `FinishesExactly` stands in Replies.antt with its terms.
use Rattle.std.specs.Prelude.{ℕ, ◌+◌, ◌/◌, ◌%◌, ◌<◌, ◌≤◌, Bool, true, false, ◌≡◌, ◌↔◌, ◌⊎◌, List, length, take, replicate}
use Rattle.outcome.specs.Notation.{AtMostOne}
use Rattle.outcome.specs.Outcome.{Outcome, R, Word, Gives, word_of, refusal_no}
use Rattle.outcome.specs.declared.Refusal.{Refusal}
use Rattle.outcome.specs.declared.ApduStatusCode.{ApduStatusCode}
use Rattle.octets.specs.Bytes.{byte}
use Rattle.signing_stated.specs.Layouts.{RegisterFields, AuthenticateFields, register_to_sign, authenticate_to_sign, is_register_fit, is_authenticate_fit}
use Rattle.signing_stated.specs.Fido.{IsMessage, IsKey, presence_bit, registration_signed, registration_response, authentication_signed, authentication_response}
use Rattle.signing_stated.specs.Orders.{Kind, Register, Authenticate, Head, Order, head_of, order_with, AuthenticateParts, to_sign, certificate_length, register_order_of, authenticate_order_of}
use Rattle.signing_stated.specs.Finishing.{Finishing, Finished, Refused, Status, Ok, Err, finished_of, Ended}
use Rattle.signing_stated.specs.Promises.{KindNumber, Blank, RegisterOrder, AuthenticateOrder, HasLayout, HasRegisterRoom, HasAuthenticateRoom, Finish}
use Rattle.signing_stated.specs.Terms.{bytes_at, RegisterLengths, AuthenticateLengths, PartsLengths, IsWhole, IsBlank, IsRegisterOrder, IsAuthenticateOrder, HoldsJust, signed_bytes, longer, IsEnrolment, IsLogin, HoldsMessage, NeedsRoom, OfLayout, keeping}
pub use Rattle.signing_stated.specs.Replies.{FinishesExactly}

-- ---- numbers and results

-- Ours; DECISIONS, kind numbers: the INS of the command that the order answers. A table that numbers both kinds 01
-- (`kinds_alike`) or each as the other (`kinds_turned`) fails it.
pub record KindNumbers (number : Kind → ℕ) : Type 0 where
  pub register : number Register ≡ 0x01
  pub authenticate : number Authenticate ≡ 0x02

-- The numbers tell the cases apart. 01: "a definition gives this paper's number and values for each of its cases".
-- `kinds_alike` fails the first; a view that says R4 for R2 and for R4 (`r4_said_as_r2`) the second.
abbrev pub KindOneToOne : (Kind → ℕ) → Type 0
KindOneToOne number = (a b : Kind) → number a ≡ number b → a ≡ b

abbrev pub FinishedOneToOne : (Finished → Outcome ℕ) → Type 0
FinishedOneToOne view = (a b : Finished) → view a ≡ view b → a ≡ b

-- What finishing answers, in the documents' numbers: each case has its value, and no other has it. `r4_said_as_r2` fails it, and a view that says 6f00 for every
-- status word (`always6f00`).
pub record FinishedExactly (said : Finished → Outcome ℕ) : Type 0 where
  pub refused : (a : Finished) (why : Refusal) → (said a ≡ R (refusal_no why)) ↔ (a ≡ Err (Refused why))
  pub status : (a : Finished) (s : ApduStatusCode) → (said a ≡ Word (word_of s)) ↔ (a ≡ Err (Status s))
  pub body : (a : Finished) (n : ℕ) → (said a ≡ Gives n) ↔ (a ≡ Ok n)

-- Two results that meet a contract are equal. 01: "Show that two results satisfying it are equal". For an order the result is its
-- head and the lent block together, for `finish` the answer and the reply buffer: a contract silent on the buffer fails it.
pub record ResultsDetermined : Type 0 where
  pub kind_number : (k : Kind) → AtMostOne (KindNumber k)
  pub blank : AtMostOne Blank
  pub register_order : (f : RegisterFields) (c : ℕ) → AtMostOne (λ (r : Head × List ℕ). RegisterOrder f c r.0 r.1)
  pub authenticate_order : (p : AuthenticateParts) → AtMostOne (λ (r : Head × List ℕ). AuthenticateOrder p r.0 r.1)
  pub has_layout : (head : Head) (block : List ℕ) → AtMostOne (HasLayout head block)
  pub has_register_room : (room h c : ℕ) → AtMostOne (HasRegisterRoom room h c)
  pub has_authenticate_room : (room : ℕ) → AtMostOne (HasAuthenticateRoom room)
  pub finish : (head : Head) (block certificate : List ℕ) (signed : Bool) (signature reply : List ℕ)
      → AtMostOne (λ (r : Finished × List ℕ). Finish head block certificate signed signature reply r.0 r.1)

-- ---- orders

-- Ours; DECISIONS, blank order: what stands in an answer without an order. One with a certificate length (`blank_of_one`) fails it.
abbrev pub BlankExactly : Order → Type 0
BlankExactly blank = IsBlank blank

-- The order of a Register, byte by byte. 01: "A signing order holds its kind, the number of bytes to sign, the certificate
-- length .., and the bytes to sign in a block of 385 bytes, zero after their end", "Register, 130 + h: 00, application,
-- challenge, handle, public key (04, x, y)". One with the challenge first (`register_challenge_first`) fails it where challenge and
-- application differ, one without the 04 (`drops_marker`) at any fields, a block of 384 bytes (`block_of384`) at any fields, one
-- that takes a handle of 256 bytes (`handle_of256`) there, one that notes another certificate length (`certificate_one_more`).
pub record MakesRegister (make : RegisterFields → ℕ → Order) : Type 0 where
  pub kind : (f : RegisterFields) (c : ℕ) → RegisterLengths f → (make f c).kind ≡ Register
  pub counts : (f : RegisterFields) (c : ℕ) → RegisterLengths f → to_sign (make f c) ≡ 130 + length f.handle
  pub certificate : (f : RegisterFields) (c : ℕ) → RegisterLengths f → certificate_length (make f c) ≡ c
  pub whole : (f : RegisterFields) (c : ℕ) → RegisterLengths f → length (make f c).bytes ≡ 385
  pub first : (f : RegisterFields) (c : ℕ) → RegisterLengths f → byte (make f c).bytes 0 ≡ 0x00
  pub application : (f : RegisterFields) (c : ℕ) → RegisterLengths f → bytes_at 1 32 (make f c).bytes ≡ f.application
  pub challenge : (f : RegisterFields) (c : ℕ) → RegisterLengths f → bytes_at 33 32 (make f c).bytes ≡ f.challenge
  pub handle : (f : RegisterFields) (c : ℕ) → RegisterLengths f → bytes_at 65 (length f.handle) (make f c).bytes ≡ f.handle
  pub marker : (f : RegisterFields) (c : ℕ) → RegisterLengths f → byte (make f c).bytes (65 + length f.handle) ≡ 0x04
  pub x : (f : RegisterFields) (c : ℕ) → RegisterLengths f → bytes_at (66 + length f.handle) 32 (make f c).bytes ≡ f.x
  pub y : (f : RegisterFields) (c : ℕ) → RegisterLengths f → bytes_at (98 + length f.handle) 32 (make f c).bytes ≡ f.y
  pub rest : (f : RegisterFields) (c : ℕ) → RegisterLengths f
      → (i : ℕ) → 130 + length f.handle ≤ i → byte (make f c).bytes i ≡ 0x00
  -- ours: DECISIONS, blank order: fields of other lengths make none
  pub unfit : (f : RegisterFields) (c : ℕ) → (RegisterLengths f → ⊥) → IsBlank (make f c)

-- The order of an Authenticate, byte by byte. 01: "Authenticate, 69: application, presence byte (01 for P1 03, 00 for 08),
-- counter (4, big-endian), challenge", "the certificate length (0 for Authenticate)". One with the challenge first
-- (`authenticate_challenge_first`) fails it, one whose presence byte is always 01 (`presence_always01`) where nobody touched, one that
-- writes the counter from its low byte on (`counter_little_endian`) at the counter 1.
pub record MakesAuthenticate (make : AuthenticateParts → Order) : Type 0 where
  pub kind : (p : AuthenticateParts) → PartsLengths p → (make p).kind ≡ Authenticate
  pub counts : (p : AuthenticateParts) → PartsLengths p → to_sign (make p) ≡ 69
  pub certificate : (p : AuthenticateParts) → PartsLengths p → certificate_length (make p) ≡ 0
  pub whole : (p : AuthenticateParts) → PartsLengths p → length (make p).bytes ≡ 385
  pub application : (p : AuthenticateParts) → PartsLengths p → bytes_at 0 32 (make p).bytes ≡ p.application
  pub present : (p : AuthenticateParts) → PartsLengths p → p.present ≡ true → byte (make p).bytes 32 ≡ 0x01
  pub absent : (p : AuthenticateParts) → PartsLengths p → p.present ≡ false → byte (make p).bytes 32 ≡ 0x00
  pub counter_1 : (p : AuthenticateParts) → PartsLengths p → byte (make p).bytes 33 ≡ p.counter / 16777216
  pub counter_2 : (p : AuthenticateParts) → PartsLengths p → byte (make p).bytes 34 ≡ p.counter / 65536 % 256
  pub counter_3 : (p : AuthenticateParts) → PartsLengths p → byte (make p).bytes 35 ≡ p.counter / 256 % 256
  pub counter_4 : (p : AuthenticateParts) → PartsLengths p → byte (make p).bytes 36 ≡ p.counter % 256
  pub challenge : (p : AuthenticateParts) → PartsLengths p → bytes_at 37 32 (make p).bytes ≡ p.challenge
  pub rest : (p : AuthenticateParts) → PartsLengths p → (i : ℕ) → 69 ≤ i → byte (make p).bytes i ≡ 0x00
  pub unfit : (p : AuthenticateParts) → (PartsLengths p → ⊥) → IsBlank (make p)

-- The bytes to sign of a made order are the layout's, no more and no fewer, and zeros follow. 01: "Register, 130 + h",
-- "Authenticate, 69", "zero after their end". An order that counts 129 + h (`counts_one_less`) loses the last byte of y.
abbrev pub BytesToSign : (RegisterFields → ℕ → Order) → (AuthenticateFields → Order) → Type 0
BytesToSign register authenticate =
    ((f : RegisterFields) (c : ℕ) → is_register_fit f ≡ true → HoldsJust (register_to_sign f) (130 + length f.handle) (register f c))
    × ((f : AuthenticateFields) → is_authenticate_fit f ≡ true → HoldsJust (authenticate_to_sign f) 69 (authenticate f))

-- The fields that went into an order are read back from it. 01: "00, application, challenge, handle, public key (04, x, y)"
-- has one reading. A reading that takes the challenge for the application (`reads_challenge_first`) fails it.
abbrev pub FieldsKept : ((size : ℕ) (bytes : List ℕ) → RegisterFields) → ((bytes : List ℕ) → AuthenticateFields) → Type 0
FieldsKept register authenticate =
    ((f : RegisterFields) (c : ℕ) → is_register_fit f ≡ true → register (to_sign (register_order_of f c)) (register_order_of f c).bytes ≡ f)
    × ((f : AuthenticateFields) → is_authenticate_fit f ≡ true → authenticate (authenticate_order_of f).bytes ≡ f)

-- An order passes the layout tests exactly when fields of the right lengths make it. 01, R7: "order not of either layout".
-- A test that does not look at the zero tail (`tests_no_tail`) fails it, at an Authenticate order whose byte 200 is 01; one
-- that asks a first byte 00 of an Authenticate order too (`tests_first_byte`) at an application that begins with F0.
abbrev pub LayoutExactly : (Order → Bool) → Type 0
LayoutExactly test = (o : Order) → IsWhole o → (test o ≡ true) ↔ (IsRegisterOrder o ⊎ IsAuthenticateOrder o)

-- ---- no signature can be carried over

-- Of orders for fields of the right lengths, whatever their certificates. 02, E11: "no Register and Authenticate order have the same bytes to sign, and two of one
-- kind with equal bytes have every field inside them equal". The handle's length is not among the bytes and cannot mislead: all 130 + h of them are signed, so equal
-- bytes have equal h, and the key's 65 stand behind the handle. An order without the key (`key_left_out`) fails the first, at a handle of 4 bytes; one without the
-- handle's last byte (`handle_cut`) the second; one without the presence byte (`presence_left_out`), or with three bytes of the counter (`counter_cut`), the third.
pub record NoneCarriesOver (register : RegisterFields → ℕ → Order) (authenticate : AuthenticateParts → Order) : Type 0 where
  pub apart : (f : RegisterFields) (c : ℕ) (p : AuthenticateParts) → RegisterLengths f → PartsLengths p → signed_bytes (register f c) ≡ signed_bytes (authenticate p) → ⊥
  pub enrolments : (f g : RegisterFields) (c d : ℕ) → RegisterLengths f → RegisterLengths g → signed_bytes (register f c) ≡ signed_bytes (register g d) → f ≡ g
  pub logins : (p q : AuthenticateParts) → PartsLengths p → PartsLengths q → signed_bytes (authenticate p) ≡ signed_bytes (authenticate q) → p ≡ q

-- What that does not rule out, since it speaks of all the bytes to sign: the front of an order's may be another's. The first 69 of a Register order's are an
-- Authenticate order's exactly where the application ends in 00 or 01; and with a handle that goes on with the key of another Register order, they begin with all of
-- that one's. Orders with the challenge first (`register_challenge_first`) fail the first, with the 04 left out (`drops_marker`) the second.
pub record NotRuledOut (register : RegisterFields → ℕ → Order) (authenticate : AuthenticateFields → Order) : Type 0 where
  pub login : (f : RegisterFields) (c : ℕ) → RegisterLengths f
      → ((p : AuthenticateFields) × AuthenticateLengths p × (take 69 (signed_bytes (register f c)) ≡ signed_bytes (authenticate p))) ↔ (byte f.application 31 ≤ 1)
  pub enrolment : (f : RegisterFields) (c d : ℕ) (x y : List ℕ) → RegisterLengths f → length f.handle ≤ 190 → length x ≡ 32 → length y ≡ 32
      → take (130 + length f.handle) (signed_bytes (register (longer f x y) d)) ≡ signed_bytes (register f c)

-- ---- room

-- 01: "R2 (139 + h + c, or 77)", "as whole numbers, never wrapped". At h 64 and c 300 it is 503 bytes: a test that is content with
-- one byte less (`room138`) or wants one more (`room140`) fails the first, one at 76 (`room76`) or 78 (`room78`) the second.
abbrev pub RegisterRoomExactly : ((room h c : ℕ) → Bool) → Type 0
RegisterRoomExactly has = (room h c : ℕ) → (has room h c ≡ true) ↔ (139 + h + c ≤ room)

abbrev pub AuthenticateRoomExactly : ((room : ℕ) → Bool) → Type 0
AuthenticateRoomExactly has = (room : ℕ) → (has room ≡ true) ↔ (77 ≤ room)

-- The room that an order of its layout asks for. A made order's handle is read off its length: one that takes the length
-- itself for h (`length_for_handle`) fails it.
abbrev pub RoomNeededExactly : (Order → ℕ) → Type 0
RoomNeededExactly asked = (o : Order) (room : ℕ) → NeedsRoom o room → asked o ≡ room

-- 01: "A body never exceeds the room asked for". A finisher that takes a signature of 73 bytes (`overlong_body`) fails it.
abbrev pub BodyWithinRoom : (Finishing → Ended) → Type 0
BodyWithinRoom finish = (i : Finishing) (room n : ℕ) → NeedsRoom i.order room → (finish i).answer ≡ Gives n → n ≤ room

-- ---- finishing

-- What stands in an answer without an order is of neither layout, and finishing it gives R7, whatever is lent beside it.
-- Ours; DECISIONS, blank order; 01, R7: "order not of either layout". A blank order of kind Authenticate that
-- counts 69 bytes (`blank_of69`) fails it: its zeros are an Authenticate order.
abbrev pub BlankRefused : Order → (Finishing → Ended) → Type 0
BlankRefused blank finish = (OfLayout blank → ⊥) × ((i : Finishing) → i.order ≡ blank → finish i ≡ keeping (R 7) i)

-- A made order, finished with the certificate and the room that it was made for, gives none of R7, R4 and R2. 01, 'Mistakes a
-- quick port makes': "R2 found after the touch is spent or the counter taken". A finisher that wants room for 73 signature bytes
-- (`asks_again`) fails it, at a buffer of just the room that was asked for.
abbrev pub MadeOrderKept : (Finishing → Outcome (List ℕ)) → Type 0
MadeOrderKept finish =
    ((i : Finishing) (f : RegisterFields) → is_register_fit f ≡ true → i.order ≡ register_order_of f (length i.certificate)
    → 139 + length f.handle + length i.certificate ≤ length i.reply → (n : ℕ) → finish i ≡ R n → n ≡ 3)
    × ((i : Finishing) (f : AuthenticateFields) → is_authenticate_fit f ≡ true → i.order ≡ authenticate_order_of f
    → length i.certificate ≡ 0 → 77 ≤ length i.reply → (n : ℕ) → finish i ≡ R n → n ≡ 3)

-- ---- FIDO's messages (Fido.antt), with no word of document 01's layouts

-- What is signed is FIDO's message, field by field: of the lengths that it has, and nothing else. An order with the challenge first (`register_challenge_first`)
-- fails it, and one whose presence byte is always 01 (`presence_always01`).
pub record SignsFido (register : RegisterFields → ℕ → Order) (authenticate : AuthenticateParts → Order) : Type 0 where
  pub registration : (f : RegisterFields) (c : ℕ) → RegisterLengths f → IsEnrolment f (signed_bytes (register f c))
  pub authentication : (p : AuthenticateParts) → PartsLengths p → p.counter < 0x100000000 → IsLogin p (signed_bytes (authenticate p))

-- An order that holds FIDO's bytes to sign comes back as FIDO's response message: with the key and the handle that were signed, or the presence byte and the
-- counter, and with the certificate and the signature that were lent. 01: "Bodies, status 9000: ..". A finisher that sends the challenge for the handle
-- (`sends_challenge`) fails the first, one that leaves the counter out (`leaves_counter_out`) the second.
abbrev pub RegisterRoundTrip : (Finishing → Outcome (List ℕ)) → Type 0
RegisterRoundTrip finish = (i : Finishing) (application challenge handle x y key : List ℕ) → IsKey x y key
    → HoldsMessage Register (length i.certificate) (registration_signed application challenge handle key) i.order
    → 139 + length handle + length i.certificate ≤ length i.reply → i.signed ≡ true → length i.signature ≤ 72
    → (message : List ℕ) × (finish i ≡ Gives message) × IsMessage (registration_response key handle i.certificate i.signature) message

abbrev pub AuthenticateRoundTrip : (Finishing → Outcome (List ℕ)) → Type 0
AuthenticateRoundTrip finish = (i : Finishing) (application : List ℕ) (present : Bool) (counter challenge : List ℕ)
    → HoldsMessage Authenticate 0 (authentication_signed application (presence_bit present) counter challenge) i.order
    → length i.certificate ≡ 0 → 77 ≤ length i.reply → i.signed ≡ true → length i.signature ≤ 72
    → (message : List ℕ) × (finish i ≡ Gives message) × IsMessage (authentication_response (presence_bit present) counter i.signature) message

-- ---- the contracts and the claims

-- Whatever meets a function's contract meets the claim on it. A contract of `finish` that says the room for the answer fails it, with code to match.
pub record ContractsAsClaimed : Type 0 where
  pub kind_number : (g : Kind → ℕ) → ((k : Kind) → KindNumber k (g k)) → KindNumbers g
  pub blank : (r : Head) → Blank r → BlankExactly (order_with r (replicate 385 0x00))
  pub register_order : (g : RegisterFields → ℕ → Head × List ℕ) → ((f : RegisterFields) (c : ℕ) → RegisterOrder f c (g f c).0 (g f c).1)
      → MakesRegister (λ f c. order_with (g f c).0 (g f c).1)
  pub authenticate_order : (g : AuthenticateParts → Head × List ℕ) → ((p : AuthenticateParts) → AuthenticateOrder p (g p).0 (g p).1)
      → MakesAuthenticate (λ p. order_with (g p).0 (g p).1)
  pub has_layout : (g : Head → List ℕ → Bool) → ((h : Head) (block : List ℕ) → HasLayout h block (g h block)) → LayoutExactly (λ o. g (head_of o) o.bytes)
  pub has_register_room : (g : (room h c : ℕ) → Bool) → ((room h c : ℕ) → HasRegisterRoom room h c (g room h c)) → RegisterRoomExactly g
  pub has_authenticate_room : (g : (room : ℕ) → Bool) → ((room : ℕ) → HasAuthenticateRoom room (g room)) → AuthenticateRoomExactly g
  pub finish : (g : Finishing → Finished × List ℕ) → ((i : Finishing) → Finish (head_of i.order) i.order.bytes i.certificate i.signed i.signature i.reply (g i).0 (g i).1)
      → FinishesExactly (λ i. record { answer = finished_of (g i).0; reply = (g i).1 })
