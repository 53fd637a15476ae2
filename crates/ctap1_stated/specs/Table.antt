-- Document 01, 'The decision', with document 02, E2's C0 and E7's sides, as one table: each row with its conditions, in the document's order,
-- and the whole result. Throughout, p is the record, t the moment, a what is lent, said what the frame says. Terms first; the claim,
-- `DecidesExactly`, last.
mod Words
use Words.*

-- ---- results; one without an order has a blank one in its place
abbrev pub result : Outcome DecisionGives → Presence → Order → Bool → DecisionResult
result answer after order taken = record { answer = answer; presence = after; order = order; taken = taken }

abbrev pub unordered : Outcome DecisionGives → Presence → DecisionResult
unordered answer after = result answer after blank_order false

-- the three records after a call that is not refused: only the last moment moved; the touch spent too; a prompt opened too, for this side
abbrev pub moved_at : Presence → ℕ → Presence
moved_at p t = record { w = p.w; prompt = p.prompt; touch = p.touch; last = t; asker = p.asker }

abbrev pub spent_at : Presence → ℕ → Presence
spent_at p t = record { w = p.w; prompt = p.prompt; touch = None; last = t; asker = p.asker }

abbrev pub prompted_at : Presence → (side t : ℕ) → Presence
prompted_at p s t = record { w = p.w; prompt = Some t; touch = p.touch; last = t; asker = s }

-- "Register, 130 + h: 00, application, challenge, handle, public key (04, x, y)", with the certificate's length. (`register_order_of` and
-- `authenticate_order_of` lay the fields out so: signing_stated's Orders.antt.)
abbrev pub order_of_register : Inputs → Says → Order
order_of_register a said =
    register_order_of
    (record {
      application = application_of a.frame said;
      challenge = challenge_of a.frame said;
      handle = a.new_handle;
      x = a.x;
      y = a.y;
    })
    (length a.certificate)

-- "Authenticate, 69: application, presence byte .., counter (4, big-endian), challenge"
abbrev pub order_of_authenticate : Inputs → Says → (presence counter : ℕ) → Order
order_of_authenticate a said presence counter =
    authenticate_order_of
    (record {
      application = application_of a.frame said;
      presence = presence;
      counter = bytes4 counter;
      challenge = challenge_of a.frame said;
    })

-- ---- conditions
-- CTAP1 is allowed, and the frame is read as a command
abbrev pub Comes : Inputs → Command → Type 0
Comes a c = (a.hardware.allowed ≡ Allowed'.Yes) × (command_of a.frame ≡ Gives c)

-- a C0, allowed, where something remains
abbrev pub Fetching : Presence → ℕ → Inputs → Type 0
Fetching p t a = NotRefused p a.side t × Comes a GetResponse × (0 < a.remainder.count)

-- "139 + h + c", h and c the lengths of handle and certificate
abbrev pub room_of_register : Inputs → ℕ
room_of_register a = 139 + length a.new_handle + length a.certificate

-- a Register, allowed, with room; and an Authenticate, allowed, with a good handle and room
abbrev pub Registering : Presence → ℕ → Inputs → Says → Type 0
Registering p t a said = NotRefused p a.side t × Comes a (Register said) × (room_of_register a ≤ a.room)

abbrev pub Signing : Presence → ℕ → Inputs → ℕ → Says → Type 0
Signing p t a p1 said = NotRefused p a.side t × Comes a (Authenticate p1 said) × (a.hardware.good ≡ true) × (77 ≤ a.room)

-- a live touch that is the decision's own side's, and one that is the other's
abbrev pub OwnTouch : Presence → ℕ → Inputs → Type 0
OwnTouch p t a = HasTouch p t × (p.asker ≡ a.side)

abbrev pub OthersTouch : Presence → ℕ → Inputs → Type 0
OthersTouch p t a = HasTouch p t × (p.asker ≡ a.side → ⊥)

-- ---- `Answers p t a r`: on the record p, at moment t, with a lent, the table has the result r
pub data Answers (p : Presence) (t : ℕ) (a : Inputs) : DecisionResult → Type 0 where
  -- 1. "R6, R1."; 02, E7: R8 "after R6 and before R1", "named or in the record"
  r6 : BadWindow p.w → Answers p t a (unordered (R 6) p)
  r8 : (BadWindow p.w → ⊥) → BadSide a.side p.asker → Answers p t a (unordered (R 8) p)
  r1 : (BadWindow p.w → ⊥) → (BadSide a.side p.asker → ⊥) → BadMoment p.last t → Answers p t a (unordered (R 1) p)
  -- 2. "failed gives 6f00, no gives 6986"
  failed : NotRefused p a.side t → a.hardware.allowed ≡ Allowed'.Failed → Answers p t a (unordered (SW 0x6f00) (moved_at p t))
  forbidden : NotRefused p a.side t → a.hardware.allowed ≡ Allowed'.No → Answers p t a (unordered (SW 0x6986) (moved_at p t))
  -- 3. "the frame's status, as above", with its pair: 02, E1, "carry the pair upward"
  frame : NotRefused p a.side t → a.hardware.allowed ≡ Allowed'.Yes → (s : StatusWord) → command_of a.frame ≡ Word s → Answers p t a (unordered (Word s) (moved_at p t))
  -- 4. "Version: buffer under 6 gives R2; else the body is the six bytes .., status 9000."
  version_short : NotRefused p a.side t → Comes a Version → a.room < 6 → Answers p t a (unordered (R 2) p)
  version : NotRefused p a.side t → Comes a Version → 6 ≤ a.room → Answers p t a (unordered (Gives (Body 6)) (moved_at p t))
  -- 5. "Register: R2 if the buffer is shorter than 139 + h + c ..; touch check, 6985; then 6f00 if the store failed, h > 255, or the
  -- attestation is missing or failed; else an order."
  register_short : (said : Says) → NotRefused p a.side t → Comes a (Register said) → a.room < room_of_register a → Answers p t a (unordered (R 2) p)
  register_6985 : (said : Says) → Registering p t a said → (HasTouch p t → ⊥) → Answers p t a (unordered (SW 0x6985) (prompted_at p a.side t))
  -- 02, E7: "If the other side reaches the touch check while a touch is live, it gets 6985, nothing is opened or spent"
  register_other : (said : Says) → Registering p t a said → OthersTouch p t a → Answers p t a (unordered (SW 0x6985) (moved_at p t))
  not_stored : (said : Says) → Registering p t a said → OwnTouch p t a → a.hardware.stored ≡ false → Answers p t a (unordered (SW 0x6f00) (spent_at p t))
  long : (said : Says) → Registering p t a said → OwnTouch p t a → a.hardware.stored ≡ true → 255 < length a.new_handle
      → Answers p t a (unordered (SW 0x6f00) (spent_at p t))
  missing : (said : Says) → Registering p t a said → OwnTouch p t a → a.hardware.stored ≡ true → length a.new_handle ≤ 255
      → a.hardware.attestation ≡ Attestation'.Missing → Answers p t a (unordered (SW 0x6f00) (spent_at p t))
  no_attestation : (said : Says) → Registering p t a said → OwnTouch p t a → a.hardware.stored ≡ true → length a.new_handle ≤ 255
      → a.hardware.attestation ≡ Attestation'.Failed → Answers p t a (unordered (SW 0x6f00) (spent_at p t))
  enrols : (said : Says) → Registering p t a said → OwnTouch p t a → a.hardware.stored ≡ true → length a.new_handle ≤ 255
      → a.hardware.attestation ≡ Attestation'.Present → Answers p t a (result (Gives Ordered) (spent_at p t) (order_of_register a said) false)
  -- 6. "Authenticate: handle not good gives 6a80; P1 07 gives 6985; buffer under 77 gives R2; for P1 03 touch check, 6985;
  -- counter answer failed gives 6a80; else the offered counter is reported as taken, and an order." "presence byte (01 for P1
  -- 03, 00 for 08)"
  bad_handle : (p1 : ℕ) (said : Says) → NotRefused p a.side t → Comes a (Authenticate p1 said) → a.hardware.good ≡ false → Answers p t a (unordered (SW 0x6a80) (moved_at p t))
  check_only : (said : Says) → NotRefused p a.side t → Comes a (Authenticate 0x07 said) → a.hardware.good ≡ true → Answers p t a (unordered (SW 0x6985) (moved_at p t))
  sign_short : (p1 : ℕ) (said : Says) → NotRefused p a.side t → Comes a (Authenticate p1 said) → a.hardware.good ≡ true → (p1 ≡ 0x07 → ⊥) → a.room < 77
      → Answers p t a (unordered (R 2) p)
  sign_6985 : (said : Says) → Signing p t a 0x03 said → (HasTouch p t → ⊥) → Answers p t a (unordered (SW 0x6985) (prompted_at p a.side t))
  sign_other : (said : Says) → Signing p t a 0x03 said → OthersTouch p t a → Answers p t a (unordered (SW 0x6985) (moved_at p t))
  no_counter_03 : (said : Says) → Signing p t a 0x03 said → OwnTouch p t a → a.hardware.counter ≡ None → Answers p t a (unordered (SW 0x6a80) (spent_at p t))
  signs_03 : (said : Says) (n : ℕ) → Signing p t a 0x03 said → OwnTouch p t a → a.hardware.counter ≡ Some n
      → Answers p t a (result (Gives Ordered) (spent_at p t) (order_of_authenticate a said 0x01 n) true)
  no_counter_08 : (said : Says) → Signing p t a 0x08 said → a.hardware.counter ≡ None → Answers p t a (unordered (SW 0x6a80) (moved_at p t))
  signs_08 : (said : Says) (n : ℕ) → Signing p t a 0x08 said → a.hardware.counter ≡ Some n
      → Answers p t a (result (Gives Ordered) (moved_at p t) (order_of_authenticate a said 0x00 n) true)
  -- 02, E2: "C0 after the CLA check gives 6a86 .., then 6700 .." (the frame's status, as above), "then 6985 when nothing remains; then .. R2
  -- when the lent body is too short for its remainder or the buffer for part and status"; else the next part, and what remains after it.
  -- `frame_limit frame` is the most that it takes: Le, 256 where absent, and 0, no limit, in an extended shape; `part_length limit count` is count,
  -- or the limit if that is less
  fetch_nothing : NotRefused p a.side t → Comes a GetResponse → a.remainder.count ≡ 0 → Answers p t a (unordered (SW 0x6985) (moved_at p t))
  fetch_short_body : Fetching p t a → a.room < a.remainder.place + a.remainder.count → Answers p t a (unordered (R 2) p)
  fetch_short_part : Fetching p t a → a.remainder.place + a.remainder.count ≤ a.room → a.part_room < part_length (frame_limit a.frame) a.remainder.count + 2
      → Answers p t a (unordered (R 2) p)
  fetch : (n : ℕ) → n ≡ part_length (frame_limit a.frame) a.remainder.count → Fetching p t a → a.remainder.place + a.remainder.count ≤ a.room → n + 2 ≤ a.part_room
      → Answers p t a (unordered (Gives (Part (n + 2) (rest (a.remainder.place + n) (a.remainder.count - n)))) (moved_at p t))

-- Whatever is lent, the result is the one that the table has for it: there is one alone (proofs/Only.antt).
abbrev pub DecidesExactly : Decider → Type 0
DecidesExactly decide = (p : Presence) (t : ℕ) (a : Inputs) → Answers p t a (decide p t a)
