-- What is promised of responses and of a body in parts: open this file first. Each claim takes the program as its argument; the definitions
-- of Responses.antt and Parts.antt meet it by proofs/Theorems.antt, and the programs of Wrong.antt do not by proofs/Refuted.antt. By
-- proofs/Only.antt nothing else meets a claim named `..Exactly`, and by proofs/Follows.antt the truth, the joining and the number of parts follow
-- of whatever meets `NextExactly`, and `RoomServes` where a room meets `RoomExactly` beside it. The words `Writer`, `Sender`, `IsResponse`, `Goes`, `Tells`,
-- `Sends`: Terms.antt. Of a sequence of calls: Fetching.antt.
use Rattle.std.specs.Prelude.{◌↔◌, ◌⊎◌, replicate, ◌+◌, ◌<◌, ◌≤◌, ◌≡◌, ◌∷◌, ◌++◌}
use Rattle.response_stated.specs.Words.{ℕ, List, [], length, take, drop, AtMostOne, Outcome, R, Gives, Refusal, refusal_no, AreBytes, Apdu, Says, says_of, Remainder, rest, ReadResponse, WroteResponse, NextPart, ResponseRoom, Response, Sent, response_read, response_written, part_sent, room_said}
use Rattle.std.specs.Prelude.{Ok, Err}
use Rattle.response_stated.specs.Promises.{Limit, Nothing, WriteResponse, ReadsResponse, ResponseBody, PartNext, RoomFor}
use Rattle.response_stated.specs.Terms.{Writer, Sender, reading, sending, spelled, IsResponse, Goes, Tells, Sends}
use Rattle.response_stated.specs.Fetching.{Fetch, called, remaining, joined, after, calls_until_done, Each, HasRoom, Takes, RoundsUp}

-- ---- a response, written and read

-- 02, E2: "the ISO 7816-4 response form, body then two status bytes, written"; ours: R2 when the buffer is short, else the response at
-- the front, the rest left. The answer is the response's length. A refusal leaves the buffer.
-- Rejects the status before the body (`status_first`), its low byte first (`low_byte_first`), a response that begins one byte on (`one_byte_on`), a
-- rest that is cleared (`clears_the_rest`), and room for the body alone (`no_room_for_status`). Bites at a body of none.
pub record WritesExactly (write : Writer) : Type 0 where
  pub r2 : (body : List ℕ) (status : ℕ) (old : List ℕ) → ((write body status old).0 ≡ R 2) ↔ (length old < length body + 2)
  pub writes : (body : List ℕ) (status : ℕ) (old : List ℕ) → length body + 2 ≤ length old
      → write body status old ≡ (Gives (length body + 2), spelled body status ++ drop (length body + 2) old)
  pub refused : (body : List ℕ) (status : ℕ) (old : List ℕ) (n : ℕ) → (write body status old).0 ≡ R n → (write body status old).1 ≡ old

-- 02, E2: "Reading a response under two bytes gives R2", and nothing else does; any other bytes are a body and a status, and are read as them.
-- Rejects the low byte first (`read_low_first`), a body that counts the status (`body_with_status`), R2 for two bytes (`wants_a_body`). Bites at 90 00.
pub record ReadsExactly (read : List ℕ → Outcome Response) : Type 0 where
  pub r2 : (bytes : List ℕ) → (read bytes ≡ R 2) ↔ (length bytes < 2)
  pub reads : (bytes : List ℕ) (n status : ℕ)
      → (read bytes ≡ Gives (reading n status)) ↔ ((body : List ℕ) × (length body ≡ n) × IsResponse bytes body status)

-- Ours: the body is a part of the caller's slice, what stands before the last two bytes; none where there are not two.
-- Rejects a body with the status behind it (`cut_with_status`), and without its last byte (`cut_one_short`). Bites at 90 00, and at 01 90 00.
pub record BodyExactly (cut : List ℕ → List ℕ) : Type 0 where
  pub before : (body : List ℕ) (sw1 sw2 : ℕ) → cut (body ++ (sw1 ∷ sw2 ∷ [])) ≡ body
  pub under : (bytes : List ℕ) → length bytes < 2 → cut bytes ≡ []

-- Ours: a response that is written and read is the same, and back. Rejects a writer with the low byte first (`low_byte_first`) beside a right reader.
-- Bites at 9000.
abbrev pub WrittenThenRead : (List ℕ → Outcome Response) → (List ℕ → List ℕ) → Writer → Type 0
WrittenThenRead read cut write =
    (body : List ℕ) (status : ℕ) (old : List ℕ) (n : ℕ) → status < 65536 → (write body status old).0 ≡ Gives n
    → (read (take n (write body status old).1) ≡ Gives (reading (length body) status)) × (cut (take n (write body status old).1) ≡ body)

-- Rejects a body that comes back with its status (`cut_with_status`). Bites at 90 00.
abbrev pub ReadThenWritten : (List ℕ → Outcome Response) → (List ℕ → List ℕ) → Writer → Type 0
ReadThenWritten read cut write =
    (bytes old : List ℕ) (n status : ℕ) → AreBytes bytes → read bytes ≡ Gives (reading n status) → length bytes ≤ length old
    → write (cut bytes) status old ≡ (Gives (length bytes), bytes ++ drop (length bytes) old)

-- ---- how much a frame takes

-- 02, E2: "For shapes 1 to 4, a body longer than Le (256 where absent) is cut"; "Extended shapes get the whole body": no limit, said as 0 (ours).
-- An absent Le is read as 0. Rejects a limit of 256 for extended shapes (`extended_cut`), an extended shape with a small Le taken for a short
-- one (`small_le_is_short`), and an absent Le taken for no limit (`absent_is_none`). Bites at shapes 1, 7 and 8.
pub record LimitExactly (limit : Says → ℕ) : Type 0 where
  pub said : (says : Says) → says.shape ≤ 4 → 1 ≤ says.le → limit says ≡ says.le
  pub absent : (says : Says) → says.shape ≤ 4 → says.le ≡ 0 → limit says ≡ 256
  pub extended : (says : Says) → 5 ≤ says.shape → limit says ≡ 0

-- Ours: the limit is 1 to 256, or 0 for none, of every frame that is read, and none exactly in shapes 5, 7 and 8.
-- Rejects `absent_is_none` at a frame of four bytes, `extended_cut` at shape 8 and `small_le_is_short` at shape 7.
pub record LimitOfFrames (read : List ℕ → Outcome Says) (limit : Says → ℕ) : Type 0 where
  pub most : (frame : List ℕ) (says : Says) → AreBytes frame → read frame ≡ Gives says → limit says ≤ 256
  pub none : (frame : List ℕ) (says : Says) → AreBytes frame → read frame ≡ Gives says → (limit says ≡ 0) ↔ (5 ≤ says.shape)

-- Ours: what nothing left is. Rejects `one_byte_left` and `nothing_at1`.
abbrev pub NothingExactly : Remainder → Type 0
NothingExactly r = (r.place ≡ 0) × (r.count ≡ 0)

-- ---- one part

-- 02, E2: "R2 when the lent body is too short for its remainder or the buffer for part and status"; "any R refusal keeps it". Ours: the body is looked at
-- first, and place + count is a sum of whole numbers, never wrapped. Otherwise: of what remains, `part` and then `left`, part goes out,
-- with the status for what is left after it, at the buffer's front, and left remains.
-- Rejects XX counted before the part (`counts_before`), 256 left as 61 FF (`says_ff`), the part from the body's start again (`from_the_start`), a part one
-- byte short or long (`one_byte_short`, `one_byte_long`), a sum that wraps (`wraps_the_sum`), a remainder that did not move (`does_not_move`), a refusal that
-- writes (`refusal_writes`), and a status before the part (`sends_status_first`). A refusal has no remainder, so that none can hand back a moved one:
-- that the record keeps its remainder is the decision's claim.
pub record NextExactly (next : Sender) : Type 0 where
  pub r2 : (body : List ℕ) (r : Remainder) (limit : ℕ) (old : List ℕ)
      → ((next body r limit old).0 ≡ R 2)
      ↔ ((length body < r.place + r.count) ⊎ ((n : ℕ) × Goes limit r.count n × (length old < n + 2)))
  pub sends : (before part left behind : List ℕ) (limit status : ℕ) (old : List ℕ)
      → Goes limit (length part + length left) (length part) → Tells (length left) status → length part + 2 ≤ length old
      → next (before ++ (part ++ (left ++ behind))) (rest (length before) (length part + length left)) limit old
      ≡ (Gives (sending (length part + 2) (rest (length before + length part) (length left))), spelled part status ++ drop (length part + 2) old)
  pub refused : (body : List ℕ) (r : Remainder) (limit : ℕ) (old : List ℕ) (n : ℕ) → (next body r limit old).0 ≡ R n → (next body r limit old).1 ≡ old

-- 02, E2: "61 XX, XX the rest's length, or 00 for 256 and more", with every part, and 9000 too: both ways, and what is left is what was there without the part.
-- Rejects `counts_before` and 9000 with every part (`always9000`) at 2 bytes of which one goes out, `says_ff` at 257, `does_not_move` at one byte.
pub record TellsTheTruth (next : Sender) : Type 0 where
  pub done : (body : List ℕ) (r : Remainder) (limit : ℕ) (old part : List ℕ) (status : ℕ) (left : Remainder)
      → Sends (next body r limit old) part status left → (status ≡ 0x9000) ↔ (left.count ≡ 0)
  pub some : (body : List ℕ) (r : Remainder) (limit : ℕ) (old part : List ℕ) (status : ℕ) (left : Remainder)
      → Sends (next body r limit old) part status left → (n : ℕ) → 1 ≤ n → n ≤ 255 → (status ≡ 0x6100 + n) ↔ (left.count ≡ n)
  pub many : (body : List ℕ) (r : Remainder) (limit : ℕ) (old part : List ℕ) (status : ℕ) (left : Remainder)
      → Sends (next body r limit old) part status left → (status ≡ 0x6100) ↔ (256 ≤ left.count)
  pub without_part : (body : List ℕ) (r : Remainder) (limit : ℕ) (old part : List ℕ) (status : ℕ) (left : Remainder)
      → Sends (next body r limit old) part status left
      → (length part + left.count ≡ r.count) × (left.place + left.count ≡ r.place + r.count)

-- Ours: a part asked for in shape 1 to 4 has at most Le bytes (256 where absent), in an extended shape it is all that remains, whatever its Le. The
-- answer counts two status bytes more. Rejects `one_byte_long` at Le 1, `absent_is_none` at shape 1, `extended_cut` at shape 8, each at 257 bytes.
pub record PartWithinLe (limit : Says → ℕ) (next : Sender) : Type 0 where
  pub said : (says : Says) (body : List ℕ) (r : Remainder) (old : List ℕ) (n : ℕ) (left : Remainder) → says.shape ≤ 4 → 1 ≤ says.le
      → (next body r (limit says) old).0 ≡ Gives (sending n left) → n ≤ says.le + 2
  pub absent : (says : Says) (body : List ℕ) (r : Remainder) (old : List ℕ) (n : ℕ) (left : Remainder) → says.shape ≤ 4 → says.le ≡ 0
      → (next body r (limit says) old).0 ≡ Gives (sending n left) → n ≤ 256 + 2
  pub extended : (says : Says) (body : List ℕ) (r : Remainder) (old : List ℕ) (n : ℕ) (left : Remainder) → 5 ≤ says.shape
      → (next body r (limit says) old).0 ≡ Gives (sending n left) → (n ≡ r.count + 2) × (left.count ≡ 0)

-- Ours: the longest response to a frame in shape 1 to 4 has 258 bytes, and it is reached. Rejects `one_byte_long`, and a sender that keeps to 255
-- (`at_most255`). Bites at 257 bytes and a frame of four.
pub record LongestIs258 (read : List ℕ → Outcome Says) (limit : Says → ℕ) (next : Sender) : Type 0 where
  pub within : (frame : List ℕ) (says : Says) (body : List ℕ) (r : Remainder) (old : List ℕ) (n : ℕ) (left : Remainder)
      → AreBytes frame → read frame ≡ Gives says → says.shape ≤ 4 → (next body r (limit says) old).0 ≡ Gives (sending n left) → n ≤ 258
  pub reached : (says : Says)
      × (read (0x00 ∷ 0x03 ∷ 0x00 ∷ 0x00 ∷ []) ≡ Gives says)
      × ((next (replicate 257 0) (rest 0 257) (limit says) (replicate 258 0)).0 ≡ Gives (sending 258 (rest 256 1)))

-- ---- the room for a first part

-- Ours: of `longest` bytes what goes out under the limit, and two for the status; R2 where that is 2^64 or more, which no length can say.
-- Rejects room for the part alone (`room_for_part_alone`), for the body whatever the limit (`room_for_body`), for the limit whatever the body
-- (`room_for_limit`), and a sum that wraps (`wraps_the_room`). Bites at a body of none, at limit 1 and 2 bytes, at limit 2 and one byte, and at 2^64 - 2 bytes.
pub record RoomExactly (room : (limit longest : ℕ) → Outcome ℕ) : Type 0 where
  pub said : (limit longest n : ℕ) → Goes limit longest n → n + 2 < 0x10000000000000000 → room limit longest ≡ Gives (n + 2)
  pub unsaid : (limit longest n : ℕ) → Goes limit longest n → 0x10000000000000000 ≤ n + 2 → room limit longest ≡ R 2

-- Ours: with a buffer of that length the first part of no body of at most `longest` bytes is refused, and with a shorter one that of a body of `longest`
-- bytes is. Where there is R2 for a room it says nothing.
-- Rejects `room_for_part_alone` and `wraps_the_room`, which are too little for a body of none, and `room_for_body` and `room_for_limit`, one byte more than is needed.
pub record RoomServes (room : (limit longest : ℕ) → Outcome ℕ) (next : Sender) : Type 0 where
  pub enough : (limit longest m n : ℕ) (body old : List ℕ) → room limit longest ≡ Gives m → n ≤ longest → n ≤ length body → m ≤ length old
      → (k : ℕ) → (next body (rest 0 n) limit old).0 ≡ R k → ⊥
  pub needed : (limit longest m : ℕ) (body old : List ℕ) → room limit longest ≡ Gives m → longest ≤ length body → length old < m
      → (next body (rest 0 longest) limit old).0 ≡ R 2

-- ---- all parts

-- 02, E2: "Joining the parts, at any Le values, gives the uncut body". Of every body, every n bytes at its front, and every sequence of calls with any
-- limits and buffers: the parts sent so far, joined, and then what remains, are those n bytes; and once a call carries 9000 the parts alone are.
-- Rejects `from_the_start` and `does_not_move` at two bytes fetched one by one.
pub record PartsJoin (next : Sender) : Type 0 where
  pub so_far : (body : List ℕ) (n : ℕ) (fetches : List Fetch) → n ≤ length body
      → joined next body (rest 0 n) fetches ++ remaining body (after next body (rest 0 n) fetches) ≡ take n body
  pub done : (body : List ℕ) (n : ℕ) (fetches : List Fetch) (a : Fetch) (part : List ℕ) (left : Remainder) → n ≤ length body
      → Sends (called next body (after next body (rest 0 n) fetches) a) part 0x9000 left
      → joined next body (rest 0 n) fetches ++ part ≡ take n body

-- Ours: a body of n bytes takes at most n parts (one where n is 0), and exactly n / L rounded up (one where n is 0) where every limit is L, counted up to
-- the part that carries 9000, of calls that each have room. Rejects a sender that keeps to one byte a call (`one_at_a_time`) and `does_not_move`. Bites at 2 bytes.
pub record NumberOfParts (next : Sender) : Type 0 where
  pub at_most : (body : List ℕ) (n : ℕ) (fetches : List Fetch) → n ≤ length body → 1 ≤ n → Each (HasRoom n) fetches
      → calls_until_done next body (rest 0 n) fetches ≤ n
  pub of_none : (body : List ℕ) (fetches : List Fetch) → Each (HasRoom 0) fetches → calls_until_done next body (rest 0 0) fetches ≤ 1
  pub nothing_left : (body : List ℕ) (n : ℕ) (fetches : List Fetch) → n ≤ length body → Each (HasRoom n) fetches → n ≤ length fetches
      → (after next body (rest 0 n) fetches).count ≡ 0
  pub exactly : (body : List ℕ) (n L k : ℕ) (fetches : List Fetch) → n ≤ length body → 1 ≤ L → RoundsUp n L k → Each (Takes L) fetches → k ≤ length fetches
      → calls_until_done next body (rest 0 n) fetches ≡ k

-- ---- the contracts

-- What each answer says, in the documents' numbers: each case has its values, and no other has them. Rejects a view that gives the length of the body for the
-- status (`length_for_status`), one that counts no status bytes (`without_status_bytes`), one that says the part's length for what is left (`length_for_left`),
-- and one that gives a refusal's number for a room (`refusal_for_room`).
pub record ReadSaidExactly (said : ReadResponse → Outcome Response) : Type 0 where
  pub refused : (a : ReadResponse) (why : Refusal) → (said a ≡ R (refusal_no why)) ↔ (a ≡ Err why)
  pub response : (a : ReadResponse) (n status : ℕ) → (said a ≡ Gives (reading n status)) ↔ (a ≡ Ok (reading n status))

pub record WrittenSaidExactly (said : WroteResponse → Outcome ℕ) : Type 0 where
  pub refused : (a : WroteResponse) (why : Refusal) → (said a ≡ R (refusal_no why)) ↔ (a ≡ Err why)
  pub response : (a : WroteResponse) (n : ℕ) → (said a ≡ Gives n) ↔ (a ≡ Ok n)

pub record PartSaidExactly (said : NextPart → Outcome Sent) : Type 0 where
  pub refused : (a : NextPart) (why : Refusal) → (said a ≡ R (refusal_no why)) ↔ (a ≡ Err why)
  pub part : (a : NextPart) (n : ℕ) (left : Remainder) → (said a ≡ Gives (sending n left)) ↔ (a ≡ Ok (sending n left))

pub record RoomSaidExactly (said : ResponseRoom → Outcome ℕ) : Type 0 where
  pub refused : (a : ResponseRoom) (why : Refusal) → (said a ≡ R (refusal_no why)) ↔ (a ≡ Err why)
  pub bytes : (a : ResponseRoom) (n : ℕ) → (said a ≡ Gives n) ↔ (a ≡ Ok n)

-- Whatever meets a function's contract meets the claim on it, the functions that no call from C comes to as well; `limit` takes a frame's answer and no
-- numbers, and gives what whatever meets the claim gives of the numbers. A contract of `response_body` that keeps SW1 fails it, with code to match.
pub record ContractsAsClaimed : Type 0 where
  pub limit : (f : Apdu → ℕ) → ((a : Apdu) → Limit a (f a)) → (g : Says → ℕ) → LimitExactly g → (a : Apdu) → f a ≡ g (says_of a)
  pub nothing : (r : Remainder) → Nothing r → NothingExactly r
  pub write_response : (f : (body : List ℕ) (status : ℕ) (old : List ℕ) → WroteResponse × List ℕ)
      → ((body : List ℕ) (status : ℕ) (old : List ℕ) → WriteResponse body status old (f body status old).0 (f body status old).1)
      → WritesExactly (λ body status old. (response_written (f body status old).0, (f body status old).1))
  pub read_response : (f : List ℕ → ReadResponse) → ((bytes : List ℕ) → ReadsResponse bytes (f bytes)) → ReadsExactly (λ bytes. response_read (f bytes))
  pub response_body : (f : List ℕ → List ℕ) → ((bytes : List ℕ) → ResponseBody bytes (f bytes)) → BodyExactly f
  pub next_part : (f : (body : List ℕ) → Remainder → (limit : ℕ) (old : List ℕ) → NextPart × List ℕ)
      → ((body : List ℕ) (r : Remainder) (limit : ℕ) (old : List ℕ) → PartNext body r limit old (f body r limit old).0 (f body r limit old).1)
      → NextExactly (λ body r limit old. (part_sent (f body r limit old).0, (f body r limit old).1))
  pub room : (f : (limit longest : ℕ) → ResponseRoom) → ((limit longest : ℕ) → RoomFor limit longest (f limit longest))
      → RoomExactly (λ limit longest. room_said (f limit longest))

-- the answers' words tell the cases apart
pub record AnswersOneToOne : Type 0 where
  pub read : (a b : ReadResponse) → response_read a ≡ response_read b → a ≡ b
  pub wrote : (a b : WroteResponse) → response_written a ≡ response_written b → a ≡ b
  pub next : (a b : NextPart) → part_sent a ≡ part_sent b → a ≡ b
  pub room : (a b : ResponseRoom) → room_said a ≡ room_said b → a ≡ b

-- 01: "Show that two results satisfying it are equal". Of a writer and a sender, the answer and the buffer.
pub record ResultsDetermined : Type 0 where
  pub limit : (says : Apdu) → AtMostOne (Limit says)
  pub nothing : AtMostOne Nothing
  pub write_response : (body : List ℕ) (status : ℕ) (old : List ℕ)
      → AtMostOne (λ (o : WroteResponse × List ℕ). WriteResponse body status old o.0 o.1)
  pub read_response : (bytes : List ℕ) → AtMostOne (ReadsResponse bytes)
  pub response_body : (bytes : List ℕ) → AtMostOne (ResponseBody bytes)
  pub next_part : (body : List ℕ) (r : Remainder) (limit : ℕ) (old : List ℕ)
      → AtMostOne (λ (o : NextPart × List ℕ). PartNext body r limit old o.0 o.1)
  pub room : (limit longest : ℕ) → AtMostOne (RoomFor limit longest)
