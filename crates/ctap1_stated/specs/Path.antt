-- Document 01, 'The decision', checks 2 to 6, and document 02, E2, the checks of C0, as one path: what is lent in, without the record, the side and the moment, says how far a
-- decision comes and with what. What the record adds stands in specs/Decision.antt.
use Rattle.ctap1_stated.specs.Words.{ℕ, Bool, true, false, not, List, ltb, eqb, length, Order, Allowed, Counter, Hardware}
use Rattle.ctap1_stated.specs.Words.{when◌then◌else◌, StatusWord, Outcome, R, Word, Gives, plain_word, is_present, Remainder, Inputs, Enrolment}
use Rattle.ctap1_stated.specs.declared.Allowed.TheVariants as Allowed'
use Rattle.std.specs.Prelude.{Some, None}
use Rattle.octets.specs.Bytes.{bytes4}
use Rattle.apdu_stated.specs.Answers.{Says}
use Rattle.apdu_stated.specs.Reading.{read_of}
use Rattle.response_stated.specs.declared.Sent.{Sent}
use Rattle.response_stated.specs.Parts.{limit_of, next_part_of}
use Rattle.command_stated.specs.Command.{Command, Register, Authenticate, Version, GetResponse, command_of, challenge_of, application_of}
use Rattle.u2f_up_stated.specs.History.{Role, Checking, Settling, TooShort}
use Rattle.signing_stated.specs.Layouts.{presence_byte}
use Rattle.signing_stated.specs.Orders.{register_order_of, authenticate_order_of}
use Rattle.signing_stated.specs.Finishing.{register_room, authenticate_room}

-- the last step: 6f00, 6a80, or an order, with the counter taken or not
pub data PathEnd : Type 0 where
  Internal : PathEnd
  WrongData : PathEnd
  Orders : Order → (taken : Bool) → PathEnd

-- how far a decision comes, once the moment is settled
pub data DecisionPath : Type 0 where
  NoRoom : DecisionPath  -- R2
  Ends : StatusWord → DecisionPath  -- a status word, without the touch check
  SixBytes : DecisionPath  -- Version's body
  Fetches : Sent → DecisionPath  -- the next part of an earlier body
  Signs : PathEnd → DecisionPath  -- P1 08: the last step, without the touch check
  Touch : PathEnd → DecisionPath  -- the touch check, 6985; with a touch the last step

-- the same with a status word that has no pair
abbrev pub Status : ℕ → DecisionPath
Status n = Ends (plain_word n)

-- 01: the order's contents
unfoldable pub enrolment_order : List ℕ → Says → Enrolment → Order
enrolment_order frame said e =
    register_order_of
    (record {
      application = application_of frame said;
      challenge = challenge_of frame said;
      handle = e.new_handle;
      x = e.x;
      y = e.y;
    })
    (length e.certificate)

abbrev pub register_ordered : Inputs → Says → Order
register_ordered a said = enrolment_order a.frame said (record { new_handle = a.new_handle; certificate = a.certificate; x = a.x; y = a.y })

abbrev pub signing_order : List ℕ → Says → Bool → ℕ → Order
signing_order frame said present n =
    authenticate_order_of
    (record {
      application = application_of frame said;
      presence = presence_byte present;
      counter = bytes4 n;
      challenge = challenge_of frame said;
    })

abbrev pub authenticate_ordered : Inputs → Says → Bool → ℕ → Order
authenticate_ordered a said present n = signing_order a.frame said present n

-- 5. "then 6f00 if the store failed, h > 255, or the attestation is missing or failed; else an order"
unfoldable pub register_ending : Inputs → Says → PathEnd
register_ending a said =
    when not a.hardware.stored then Internal
    else when ltb 255 (length a.new_handle) then Internal
    else when not (is_present a.hardware.attestation) then Internal
    else Orders (register_ordered a said) false

-- 6. "counter answer failed gives 6a80; else the offered counter is reported as taken, and an order"
unfoldable pub counted_ending : List ℕ → Says → Bool → Counter → PathEnd
counted_ending frame said present None = WrongData
counted_ending frame said present (Some n) = Orders (signing_order frame said present n) true

-- 6. "handle not good gives 6a80; P1 07 gives 6985; buffer under 77 gives R2; for P1 03 touch check"
unfoldable pub login_path : List ℕ → Hardware → (room : ℕ) → ℕ → Says → DecisionPath
login_path frame hardware room p1 said =
    when not hardware.good then Status 0x6a80
    else when eqb p1 0x07 then Status 0x6985
    else when ltb room authenticate_room then NoRoom
    else when eqb p1 0x03 then Touch (counted_ending frame said true hardware.counter)
    else Signs (counted_ending frame said false hardware.counter)

abbrev pub authenticate_path : Inputs → ℕ → Says → DecisionPath
authenticate_path a p1 said = login_path a.frame a.hardware a.room p1 said

-- 5. "Register: R2 if the buffer is shorter than 139 + h + c ..; touch check"
unfoldable pub register_path : Inputs → Says → DecisionPath
register_path a said =
    when ltb a.room (register_room (length a.new_handle) (length a.certificate)) then NoRoom
    else Touch (register_ending a said)

-- 4. "Version: buffer under 6 gives R2; else the body"
unfoldable pub version_path : ℕ → DecisionPath
version_path room = when ltb room 6 then NoRoom else SixBytes

-- 02, E2: how many bytes of body a frame takes at a time, as its shape and Le say; bytes in no shape get no body, and 0 stands there
abbrev pub limit_on : Outcome Says → ℕ
limit_on (R n) = 0
limit_on (Word s) = 0
limit_on (Gives said) = limit_of said

unfoldable pub frame_limit : List ℕ → ℕ
frame_limit frame = limit_on (read_of frame)

-- the next part: R2 or the part (it gives no status word)
abbrev pub sent_path : Outcome Sent → DecisionPath
sent_path (R n) = NoRoom
sent_path (Word s) = Ends s
sent_path (Gives sent) = Fetches sent

-- 02, E2, of C0: "then 6985 when nothing remains; then .. R2 when the lent body is too short for its remainder or the buffer for part and
-- status". The lent body is what the reply buffer holds
unfoldable pub fetch_path : (room : ℕ) → Remainder → (limit part_room : ℕ) → DecisionPath
fetch_path room remainder limit part_room =
    when eqb remainder.count 0 then Status 0x6985
    else sent_path (next_part_of room remainder limit part_room)

-- 3. "the frame's status", with its pair (02, E1: "Command reading, strict reading and decision carry the pair upward"), 4. Version,
-- 5. Register, 6. Authenticate, and C0. (Command reading gives no refusal: its words have one, and the first line is never met. A type of its own for it would be
-- one more word for the reader.)
unfoldable pub command_path : Inputs → Outcome Command → DecisionPath
command_path a (R n) = NoRoom
command_path a (Word s) = Ends s
command_path a (Gives Version) = version_path a.room
command_path a (Gives GetResponse) = fetch_path a.room a.remainder (frame_limit a.frame) a.part_room
command_path a (Gives (Register said)) = register_path a said
command_path a (Gives (Authenticate p1 said)) = authenticate_path a p1 said

-- 2. "failed gives 6f00, no gives 6986"
unfoldable pub allowed_path : Allowed → Inputs → DecisionPath
allowed_path Allowed'.Failed a = Status 0x6f00
allowed_path Allowed'.No a = Status 0x6986
allowed_path Allowed'.Yes a = command_path a (command_of a.frame)

unfoldable pub path_of : Inputs → DecisionPath
path_of a = allowed_path a.hardware.allowed a

-- 01, Moments and touches, "In history terms": what a decision is to the presence record, read off its path. No line here looks
-- at the record. "never a 6985 from P1 07": that is a status without the touch check, and so is C0's (02, E2: "demand 3 is unchanged"). Each
-- with the side that the decision names
abbrev pub role_of_path : (side : ℕ) → DecisionPath → Role
role_of_path side NoRoom = TooShort side
role_of_path side (Ends s) = Settling side
role_of_path side SixBytes = Settling side
role_of_path side (Fetches sent) = Settling side
role_of_path side (Signs e) = Settling side
role_of_path side (Touch e) = Checking side

abbrev pub role_of : Inputs → Role
role_of a = role_of_path a.side (path_of a)
