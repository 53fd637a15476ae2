-- What each public function of `response` promises of its result, and of what its lent buffer holds afterwards, on every input.
use Rattle.std.specs.Prelude.{◌≡◌}
use Rattle.response_stated.specs.Words.{ℕ, List, Apdu, says_of, Remainder, ReadResponse, WroteResponse, NextPart, ResponseRoom, rest, response_read, response_written, part_sent, room_said}
use Rattle.response_stated.specs.Responses.{read_response_of, response_body_of}
use Rattle.response_stated.specs.Parts.{limit_of, response_room_of}
use Rattle.response_stated.specs.Terms.{writing_of, sending_of}

abbrev pub Limit : Apdu → ℕ → Type 0
Limit says r = r ≡ limit_of (says_of says)

abbrev pub Nothing : Remainder → Type 0
Nothing r = r ≡ rest 0 0

abbrev pub WriteResponse : (body : List ℕ) (status : ℕ) (entry : List ℕ) → WroteResponse → (exit : List ℕ) → Type 0
WriteResponse body status entry r exit =
    (response_written r ≡ (writing_of body status entry).0) × (exit ≡ (writing_of body status entry).1)

abbrev pub ReadsResponse : List ℕ → ReadResponse → Type 0
ReadsResponse response r = response_read r ≡ read_response_of response

abbrev pub ResponseBody : List ℕ → List ℕ → Type 0
ResponseBody response r = r ≡ response_body_of response

abbrev pub PartNext : (body : List ℕ) → Remainder → (limit : ℕ) (entry : List ℕ) → NextPart → (exit : List ℕ) → Type 0
PartNext body remainder limit entry r exit =
    (part_sent r ≡ (sending_of body remainder limit entry).0) × (exit ≡ (sending_of body remainder limit entry).1)

abbrev pub RoomFor : (limit longest : ℕ) → ResponseRoom → Type 0
RoomFor limit longest r = room_said r ≡ response_room_of limit longest
