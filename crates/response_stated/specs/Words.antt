-- What is answered, in the documents' words; the names that the other files here are written with.
pub use Rattle.std.specs.Prelude.{ℕ, ◌+◌, ◌-◌, ◌*◌, ◌/◌, ◌%◌, ◌<◌, ◌≤◌, ◌≡◌, List, [], ◌∷◌, ◌++◌, ltb, leb, eqb, length, take, drop}
pub use Rattle.outcome.specs.Notation.{when◌then◌else◌, AtMostOne}
pub use Rattle.outcome.specs.declared.Refusal.{Refusal}
pub use Rattle.outcome.specs.Outcome.{Outcome, R, Word, Gives, refusal_no}
pub use Rattle.octets.specs.Bytes.{byte, bytes2, pair_at, laid, part_of, AreBytes}
pub use Rattle.apdu_stated.specs.declared.Apdu.{Apdu}
pub use Rattle.apdu_stated.specs.Answers.{Says, says_of}
pub use Rattle.response_stated.specs.declared.Remainder.{Remainder}
pub use Rattle.response_stated.specs.declared.Response.{Response}
pub use Rattle.response_stated.specs.declared.Sent.{Sent}
pub use Rattle.std.specs.Prelude.{Result, Ok, Err}

-- what reading a response, writing one, sending a part of one and asking for its room answer: the value, or R2
abbrev pub ReadResponse : Type 0
ReadResponse = Result Response Refusal

abbrev pub WroteResponse : Type 0
WroteResponse = Result ℕ Refusal

abbrev pub NextPart : Type 0
NextPart = Result Sent Refusal

abbrev pub ResponseRoom : Type 0
ResponseRoom = Result ℕ Refusal

-- a remainder of a lent body, as a place and a count (ours)
abbrev pub rest : (place count : ℕ) → Remainder
rest place count = record { place = place; count = count }

-- each answer in the documents' numbers
abbrev pub response_read : ReadResponse → Outcome Response
response_read (Err why) = R (refusal_no why)
response_read (Ok read) = Gives read

abbrev pub response_written : WroteResponse → Outcome ℕ
response_written (Err why) = R (refusal_no why)
response_written (Ok n) = Gives n

abbrev pub part_sent : NextPart → Outcome Sent
part_sent (Err why) = R (refusal_no why)
part_sent (Ok sent) = Gives sent

abbrev pub room_said : ResponseRoom → Outcome ℕ
room_said (Err why) = R (refusal_no why)
room_said (Ok n) = Gives n
