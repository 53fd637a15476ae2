-- The types that cross to C, the enums that their numbers stand for, and the other crates' definitions that the exports are
-- stated through: the files here take the names from this one.
pub use Rattle.std.specs.Prelude.{ℕ, zero, suc, ◌+◌, ◌-◌, ◌^◌, ◌≤◌, ◌<◌, ◌≡◌, Bool, true, false, List, [], ◌∷◌, eqb, length, get_or}
pub use Rattle.outcome.specs.Notation.{when◌then◌else◌, AtMostOne}
pub use Rattle.outcome.specs.Outcome.{StatusWord, Outcome, R, Word, SW, Gives, plain_word, last_refusal}
pub use Rattle.outcome.specs.Terms.{HasStatus}
pub use Rattle.apdu_stated.specs.declared.Case.{Case}
pub use Rattle.apdu_stated.specs.declared.Case.TheVariants.{Instruction, Le1, Lc1Data, Lc1DataLe1, Lc3Data, Lc3DataLe2, Le3}
pub use Rattle.apdu_stated.specs.declared.ApduHeader.{ApduHeader}
pub use Rattle.u2f_up_stated.specs.Words.{Window}
pub use Rattle.std.specs.Prelude.{Option, None, Some}
pub use Rattle.u2f_up_stated.specs.declared.Presence.{Presence}
pub use Rattle.u2f_up_stated.specs.declared.PresenceRecord.{PresenceRecord}
pub use Rattle.signing_stated.specs.declared.Kind.{Kind}
pub use Rattle.signing_stated.specs.declared.Head.{Head}
pub use Rattle.signing_stated.specs.Words.{Order, head_of}
pub use Rattle.ctap1_stated.specs.declared.Allowed.{Allowed}
pub use Rattle.ctap1_stated.specs.declared.Attestation.{Attestation}
pub use Rattle.ctap1_stated.specs.Words.{Counter}
pub use Rattle.ctap1_stated.specs.declared.Hardware.{Hardware}
pub use Rattle.ctap1_stated.specs.declared.HardwareSaid.{HardwareSaid}
pub use Rattle.panel_stated.specs.declared.OrderNumbers.{OrderNumbers}
pub use Rattle.panel_stated.specs.declared.FrameSaid.{FrameSaid}
pub use Rattle.panel_stated.specs.declared.CommandSaid.{CommandSaid}
pub use Rattle.panel_stated.specs.declared.Wrote.{Wrote}
pub use Rattle.panel_stated.specs.declared.Asked.{Asked}
pub use Rattle.panel_stated.specs.declared.DecisionSaid.{DecisionSaid}
pub use Rattle.panel_stated.specs.declared.ResponseSaid.{ResponseSaid}
pub use Rattle.panel_stated.specs.declared.RoomSaid.{RoomSaid}
pub use Rattle.apdu_stated.specs.Words.{shape_no}
pub use Rattle.apdu_stated.specs.Answers.{Says}
pub use Rattle.apdu_stated.specs.Reading.{read_by, read_of, strict_of, place_of}
pub use Rattle.apdu_stated.specs.Writing.{Parts, parts_of, write_by, buffer_by}
pub use Rattle.apdu_stated.specs.Table.{in_row}
pub use Rattle.apdu_stated.specs.declared.Entry.{Entry}
pub use Rattle.apdu_stated.specs.declared.Entry.TheVariants.{Ordinary, Strict}
pub use Rattle.command_stated.specs.Command.{Command, Register, Authenticate, Version, GetResponse, command_of, handle_place_of}
pub use Rattle.u2f_up_stated.specs.Moments.{Told, new_of, touch_of, check_of, ask_of}
pub use Rattle.signing_stated.specs.Orders.{kind_no, to_sign, certificate_length}
pub use Rattle.signing_stated.specs.Finishing.{finish_of, length_of, reply_of}
pub use Rattle.ctap1_stated.specs.Words.{DecisionGives, Body, Ordered, Part, DecisionResult, DecisionHanded, handed_of}
pub use Rattle.ctap1_stated.specs.Path.{frame_limit, fetch_path}
pub use Rattle.ctap1_stated.specs.Decision.{along, decision_of, reply_left, block_after, block_left}
pub use Rattle.ctap1_stated.specs.Session.{remainder_after, remainder_left, part_after, part_left}
pub use Rattle.response_stated.specs.declared.Remainder.{Remainder}
pub use Rattle.response_stated.specs.Words.{rest, response_read, response_written, part_sent}
pub use Rattle.response_stated.specs.declared.Response.{Response}
pub use Rattle.response_stated.specs.declared.Sent.{Sent}
pub use Rattle.response_stated.specs.Responses.{response_of, write_response_of, response_laid, read_response_of}
pub use Rattle.response_stated.specs.Parts.{next_part_of, part_response, part_laid}
pub use Rattle.session_stated.specs.declared.Session.{Session}
pub use Rattle.session_stated.specs.declared.SessionRecord.{SessionRecord}
pub use Rattle.session_stated.specs.Held.{remainder_in, session_in, session_after, frame_room_of}
pub use Rattle.session_stated.specs.Promises.{ToDecide, inputs_in}
pub use Rattle.u2f_up_stated.specs.Numbers.{presence_in}

-- a number that is a shape's, or none
abbrev pub Shaped : Type 0
Shaped = Option Case

-- a number that is one of the two kinds', or none
abbrev pub Kinded : Type 0
Kinded = Option Kind
