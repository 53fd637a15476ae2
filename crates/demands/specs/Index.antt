-- An index: what stands under the theorem on top (specs/Demands.antt), demand by demand. Each field is a claim on a definition, which that crate's contracts say its
-- functions give, and some are the lemmas of that theorem. What each claim means stands beside it in that crate's specs/Claims.antt; that nothing but the definition
-- meets it, in proofs/Only.antt; proofs/Index.antt inhabits the record.
use Rattle.std.specs.Prelude.{◌++◌}
use Rattle.outcome.specs.Claims as Numbers
use Rattle.outcome.specs.Outcome.{status_no, fault_of, word_of, refusal_no}
use Rattle.octets.specs.Claims as Bytes
use Rattle.octets.specs.Bytes.{laid, bytes2, bytes4, all_zero, part_of}
use Rattle.apdu_le.specs.Claims as LeFields
use Rattle.apdu_le.specs.Field.{said_of, put_of, can_say}
use Rattle.signing_fields.specs.Claims as Fields
use Rattle.signing_fields.specs.Terms.{contents, joined}
use Rattle.apdu_stated.specs.Table.{le_bytes}
use Rattle.apdu_stated.specs.Claims as Frames
use Rattle.apdu_stated.specs.Reading.{read_of, strict_of, data_of}
use Rattle.apdu_stated.specs.Terms.{InTable, Carries}
use Rattle.apdu_stated.specs.Writing.{writing_of, strict_writing_of}
use Rattle.apdu_table_stated.specs.Claims as Tables
use Rattle.apdu_table_stated.specs.Rows.{table_of}
use Rattle.apdu_table_stated.specs.Answers.{read_by_rows}
use Rattle.convert_stated.specs.Claims as Converter
use Rattle.convert_stated.specs.Converting.{is_old, convert_of}
use Rattle.command_stated.specs.Claims as Commands
use Rattle.apdu_stated.specs.Answers.{reading_of, written_of}
use Rattle.u2f_up_stated.specs.Answers.{outcome_of, ready_of, told_of}
use Rattle.ctap1_stated.specs.Words.{decision_answer_of}
use Rattle.command_stated.specs.Command.{command_said, command_of, challenge_of, application_of, handle_of, challenge_place_of, application_place_of, handle_place_of}
use Rattle.response_stated.specs.Claims as Responses
use Rattle.response_stated.specs.Responses.{read_response_of, response_body_of}
use Rattle.response_stated.specs.Terms.{writing_of as responding_of, sending_of}
use Rattle.u2f_up_stated.specs.Claims as Presence
use Rattle.u2f_up_stated.specs.Moments.{new_of, settle_of, touch_of, check_of, ask_of}
use Rattle.u2f_up_stated.specs.History.{Checking}
use Rattle.u2f_up_stated.specs.Runs.{own}
use Rattle.u2f_up_stated.specs.OneSide.{base, base_by, base_settle_of, base_checked_of}
use Rattle.signing_stated.specs.Claims as Signing
use Rattle.signing_stated.specs.Orders.{register_order_of, authenticate_order_of, authenticate_order_for}
use Rattle.signing_stated.specs.Finishing.{finish_of, finished_of, end_of}
use Rattle.ctap1_stated.specs.Claims as Decision
use Rattle.ctap1_stated.specs.Path.{frame_limit}
use Rattle.ctap1_stated.specs.Decision.{decision_of, reply_left, block_after}
use Rattle.ctap1_stated.specs.Session.{remainder_left, part_left}
use Rattle.session_stated.specs.Claims as Sessions
use Rattle.session_stated.specs.Held.{remainder_in, session_in, session_after, frame_room_of}
use Rattle.session_stated.specs.Promises.{inputs_in}
use Rattle.u2f_up_stated.specs.Numbers.{presence_in, checked_in, granted_in}
use Rattle.ctap1_stated.specs.OneSide.{base_decision_of}
use Rattle.datasheet_stated.specs.Claims as Datasheet
use Rattle.datasheet_stated.specs.Sheet.{sheet_of, needed_of}
use Rattle.panel_stated.specs.Claims as Panel
use Rattle.panel_stated.specs.Exports.{frame_numbers, command_numbers}

-- 1. Every frame, moment, answer and buffer length gets an answer, and nothing is asked of the caller beforehand. Every function ends and
-- meets its contract on every input: the check of its crate. That none has a `requires`: the gate's look at the contracts.
pub record EveryInputIsAnswered : Type 0 where
  -- the contracts leave nothing open: two results, and two final contents of what was lent, that meet one are equal
  pub numbers_determined : Numbers.ResultsDetermined
  pub bytes_determined : Bytes.ResultsDetermined
  pub le_determined : LeFields.ResultsDetermined
  pub fields_determined : Fields.ResultsDetermined
  pub frames_determined : Frames.ResultsDetermined
  pub tables_determined : Tables.ResultsDetermined
  pub converter_determined : Converter.ResultsDetermined
  pub commands_determined : Commands.ResultsDetermined
  pub presence_determined : Presence.ResultsDetermined
  pub responses_determined : Responses.ResultsDetermined
  pub signing_determined : Signing.ResultsDetermined
  pub decision_determined : Decision.ResultsDetermined
  pub sessions_determined : Sessions.ResultsDetermined
  pub sheet_determined : Datasheet.ResultsDetermined
  pub exports_determined : Panel.ResultsDetermined
  -- each refusal comes exactly under its condition: R6, R8 (02, E7) and R1, making and settling a record; touch, check, ask
  pub records : Presence.MakesExactly new_of
  pub moments : Presence.SettlesExactly settle_of
  pub touches : Presence.TouchesExactly touch_of
  pub checks : Presence.ChecksExactly check_of
  pub asks : Presence.AsksExactly ask_of
  -- R5 and R2 of the writer, and of the strict one (02, E4); what meets a contract of reading or writing meets these claims
  pub writing : Frames.WriteExactly Carries InTable writing_of
  pub strict_writing : Frames.StrictWriteExactly strict_writing_of
  pub frames_as_claimed : Frames.ContractsAsClaimed
  pub tables_as_claimed : Tables.ContractsAsClaimed
  -- the converter's status and R2, and what it leaves of the buffer: 02, E13
  pub converting : Converter.ConvertExactly convert_of
  pub converter_as_claimed : Converter.ContractsAsClaimed
  -- what meets a contract meets the claim on it, of functions that no call of C's reaches too: lent records, bodies of responses, field writers
  pub commands_as_claimed : Commands.ContractsAsClaimed
  pub responses_as_claimed : Responses.ContractsAsClaimed
  pub signing_as_claimed : Signing.ContractsAsClaimed
  pub fields_as_claimed : Fields.ContractsAsClaimed
  pub presence_as_claimed : Presence.ContractsAsClaimed
  pub decision_as_claimed : Decision.ContractsAsClaimed
  pub sessions_as_claimed : Sessions.ContractsAsClaimed
  -- what is lent by name: which number is what, and touch check and touch on the numbers
  pub records_stand : Presence.StandsExactly presence_in
  pub checks_on_numbers : Presence.AsOnRecords checked_in granted_in
  pub remainders_stand : Sessions.RemainderStands remainder_in
  pub sessions_stand : Sessions.SessionStands session_in
  pub hardware_stands : Sessions.HardwareStands (λ i. (inputs_in i).hardware)
  -- what a transport goes on with; the room for a response, and that no touch is lost to a length
  pub goes_on : Sessions.GoesOnExactly session_after
  pub rooms : Sessions.FrameRoomExactly frame_room_of
  pub rooms_serve : Sessions.FrameRoomServes frame_room_of frame_limit sending_of
  pub none_lost : Sessions.NoTouchIsLost decision_of end_of frame_room_of frame_limit sending_of
  -- the data sheet's row of every reply buffer, and the buffer for a certificate: 02, E10
  pub sheet : Datasheet.SheetExactly sheet_of
  pub sheet_needed : Datasheet.NeededExactly needed_of
  pub sheet_as_claimed : Datasheet.ContractsAsClaimed
  -- every answer of the source's types has its value
  pub readings_said : Frames.ReadingSaidExactly reading_of
  pub commands_said : Commands.SaidExactly command_said
  pub writings_said : Frames.WrittenSaidExactly written_of
  pub answers_said : Presence.AnswerExactly outcome_of
  pub records_said : Presence.ReadyExactly ready_of
  pub steps_said : Presence.StepExactly told_of
  pub decisions_said : Decision.SaidExactly decision_answer_of
  pub finishing_said : Signing.FinishedExactly finished_of
  -- every status of command reading
  pub commands : Commands.CommandExactly command_of
  -- R2 of responses, written and read, and of the next part of a body: 02, E2
  pub responses_written : Responses.WritesExactly responding_of
  pub responses_read : Responses.ReadsExactly read_response_of
  pub next_parts : Responses.NextExactly sending_of
  -- every answer of the decision, by document 01's table, E2's rows and E7's: R6, R8, R1, R2, 6f00, 6986, 6985, 6a80, the frame's own, bodies, orders, parts
  pub decision : Decision.DecidesExactly decision_of
  -- 02, E7: R8 at every decision
  pub sides_refused : Decision.SideRefusedExactly decision_of
  -- R7, R4, R2, 6f00, R3 and the bodies of finishing
  pub finishing : Signing.FinishesExactly end_of
  -- and leaves buffers and records as they were
  pub refusals_change_nothing : Decision.RefusalChangesNothing decision_of reply_left
  pub replies : Decision.RepliesExactly decision_of reply_left
  pub block : Panel.BlockExactly block_after
  -- 02, E2: the remainder is dropped exactly when the document says, and only a part changes the buffer for part and status
  pub remainder : Decision.RemainderExactly decision_of remainder_left
  pub part_buffer : Decision.PartsExactly decision_of frame_limit part_left
  -- 02, E13: a decision gives the retired shape 6 its 6700, surplus at its Le byte, and such a frame drops a remainder, whatever its INS
  pub old_form_refused : Decision.OldFormRefused decision_of remainder_left

-- 2. The results are the Rust's, statuses by their number alone, bodies uncut, without INS C0 (02, E2) and the old form (E13), and
-- with one side throughout (E7): that is run, not proved (oracle/compare, and the Rust's own answers in cases/). Proved is what
-- stands below.
pub record AsTheDocumentsSay : Type 0 where
  -- 02, E7: "demand 2 compares runs with one side only": from a fresh record, with one side throughout, calls and decisions are those of the base, which had no sides
  pub base_presence : Presence.BaseExactly base_settle_of base_checked_of
  pub base_decisions : Decision.BaseDecidesExactly base_decision_of
  pub one_side : Presence.OneSideIsBase own base
  pub one_side_decided : Decision.OneSideIsBase decision_of base_decision_of
  pub lent_records_differ : Presence.LentRecordDiffers check_of (base_by (Checking 1))
  -- the numbers of status words and refusals, what a 6700 says of the length, and the word that carries both
  pub status_numbers : Numbers.StatusNumbers status_no
  pub refusal_numbers : Numbers.RefusalNumbers refusal_no
  pub fault_numbers : Numbers.FaultExactly fault_of
  pub status_words : Numbers.WordExactly status_no fault_of word_of
  -- bytes in and out of lent slices: a part of one, zeros, big-endian numbers, fields laid at its front one behind the other
  pub slices : Bytes.PartExactly part_of
  pub zeros : Bytes.ZeroExactly all_zero
  pub two_bytes : Bytes.TwoBytesExactly bytes2
  pub four_bytes : Bytes.FourBytesExactly bytes4
  pub laid_bytes : Bytes.LaidExactly laid
  pub fields_in_a_slice : Fields.WritesAll (λ fields old. laid (joined (contents fields)) old)
  pub slices_of_two_to_five : Fields.Instances
  pub two_fields : Fields.WritesTwo (λ a b old. laid (a ++ b) old)
  pub three_fields : Fields.WritesThree (λ a b c old. laid (a ++ (b ++ c)) old)
  pub four_fields : Fields.WritesFour (λ a b c d old. laid (a ++ (b ++ (c ++ d))) old)
  pub five_fields : Fields.WritesFive (λ a b c d e old. laid (a ++ (b ++ (c ++ (d ++ e)))) old)
  -- the rule of Le by itself, read and written (02, E5)
  pub le_read : LeFields.ReadExactly said_of
  pub le_written : LeFields.PutExactly put_of
  pub le_fits : LeFields.FitsExactly can_say
  pub le_both_ways : LeFields.BothWays said_of le_bytes
  -- frames are read and written by the case table of ISO 7816-3, with the tolerated forms listed: since 02, E13, one form
  pub reading : Frames.ReadingExactly InTable read_of
  pub strict : Frames.StrictExactly strict_of
  pub iso : Frames.IsoExactly read_of
  pub tolerated : Frames.ToleratedExactly read_of
  -- 02, E4: "The strict frames are then ISO's seven cases"; where the two readings agree, and what each says where they do not
  pub strict_iso : Frames.StrictIsIso strict_of
  pub iso_counts : Frames.IsoCounts read_of
  pub iso_written : Frames.WritesIso strict_writing_of
  pub differences : Frames.DifferExactly read_of strict_of
  pub frames_to_try : Frames.ExamplesRead read_of
  -- 02, E13: the converter knows the old form by its own condition; what it makes of a frame is read with the same header, data and Le; only the old form changes,
  -- and what was converted converts to itself
  pub old_form : Converter.OldExactly is_old
  pub converted_is_read : Converter.ConvertedIsRead convert_of
  pub changes : Converter.ChangesExactly convert_of
  pub converts_to_itself : Converter.ConvertsToItself convert_of
  -- 02, E9: the second reader, by a table of rows, is "equal to the branching reader on every frame, E1's pairs included", by both tables; at most one row fits; and by
  -- any other table it answers by that table's rows
  pub second_reader : Tables.SameReading table_of read_by_rows
  pub readers_agree : Tables.ReadersAgree
  pub one_row : Tables.OneRowFits table_of
  pub tables : Tables.TablesExactly table_of
  pub rows_as_the_table : Tables.RowsAsTheTable table_of
  pub any_table : Tables.AnswersExactly read_by_rows
  -- 02, E1: "Tell us where the length went wrong": the places in the document's numbers (that they are the only ones, and when each
  -- comes, is in `reading`, `strict` and the demand above); "Command reading, strict reading and decision carry the pair upward"
  pub places : Frames.PlacesExactly read_of strict_of
  pub carried_by_decisions : Decision.LengthsCarried decision_of
  -- 02, E2: "body then two status bytes, written and read"; how much a frame takes; "Joining the parts, at any Le values, gives the uncut body", by
  -- decision after decision; how many there are; each 61 XX tells the truth
  pub response_read_back : Responses.WrittenThenRead read_response_of response_body_of responding_of
  pub response_written_back : Responses.ReadThenWritten read_response_of response_body_of responding_of
  pub limits : Decision.LimitsExactly frame_limit
  pub fetched_parts : Sessions.FetchesNext decision_of frame_limit part_left sending_of
  pub parts_joined : Sessions.SessionJoins decision_of frame_limit remainder_left part_left sending_of
  pub parts_within : Sessions.SessionLimits decision_of
  pub parts_counted : Sessions.SessionParts decision_of frame_limit remainder_left part_left sending_of
  pub parts_tell : Sessions.SessionTells decision_of part_left
  -- the parts of a frame that are handed back stand where they are said to
  pub parts : Commands.CutAtPlaces challenge_of application_of handle_of challenge_place_of application_place_of handle_place_of
  pub parts_in_c : Panel.PlacesCut frame_numbers command_numbers
  -- replies are those of FIDO U2F Raw Message Formats 1.2: the bytes to sign, byte by byte, and the replies made of them
  pub register_orders : Signing.MakesRegister register_order_of
  pub authenticate_orders : Signing.MakesAuthenticate authenticate_order_for
  pub signed_bytes : Signing.SignsFido register_order_of authenticate_order_for
  -- 02, E11: no bytes to sign are an enrolment's and a login's, or of other fields; and which fronts of them are another order's
  pub none_carries_over : Signing.NoneCarriesOver register_order_of authenticate_order_for
  pub fronts : Signing.NotRuledOut register_order_of authenticate_order_of
  pub reply_bytes : Signing.FinishesExactly end_of
  pub register_replies : Signing.RegisterRoundTrip finish_of
  pub authenticate_replies : Signing.AuthenticateRoundTrip finish_of
  -- a frame that is read and, given room, written again is the same frame; fields that the writer takes are read back as themselves
  pub read_then_written : Frames.ReadThenWritten read_of data_of writing_of
  pub written_then_read : Frames.WrittenThenRead read_of data_of writing_of
  -- the same strictly; and given room, each writer takes exactly what its reader reads
  pub accepted_as_read : Frames.AcceptsWhatIsRead read_of data_of writing_of
  pub strict_there_and_back : Frames.StrictThereAndBack strict_of data_of strict_writing_of

-- 3. Touches, over every sequence of calls: the theorem on top. Under it:
pub record TouchesAreAsTheHistorySays : Type 1 where
  -- a decision does nothing to a record but what its role says, whatever record is lent (decisions on C0 among them: 02, E2, "demand 3 is unchanged")
  pub decisions_keep : Decision.KeepsToItsRole decision_of
  -- whether there is an order depends on handle and certificate by their lengths alone, which a dry run rests on
  pub by_lengths_alone : Decision.ByLengthsAlone decision_of
  -- and on no record does an order say that a person was there without a live touch of its own side
  pub orders_need_a_touch : Decision.OrdersNeedATouch decision_of

pub record Index : Type 1 where
  pub answered : EveryInputIsAnswered
  pub documents : AsTheDocumentsSay
  pub touches : TouchesAreAsTheHistorySays
