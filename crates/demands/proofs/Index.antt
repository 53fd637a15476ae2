-- What the index names is proved: each field is the theorem of its claim's name.
use Rattle.outcome.proofs.Theorems as Numbers
use Rattle.octets.proofs.Theorems as Bytes
use Rattle.apdu_le.proofs.Theorems as LeFields
use Rattle.signing_fields.proofs.Theorems as Fields
use Rattle.apdu_stated.proofs.Theorems as Frames
use Rattle.apdu_table_stated.proofs.Theorems as Tables
use Rattle.convert_stated.proofs.Theorems as Converter
use Rattle.datasheet_stated.proofs.Theorems as Datasheet
use Rattle.command_stated.proofs.Theorems as Commands
use Rattle.response_stated.proofs.Theorems as Responses
use Rattle.session_stated.proofs.Theorems as Sessions
use Rattle.u2f_up_stated.proofs.Theorems as Presence
use Rattle.signing_stated.proofs.Theorems as Signing
use Rattle.ctap1_stated.proofs.Theorems as Decision
use Rattle.panel_stated.proofs.Theorems as Panel
use Rattle.demands.specs.Index.{EveryInputIsAnswered, AsTheDocumentsSay, TouchesAreAsTheHistorySays, Index}

pub answered : EveryInputIsAnswered
answered =
    record {
      numbers_determined = Numbers.ResultsDetermined;
      bytes_determined = Bytes.ResultsDetermined;
      le_determined = LeFields.ResultsDetermined;
      fields_determined = Fields.ResultsDetermined;
      frames_determined = Frames.ResultsDetermined;
      tables_determined = Tables.ResultsDetermined;
      converter_determined = Converter.ResultsDetermined;
      commands_determined = Commands.ResultsDetermined;
      presence_determined = Presence.ResultsDetermined;
      responses_determined = Responses.ResultsDetermined;
      signing_determined = Signing.ResultsDetermined;
      decision_determined = Decision.ResultsDetermined;
      sessions_determined = Sessions.ResultsDetermined;
      sheet_determined = Datasheet.ResultsDetermined;
      exports_determined = Panel.ResultsDetermined;
      records = Presence.MakesExactly;
      moments = Presence.SettlesExactly;
      touches = Presence.TouchesExactly;
      checks = Presence.ChecksExactly;
      asks = Presence.AsksExactly;
      writing = Frames.WriteExactly;
      strict_writing = Frames.StrictWriteExactly;
      frames_as_claimed = Frames.ContractsAsClaimed;
      tables_as_claimed = Tables.ContractsAsClaimed;
      converting = Converter.ConvertExactly;
      converter_as_claimed = Converter.ContractsAsClaimed;
      commands_as_claimed = Commands.ContractsAsClaimed;
      responses_as_claimed = Responses.ContractsAsClaimed;
      signing_as_claimed = Signing.ContractsAsClaimed;
      fields_as_claimed = Fields.ContractsAsClaimed;
      presence_as_claimed = Presence.ContractsAsClaimed;
      decision_as_claimed = Decision.ContractsAsClaimed;
      sessions_as_claimed = Sessions.ContractsAsClaimed;
      records_stand = Presence.StandsExactly;
      checks_on_numbers = Presence.AsOnRecords;
      remainders_stand = Sessions.RemainderStands;
      sessions_stand = Sessions.SessionStands;
      hardware_stands = Sessions.HardwareStands;
      goes_on = Sessions.GoesOnExactly;
      rooms = Sessions.FrameRoomExactly;
      rooms_serve = Sessions.FrameRoomServes;
      none_lost = Sessions.NoTouchIsLost;
      sheet = Datasheet.SheetExactly;
      sheet_needed = Datasheet.NeededExactly;
      sheet_as_claimed = Datasheet.ContractsAsClaimed;
      readings_said = Frames.ReadingSaidExactly;
      commands_said = Commands.SaidExactly;
      writings_said = Frames.WrittenSaidExactly;
      answers_said = Presence.AnswerExactly;
      records_said = Presence.ReadyExactly;
      steps_said = Presence.StepExactly;
      decisions_said = Decision.SaidExactly;
      finishing_said = Signing.FinishedExactly;
      commands = Commands.CommandExactly;
      responses_written = Responses.WritesExactly;
      responses_read = Responses.ReadsExactly;
      next_parts = Responses.NextExactly;
      decision = Decision.DecidesExactly;
      sides_refused = Decision.SideRefusedExactly;
      finishing = Signing.FinishesExactly;
      refusals_change_nothing = Decision.RefusalChangesNothing;
      replies = Decision.RepliesExactly;
      block = Panel.BlockExactly;
      remainder = Decision.RemainderExactly;
      old_form_refused = Decision.OldFormRefused;
      part_buffer = Decision.PartsExactly;
    }

pub documents : AsTheDocumentsSay
documents =
    record {
      base_presence = Presence.BaseExactly;
      base_decisions = Decision.BaseDecidesExactly;
      one_side = Presence.OneSideIsBase;
      one_side_decided = Decision.OneSideIsBase;
      lent_records_differ = Presence.LentRecordDiffers;
      status_numbers = Numbers.StatusNumbers;
      refusal_numbers = Numbers.RefusalNumbers;
      fault_numbers = Numbers.FaultExactly;
      status_words = Numbers.WordExactly;
      slices = Bytes.PartExactly;
      zeros = Bytes.ZeroExactly;
      two_bytes = Bytes.TwoBytesExactly;
      four_bytes = Bytes.FourBytesExactly;
      laid_bytes = Bytes.LaidExactly;
      fields_in_a_slice = Fields.WritesAll;
      slices_of_two_to_five = Fields.Instances;
      two_fields = Fields.WritesTwo;
      three_fields = Fields.WritesThree;
      four_fields = Fields.WritesFour;
      five_fields = Fields.WritesFive;
      le_read = LeFields.ReadExactly;
      le_written = LeFields.PutExactly;
      le_fits = LeFields.FitsExactly;
      le_both_ways = LeFields.BothWays;
      reading = Frames.ReadingExactly;
      strict = Frames.StrictExactly;
      iso = Frames.IsoExactly;
      tolerated = Frames.ToleratedExactly;
      strict_iso = Frames.StrictIsIso;
      iso_counts = Frames.IsoCounts;
      iso_written = Frames.WritesIso;
      differences = Frames.DifferExactly;
      frames_to_try = Frames.ExamplesRead;
      old_form = Converter.OldExactly;
      converted_is_read = Converter.ConvertedIsRead;
      changes = Converter.ChangesExactly;
      converts_to_itself = Converter.ConvertsToItself;
      second_reader = Tables.SameReading;
      readers_agree = Tables.ReadersAgree;
      one_row = Tables.OneRowFits;
      tables = Tables.TablesExactly;
      rows_as_the_table = Tables.RowsAsTheTable;
      any_table = Tables.AnswersExactly;
      places = Frames.PlacesExactly;
      carried_by_decisions = Decision.LengthsCarried;
      response_read_back = Responses.WrittenThenRead;
      response_written_back = Responses.ReadThenWritten;
      limits = Decision.LimitsExactly;
      fetched_parts = Sessions.FetchesNext;
      parts_joined = Sessions.SessionJoins;
      parts_within = Sessions.SessionLimits;
      parts_counted = Sessions.SessionParts;
      parts_tell = Sessions.SessionTells;
      parts = Commands.CutAtPlaces;
      parts_in_c = Panel.PlacesCut;
      register_orders = Signing.MakesRegister;
      authenticate_orders = Signing.MakesAuthenticate;
      signed_bytes = Signing.SignsFido;
      none_carries_over = Signing.NoneCarriesOver;
      fronts = Signing.NotRuledOut;
      reply_bytes = Signing.FinishesExactly;
      register_replies = Signing.RegisterRoundTrip;
      authenticate_replies = Signing.AuthenticateRoundTrip;
      read_then_written = Frames.ReadThenWritten;
      written_then_read = Frames.WrittenThenRead;
      accepted_as_read = Frames.AcceptsWhatIsRead;
      strict_there_and_back = Frames.StrictThereAndBack;
    }

pub touches : TouchesAreAsTheHistorySays
touches =
    record {
      decisions_keep = Decision.KeepsToItsRole;
      by_lengths_alone = Decision.ByLengthsAlone;
      orders_need_a_touch = Decision.OrdersNeedATouch;
    }

pub met : Index
met = record { answered = answered; documents = documents; touches = touches }
