-- The laws that other crates cite: every way through reading; the data of a frame that is read; the old form; ways back from what is said.
pub use Rattle.apdu_stated.proofs.Ways.{said_by, FrameWay, under, found, ends, goes_on, frame_way, WriteWay, unfit, no_room, written, write_way}
pub use Rattle.apdu_stated.proofs.Frames.{data_from, data_within, data_long, read_status, never_third, read_refuses_not}
pub use Rattle.apdu_stated.proofs.Numbers.{shape_same, apdu_back, apdu_back_lem, says_same, reading_same, written_same}
pub use Rattle.apdu_stated.proofs.Theorems.{ShortExactly as read_short, ReadPairsExactly as read_pairs, ReadExactly as read_exactly}
pub use Rattle.apdu_stated.proofs.Ways.{TableOf, CarryOf}
pub use Rattle.apdu_stated.proofs.Readings.{reading_exactly, reads_entry, of_table, number_is, kind_is, place_is}
pub use Rattle.apdu_stated.proofs.Writings.{write_exactly, frame_of_lem, is_built}
pub use Rattle.apdu_stated.proofs.Agree.{same_reading, same_writing}
pub use Rattle.apdu_stated.proofs.Fields.{frame_long, strict_out, strict_out_kept, strict_same, strict_same_buffer}
pub use Rattle.apdu_stated.proofs.Ways.{Way, way, none, le1, short, short_le, le3, wide, wide_le2, missing, short_surplus, le1_surplus, wide_surplus, zero_surplus}
pub use Rattle.apdu_stated.proofs.Cases.{read_under, read_by_lem, say_found, say_missing, say_surplus, lengths_none, lengths_le1, lengths_short, lengths_extended, extended_le3, extended_after, after_plain, after_one, after_le2, has_data, ordinary_has, not_under, from_least}
pub use Rattle.apdu_stated.proofs.Rows.{least_one}
pub use Rattle.apdu_stated.proofs.StrictAndOrdinary.{old_at, strict_zero_at, otherwise_alike}
pub use Rattle.apdu_stated.proofs.Cases.{short_data as payload_short, short_le as payload_short_le}
