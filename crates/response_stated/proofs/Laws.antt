-- The laws that other crates cite: every way through the next part, what a part is and leaves; a response taken apart and put together;
-- ways back from the answers' words; and the theorems on limits and on sequences of calls.
pub use Rattle.response_stated.proofs.Cases.{limit_said, limit_absent, limit_extended, write_short, write_room, next_short_body, next_no_room, next_given, left_none, left_some, left_many, room_said, room_unsaid}
pub use Rattle.response_stated.proofs.Ways.{PartWay, whole, cut, last, part_way, part_most, part_limit, part_some, part_monotone, room_holds, rest_end, rest_less, part_and_rest, part_joins, part_long, NextWay, short_body, short_buffer, given, next_way}
pub use Rattle.response_stated.proofs.OnBytes.{pair_is, split, long_two, cut_back, read_back, halves, front_of, laid_spelled, sends_given, Shown, shown}
pub use Rattle.response_stated.proofs.Numbers.{read_same, wrote_same, next_same, room_same}
pub use Rattle.response_stated.proofs.Walks.{step_within, step_joins, joins, joined_done}
pub use Rattle.response_stated.proofs.Only.{NextExactly as next_only, WritesExactly as writes_only, RoomExactly as room_only}
pub use Rattle.response_stated.proofs.Theorems.{limit_range, goes, tells, given_is}
pub use Rattle.response_stated.proofs.Theorems.{WritesExactly as writes_exactly, ReadsExactly as reads_exactly, BodyExactly as body_exactly}
pub use Rattle.response_stated.proofs.Theorems.{LimitExactly as limit_exactly, LimitOfFrames as limit_of_frames, PartWithinLe as part_within_le, LongestIs258 as longest_is_258}
pub use Rattle.response_stated.proofs.Theorems.{NextExactly as next_exactly, TellsTheTruth as tells_the_truth, PartsJoin as parts_join, NumberOfParts as number_of_parts}
pub use Rattle.response_stated.proofs.Theorems.{RoomExactly as room_exactly, RoomServes as room_serves}
