-- What other crates cite of this one.
pub use Rattle.session_stated.proofs.Steps.{joins_over}
pub use Rattle.session_stated.proofs.Rooms.{room_in_shape, first_part, by_order, ordered_limit}
pub use Rattle.session_stated.proofs.Theorems.{NoTouchIsLost as no_touch_is_lost}
pub use Rattle.session_stated.proofs.Follows.{no_touch_follows}
pub use Rattle.session_stated.proofs.Only.{FrameRoomExactly as frame_room_only, GoesOnExactly as goes_on_only}
pub use Rattle.session_stated.proofs.Theorems.{FrameRoomExactly as frame_room_exactly, FrameRoomServes as frame_room_serves, GoesOnExactly as goes_on_exactly}
