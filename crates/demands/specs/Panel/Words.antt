-- The names that Panel.antt is written with.
pub use Rattle.std.specs.Prelude.{ℕ, List}
pub use Rattle.u2f_up_stated.specs.declared.PresenceRecord.{PresenceRecord}
pub use Rattle.session_stated.specs.declared.SessionRecord.{SessionRecord}
pub use Rattle.panel_stated.specs.declared.FrameSaid.{FrameSaid}
pub use Rattle.panel_stated.specs.declared.CommandSaid.{CommandSaid}
pub use Rattle.panel_stated.specs.declared.Asked.{Asked}
pub use Rattle.panel_stated.specs.declared.ResponseSaid.{ResponseSaid}
pub use Rattle.panel_stated.specs.declared.RoomSaid.{RoomSaid}
pub use Rattle.panel_stated.specs.Exports.{ToWrite, ToDecide, ToFinish, AfterMaking, AfterStep, AfterWriting, AfterDeciding, AfterPart}
