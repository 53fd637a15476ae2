-- The notation that the other files of specs/ are written in, the source's types, and the words that they take from the crates below.
pub use Rattle.std.specs.Prelude.{ℕ, ◌+◌, ◌-◌, ◌≤◌, ◌<◌, ◌≡◌, Bool, true, false, List, ◌↔◌, ltb, length}
pub use Rattle.outcome.specs.Notation.{when◌then◌else◌, AtMostOne}
pub use Rattle.outcome.specs.Outcome.{Outcome, R, Gives}
pub use Rattle.octets.specs.Bytes.{AreBytes}
pub use Rattle.apdu_stated.specs.Answers.{Says}
pub use Rattle.apdu_stated.specs.Reading.{read_of}
pub use Rattle.command_stated.specs.Command.{Command}
pub use Rattle.command_stated.specs.Claims.{RegisterExactly, AuthenticateExactly, VersionExactly, GetResponseExactly}
pub use Rattle.signing_stated.specs.Layouts.{RegisterFields}
pub use Rattle.signing_stated.specs.Finishing.{Finishing, Ended}
pub use Rattle.signing_stated.specs.Orders.{Order, certificate_length}
pub use Rattle.signing_stated.specs.Terms.{RegisterShaped, IsWhole, IsBlank}
pub use Rattle.signing_stated.specs.Claims.{MakesRegister, RegisterRoomExactly, FinishesExactly}
pub use Rattle.session_stated.specs.Terms.{FrameRoom}
pub use Rattle.session_stated.specs.Claims.{FrameRoomExactly}
pub use Rattle.datasheet_stated.specs.declared.Figures.{Figures}
pub use Rattle.datasheet_stated.specs.declared.NoSheet.{NoSheet}
pub use Rattle.datasheet_stated.specs.declared.NoSheet.TheVariants.{TooShort, TooLong}
pub use Rattle.std.specs.Prelude.{Option, None, Some, Result, Ok, Err}

-- the row of a buffer: its figures, or why it has none
abbrev pub Sheet : Type 0
Sheet = Result Figures NoSheet

-- the buffer that a certificate needs, by its length; `None` where there is none
abbrev pub RoomNeeded : Type 0
RoomNeeded = Option ℕ
