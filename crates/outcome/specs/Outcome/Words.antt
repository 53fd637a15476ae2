-- The names that Outcome.antt is written with.
pub use Rattle.std.specs.Prelude.{ℕ, ◌≡◌}
pub use Rattle.outcome.specs.declared.ApduStatusCode.{ApduStatusCode}
pub use Rattle.outcome.specs.declared.ApduStatusCode.TheVariants.{Success, WrongData, WrongLength, CondUseNotSatisfied, CommandNotAllowed, IncorrectP1P2, InsInvalid, ClaInvalid, InternalException}
pub use Rattle.outcome.specs.declared.LengthFault.{LengthFault}
pub use Rattle.outcome.specs.declared.LengthFault.TheVariants.{Missing, Surplus, LcAgainstIns}
pub use Rattle.outcome.specs.declared.Refusal.{Refusal}
pub use Rattle.outcome.specs.declared.Refusal.TheVariants.{R1, R2, R3, R4, R5, R6, R7, R8}
