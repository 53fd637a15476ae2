-- The names that Inputs.antt is written with.
pub use Rattle.std.specs.Prelude.{ℕ, Bool, List}
pub use Rattle.outcome.specs.Outcome.{Outcome}
pub use Rattle.u2f_up_stated.specs.declared.Presence.{Presence}
pub use Rattle.signing_stated.specs.Words.{Order}
pub use Rattle.response_stated.specs.declared.Remainder.{Remainder}
pub use Rattle.ctap1_stated.specs.declared.Hardware.{Hardware}
