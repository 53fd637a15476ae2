-- The names that Table.antt is written with.
pub use Rattle.std.specs.Prelude.{◌-◌, ◌+◌, ◌<◌, ◌≤◌, ◌≡◌}
pub use Rattle.octets.specs.Bytes.{bytes4}
pub use Rattle.apdu_stated.specs.InTable.{Says}
pub use Rattle.command_stated.specs.Command.{Command, Register, Authenticate, Version, GetResponse, command_of, challenge_of, application_of}
pub use Rattle.u2f_up_stated.specs.Conditions.{BadWindow, BadSide, BadMoment, NotRefused, HasTouch}
pub use Rattle.std.specs.Prelude.{None, Some}
pub use Rattle.signing_stated.specs.Orders.{blank_order, register_order_of, authenticate_order_of}
pub use Rattle.response_stated.specs.Parts.{part_length}
pub use Rattle.ctap1_stated.specs.Words.{ℕ, Bool, true, false, length, StatusWord, Outcome, R, Word, SW, Gives, Presence, Order, rest, Inputs, DecisionGives, Body, Ordered, Part, DecisionResult, Decider}
pub use Rattle.ctap1_stated.specs.Path.{frame_limit}
pub use Rattle.ctap1_stated.specs.declared.Allowed.TheVariants as Allowed'
pub use Rattle.ctap1_stated.specs.declared.Attestation.TheVariants as Attestation'
