-- The names that Sessions.antt is written with.
pub use Rattle.std.specs.Prelude.{ℕ, ◌+◌, ◌<◌, ◌≤◌, ◌^◌, ◌≡◌, List, [], ◌∷◌, ◌++◌, ◌⊎◌, eqb, length, take}
pub use Rattle.outcome.specs.Notation.{when◌then◌else◌}
pub use Rattle.response_stated.specs.declared.Remainder.{Remainder}
pub use Rattle.response_stated.specs.Responses.{response_body_of}
pub use Rattle.u2f_up_stated.specs.Numbers.{presence_in}
pub use Rattle.session_stated.specs.Held.{remainder_in, session_in}
pub use Rattle.session_stated.specs.Promises.{lending}
pub use Rattle.panel_stated.specs.Exports.{ToDecide, ToFinish, AfterDeciding, AfterPart}
pub use Rattle.demands.specs.Panel.{Panel}
