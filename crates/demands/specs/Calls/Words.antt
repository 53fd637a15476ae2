-- The names that Calls.antt is written with.
pub use Rattle.std.specs.Prelude.{ℕ, ◌+◌, ◌≤◌, ◌≡◌, ◌⊎◌, length, Bool, not, List, [], ◌∷◌, eqb, leb}
pub use Rattle.outcome.specs.Notation.{when◌then◌else◌}
pub use Rattle.outcome.specs.Outcome.{last_refusal}
pub use Rattle.u2f_up_stated.specs.History.{Role, Touching, Checking, Asking, Call, Came, RefusedBy, AnsweredBefore, Event}
pub use Rattle.u2f_up_stated.specs.Runs.{came_of_given}
pub use Rattle.u2f_up_stated.specs.declared.PresenceRecord.{PresenceRecord}
pub use Rattle.ctap1_stated.specs.Path.{role_of}
pub use Rattle.session_stated.specs.Promises.{inputs_in, lending}
pub use Rattle.panel_stated.specs.Exports.{ToDecide}
pub use Rattle.demands.specs.Panel.{Panel}
