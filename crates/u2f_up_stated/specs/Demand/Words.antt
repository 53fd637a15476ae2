-- The names that Demand.antt is written with.
pub use Rattle.std.specs.Prelude.{List, [], ◌∷◌, ◌++◌, ◌↔◌, length, ◌+◌, ◌<◌, ◌≤◌, ◌≡◌}
pub use Rattle.std.proofs.Math.Option.{some}
pub use Rattle.u2f_up_stated.specs.Words.{ℕ, true}
pub use Rattle.u2f_up_stated.specs.Terms.{RefusedAt, NamesBadSide, ServesOnce}
pub use Rattle.u2f_up_stated.specs.History.{Role, Call, Came, Event, RefusedBy, TouchAccepted, TouchFound, Touching, Checking, Mark, foretold, latest_prompt, latest_touch, asker_of, is_of, is_after}
pub use Rattle.u2f_up_stated.specs.History.{held_at, held_for, lapsed, accepted, spenders, spenders_of, those, last_moment, server_of}
