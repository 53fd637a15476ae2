-- The names that History.antt is written with.
pub use Rattle.std.specs.Prelude.{List, [], ◌∷◌, ◌++◌, ◌⊎◌, length, ◌+◌, ◌^◌, ◌<◌, ◌≤◌, ◌&&◌}
pub use Rattle.std.proofs.Math.Option.{Option, none, some}
pub use Rattle.u2f_up_stated.specs.Words.{ℕ, Bool, true, false, not, ltb, eqb, when◌then◌else◌}
pub use Rattle.u2f_up_stated.specs.Moments.{is_r1, is_bad_side}
