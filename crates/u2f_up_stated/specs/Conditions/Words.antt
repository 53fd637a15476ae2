-- The names that Conditions.antt is written with.
pub use Rattle.std.specs.Prelude.{◌⊎◌, ◌+◌, ◌^◌, ◌<◌, ◌≤◌, ◌≡◌}
pub use Rattle.u2f_up_stated.specs.Words.{ℕ, Some, Presence}
