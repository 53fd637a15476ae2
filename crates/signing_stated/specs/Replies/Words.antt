-- The names that Replies.antt is written with.
pub use Rattle.std.specs.Prelude.{ℕ, ◌+◌, ◌≤◌, ◌<◌, Bool, true, false, ◌≡◌, ◌⊎◌, List, [], ◌∷◌, ◌++◌, length, take, drop}
pub use Rattle.outcome.specs.Outcome.{Outcome, R, SW, Gives}
pub use Rattle.octets.specs.Bytes.{byte}
pub use Rattle.signing_stated.specs.declared.Kind.{Kind}
pub use Rattle.signing_stated.specs.declared.Kind.TheVariants.{Register, Authenticate}
