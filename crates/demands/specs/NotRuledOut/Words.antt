-- The names that NotRuledOut.antt is written with.
pub use Rattle.std.specs.Prelude.{ℕ, ◌+◌, ◌≡◌, List, [], ◌∷◌, ◌++◌, length, take, replicate}
pub use Rattle.panel_stated.specs.Exports.{ToDecide}
pub use Rattle.demands.specs.Panel.{Panel}
pub use Rattle.demands.specs.Carried.{Orders, signed}
