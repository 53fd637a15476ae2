-- The names that Carried.antt is written with.
pub use Rattle.std.specs.Prelude.{ℕ, ◌≡◌, List, eqb, length, take}
pub use Rattle.signing_stated.specs.Replies.{bytes_at}
pub use Rattle.signing_stated.specs.Layouts.{RegisterFields}
pub use Rattle.signing_stated.specs.Orders.{AuthenticateParts}
pub use Rattle.panel_stated.specs.Exports.{ToDecide}
pub use Rattle.demands.specs.Panel.{Panel}
