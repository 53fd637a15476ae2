-- What other crates cite: lengths that fit, the orders that they make, what finishing gives for them, and what its answers tell.
pub use Rattle.signing_stated.proofs.Fit.{RegisterLengths, AuthenticateLengths, register_fit, authenticate_fit, register_lengths, authenticate_lengths, register_order_fit, authenticate_order_fit}
pub use Rattle.signing_stated.proofs.Numbers.{kind_one_to_one, finished_one_to_one}
pub use Rattle.signing_stated.proofs.Shapes.{needs_room}
pub use Rattle.signing_stated.proofs.Ways.{comes_to_r7, way, told_body}
pub use Rattle.signing_stated.proofs.Made.{made_of_layout, blank_refused, fields_kept, room_of_made, room_most, room_kept, finish_short, finish_within, finish_failed, finish_gives, body_full, made_whole, head_by_lengths}
-- the definitions make orders so and finish so, and nothing but the definition finishes so
pub use Rattle.signing_stated.proofs.Theorems.{MakesRegister as makes_register, FinishesExactly as finishes_exactly}
pub use Rattle.signing_stated.proofs.Only.{FinishesExactly as finishes_only}
