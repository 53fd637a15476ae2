-- What other crates cite.
-- What each role does to the record, by what settling gave: with these a crate above shows `Keeps` of its own calls.
pub use Rattle.u2f_up_stated.proofs.Roles.{settled_as, done_refused, done_touching, done_checking, done_asking, done_settling, done_short, done_touch, done_check, done_ask}
-- And has demand 3 of their runs.
pub use Rattle.u2f_up_stated.proofs.Keepers.{demand_3}
-- No two calls name the same touch.
pub use Rattle.u2f_up_stated.proofs.Served.{servers_next, named_later, named_counts}
pub use Rattle.u2f_up_stated.proofs.Lists.{count, length_those}
-- Settling and the touch check, by the claims' conditions.
pub use Rattle.u2f_up_stated.proofs.Ways.{bad_window, bad_side, bad_moment, has_touch, settle_r6, settle_r8, settle_r1, settle_moves, SettleWay, settle_way, settle_no_status, checked_own, checked_other, checked_dead, r_apart}
-- Runs with one side, against the base.
pub use Rattle.u2f_up_stated.proofs.OneSide.{Mine, base_refused, base_no_status, SettledSame, refusing, moving, settled_same, checked_same, same, run, one_side}
-- Which refusal a touch, a check and an ask give, exactly.
pub use Rattle.u2f_up_stated.proofs.Theorems.{TouchesExactly as touches_exactly, ChecksExactly as checks_exactly, AsksExactly as asks_exactly}
-- The record lent as five numbers: no two of the same; a moment that settles, and the touch check there.
pub use Rattle.u2f_up_stated.proofs.OnNumbers.{settles_moved, checked_below, granted_below, five_apart}
