-- The names that Demands.antt is written with.
pub use Rattle.std.specs.Prelude.{ℕ, ◌+◌, ◌<◌, ◌≤◌, ◌≡◌, List, [], ◌∷◌, ◌++◌, ◌↔◌, ◌⊎◌, length, take}
pub use Rattle.std.proofs.Math.Option.{some}
pub use Rattle.octets.specs.Bytes.{byte}
pub use Rattle.outcome.specs.Outcome.{last_refusal}
pub use Rattle.response_stated.specs.declared.Remainder.{Remainder}
pub use Rattle.response_stated.specs.Fetching.{remaining}
pub use Rattle.response_stated.specs.Terms.{Goes}
pub use Rattle.u2f_up_stated.specs.Demand.{RunMeets}
pub use Rattle.u2f_up_stated.specs.History.{Checking, Mark, held_at, server_of}
pub use Rattle.u2f_up_stated.specs.declared.PresenceRecord.{PresenceRecord}
pub use Rattle.session_stated.specs.Held.{remainder_in, session_in}
pub use Rattle.panel_stated.specs.Exports.{ToDecide, ToFinish, AfterDeciding}
pub use Rattle.demands.specs.Panel.{Panel, Meets}
pub use Rattle.demands.specs.Answers.{CallsAnswer}
pub use Rattle.demands.specs.Carried.{NoneCarriesOver}
pub use Rattle.demands.specs.Room.{DataSheet}
pub use Rattle.demands.specs.Sessions.{first_part_of, IsC0, IsGetResponse, Unhindered, Each, bytes_of, first_bytes, fetch, fetched, left_after}
pub use Rattle.demands.specs.Calls.{CCall, Decide, on, as_call, Reaches, touch_number, asker_number, record_after, came_next, history_of}
