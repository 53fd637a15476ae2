-- What other crates cite.
use Prim.Native.Nat.{ℕ}
use mathlib.Core.Path.{◌≡◌}
use Rattle.outcome.specs.Outcome.{StatusWord, Outcome, R, Word, SW, Gives}
use mathlib.Core.Bool.{true}
use Rattle.apdu_stated.specs.Reading.{read_of}
use Rattle.command_stated.specs.Command.{GetResponse, command_of}
use Rattle.command_stated.proofs.Laws.{GetResponseExactly}
use Rattle.ctap1_stated.specs.Session.{is_get_response}
use Rattle.ctap1_stated.specs.Terms.{Comes}
use Rattle.u2f_up_stated.specs.declared.Presence.{Presence}
use Rattle.ctap1_stated.specs.Words.{Remainder, Inputs, DecisionGives, Body, Ordered, Part, DecisionResult}
use Rattle.ctap1_stated.specs.Decision.{decision_of}
use Rattle.ctap1_stated.specs.Table
use Rattle.ctap1_stated.specs.Table.{Answers}
use Rattle.ctap1_stated.proofs.Ways.{row}
pub use Rattle.ctap1_stated.proofs.Theorems.{RefusalChangesNothing, KeepsToItsRole, Demand3OfThePanel}
pub use Rattle.ctap1_stated.proofs.Theorems.{LimitsExactly as limits_exactly, RemainderExactly as remainder_exactly, RepliesExactly as replies_exactly, PartsExactly as parts_exactly, SideRefusedExactly as side_refused_exactly}
pub use Rattle.ctap1_stated.proofs.Theorems.{AskedWith, of_register, of_authenticate, asked_with, order_has_room, order_read, order_whole, OrdersOfLayout as orders_of_layout, DecidesExactly as decides_exactly, left_apart}
pub use Rattle.ctap1_stated.proofs.Orders.{enrolment_in, login_in, MadeOf, of_enrolment, of_login, made_of}
pub use Rattle.ctap1_stated.proofs.Rooms.{RoomMissing, for_version, for_register, for_login, for_rest, for_part, room_missing}
pub use Rattle.ctap1_stated.proofs.RoleKept.{panel_keeps}
pub use Rattle.ctap1_stated.proofs.Cases.{alone, leaves, beside, with_block, stays, handed, with_record, with_head}
pub use Rattle.ctap1_stated.proofs.Ways.{sound}
pub use Rattle.ctap1_stated.proofs.Ways.{row}
pub use Rattle.ctap1_stated.proofs.Only.{LimitsExactly as limits_only, DecidesExactly as decides_only}
pub use Rattle.ctap1_stated.proofs.GetResponse.{takes, Asked, is_refused, is_word, is_part, asked, IsPart, is_a_part, served, nothing_left}

-- whatever holds of these answers holds of every decision's
pub every_answer : (P : Outcome DecisionGives → Type 0) (p : Presence) (t : ℕ) (a : Inputs)
    → P (R 6) → P (R 8) → P (R 1) → P (R 2) → P (SW 0x6f00) → P (SW 0x6986) → P (SW 0x6985) → P (SW 0x6a80) → ((s : StatusWord) → command_of a.frame ≡ Word s → P (Word s))
    → P (Gives (Body 6)) → P (Gives Ordered) → ((n : ℕ) (after : Remainder) → P (Gives (Part n after))) → P (decision_of p t a).answer
every_answer P p t a six eight one two internal forbidden unsatisfied wrong status body order part = by (decision_of p t a) (row p t a)
  where
    by : (r : DecisionResult) → Answers p t a r → P r.answer
    by _ (Table.r6 b) = six
    by _ (Table.r8 g b) = eight
    by _ (Table.r1 g h b) = one
    by _ (Table.failed ok y) = internal
    by _ (Table.forbidden ok y) = forbidden
    by _ (Table.frame ok y n e) = status n e
    by _ (Table.version_short ok c h) = two
    by _ (Table.version ok c h) = body
    by _ (Table.register_short said ok c h) = two
    by _ (Table.register_6985 said x n) = unsatisfied
    by _ (Table.register_other said x o) = unsatisfied
    by _ (Table.not_stored said x l s) = internal
    by _ (Table.long said x l s k) = internal
    by _ (Table.missing said x l s k m) = internal
    by _ (Table.no_attestation said x l s k m) = internal
    by _ (Table.enrols said x l s k m) = order
    by _ (Table.bad_handle p1 said ok c g) = wrong
    by _ (Table.check_only said ok c g) = unsatisfied
    by _ (Table.sign_short p1 said ok c g n h) = two
    by _ (Table.sign_6985 said x n) = unsatisfied
    by _ (Table.sign_other said x o) = unsatisfied
    by _ (Table.no_counter_03 said x l k) = wrong
    by _ (Table.signs_03 said n x l k) = order
    by _ (Table.no_counter_08 said x k) = wrong
    by _ (Table.signs_08 said n x k) = order
    by _ (Table.fetch_nothing ok c e) = unsatisfied
    by _ (Table.fetch_short_body x h) = two
    by _ (Table.fetch_short_part x g h) = two
    by _ (Table.fetch n e x g h) = part _ _

-- a C0 that is read as a command asks for the next part
pub comes_c0 : (a : Inputs) → Comes a GetResponse → is_get_response (read_of a.frame) ≡ true
comes_c0 a c = let f = (GetResponseExactly a.frame).0 c.1 in rw (f.1, f.3)
