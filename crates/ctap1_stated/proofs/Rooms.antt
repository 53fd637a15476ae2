-- What R2 tells: which room was not there.
use Prim.Native.Nat.{ℕ, ◌+◌, ◌<◌}
use mathlib.Core.Path.{◌≡◌, ap}
use native.Mathlib.Omega.{arith}
use Rattle.outcome.specs.Outcome.{Outcome, R, Word, Gives}
use Rattle.apdu_stated.specs.Answers.{Says}
use Rattle.response_stated.specs.Parts.{part_length}
use Rattle.command_stated.specs.Command.{Register, Authenticate, Version, GetResponse, command_of}
use Rattle.u2f_up_stated.specs.declared.Presence.{Presence}
use Rattle.ctap1_stated.specs.Words.{Inputs, DecisionGives, DecisionResult}
use Rattle.ctap1_stated.specs.Path.{frame_limit}
use Rattle.ctap1_stated.specs.Decision.{decision_of}
use Rattle.ctap1_stated.specs.Terms.{room_of_register}
use Rattle.ctap1_stated.specs.Table
use Rattle.ctap1_stated.specs.Table.{Answers}
use Rattle.ctap1_stated.proofs.Ways.{row}

pub data RoomMissing (a : Inputs) : Type 0 where
  for_version : command_of a.frame ≡ Gives Version → a.room < 6 → RoomMissing a
  for_register : (said : Says) → command_of a.frame ≡ Gives (Register said) → a.room < room_of_register a → RoomMissing a
  for_login : (p1 : ℕ) (said : Says) → command_of a.frame ≡ Gives (Authenticate p1 said) → a.room < 77 → RoomMissing a
  for_rest : command_of a.frame ≡ Gives GetResponse → a.room < a.remainder.place + a.remainder.count → RoomMissing a
  for_part : command_of a.frame ≡ Gives GetResponse → a.part_room < part_length (frame_limit a.frame) a.remainder.count + 2 → RoomMissing a

-- a refusal's number, and one that is none's
abbrev refusal_in : Outcome DecisionGives → ℕ
refusal_in (R n) = n
refusal_in (Word s) = 0
refusal_in (Gives g) = 0

other : (o : Outcome DecisionGives) → (refusal_in o ≡ 2 → ⊥) → o ≡ R 2 → ⊥
other o not e = not (ap refusal_in e)

pub room_missing : (p : Presence) (t : ℕ) (a : Inputs) → (decision_of p t a).answer ≡ R 2 → RoomMissing a
room_missing p t a = by (decision_of p t a) (row p t a)
  where
    none : (r : DecisionResult) → (refusal_in r.answer ≡ 2 → ⊥) → r.answer ≡ R 2 → RoomMissing a
    none r not e = absurd (other r.answer not e)

    by : (r : DecisionResult) → Answers p t a r → r.answer ≡ R 2 → RoomMissing a
    by r (Table.r6 b) = none r (λ z. omega arith)
    by r (Table.r8 g b) = none r (λ z. omega arith)
    by r (Table.r1 g h b) = none r (λ z. omega arith)
    by r (Table.failed ok y) = none r (λ z. omega arith)
    by r (Table.forbidden ok y) = none r (λ z. omega arith)
    by r (Table.frame ok y n e) = none r (λ z. omega arith)
    by r (Table.version_short ok c h) = λ e. for_version c.1 h
    by r (Table.version ok c h) = none r (λ z. omega arith)
    by r (Table.register_short said ok c h) = λ e. for_register said c.1 h
    by r (Table.register_6985 said x n) = none r (λ z. omega arith)
    by r (Table.register_other said x o) = none r (λ z. omega arith)
    by r (Table.not_stored said x l s) = none r (λ z. omega arith)
    by r (Table.long said x l s k) = none r (λ z. omega arith)
    by r (Table.missing said x l s k m) = none r (λ z. omega arith)
    by r (Table.no_attestation said x l s k m) = none r (λ z. omega arith)
    by r (Table.enrols said x l s k m) = none r (λ z. omega arith)
    by r (Table.bad_handle p1 said ok c g) = none r (λ z. omega arith)
    by r (Table.check_only said ok c g) = none r (λ z. omega arith)
    by r (Table.sign_short p1 said ok c g n h) = λ e. for_login p1 said c.1 h
    by r (Table.sign_6985 said x n) = none r (λ z. omega arith)
    by r (Table.sign_other said x o) = none r (λ z. omega arith)
    by r (Table.no_counter_03 said x l k) = none r (λ z. omega arith)
    by r (Table.signs_03 said n x l k) = none r (λ z. omega arith)
    by r (Table.no_counter_08 said x k) = none r (λ z. omega arith)
    by r (Table.signs_08 said n x k) = none r (λ z. omega arith)
    by r (Table.fetch_nothing ok c e) = none r (λ z. omega arith)
    by r (Table.fetch_short_body x h) = λ e. for_rest x.1.1 h
    by r (Table.fetch_short_part x g h) = λ e. for_part x.1.1 h
    by r (Table.fetch n e x g h) = none r (λ z. omega arith)
