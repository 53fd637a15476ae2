-- Which decisions reach the touch check, in C's numbers.
use Prim.Native.Nat.{ℕ, ◌+◌, ◌≤◌}
use mathlib.Core.Path.{◌≡◌, refl, ap, ◌∙◌}
use mathlib.Core.Bool.{Bool, true, false, not}
use mathlib.Core.Logic.{◌↔◌, ◌⊎◌, inl, inr, ⊎_elim}
use native.Mathlib.Omega.{arith}
use native.Mathlib.Decide.{ℕ_discrete}
use borrow.Author.Tests.{eq-eqb, le-ltb, ltb-false, eqb-true}
use lib.Dec.{eqb, ltb}
use lib.ListN.{length}
use Rattle.outcome.specs.Notation.{when◌then◌else◌}
use Rattle.outcome.specs.Outcome.{StatusWord, Outcome, R, Word, Gives, plain_word}
use Rattle.command_stated.specs.Command.{Command, Register, Authenticate, Version, GetResponse, command_of}
use Rattle.response_stated.specs.declared.Sent.{Sent}
use Rattle.u2f_up_stated.specs.History.{Checking, Settling, TooShort}
use Rattle.ctap1_stated.specs.Words.{Inputs}
use Rattle.ctap1_stated.specs.Path.{DecisionPath, NoRoom, Ends, SixBytes, Fetches, Signs, Touch, PathEnd, path_of, allowed_path, command_path, version_path, fetch_path, register_path, login_path, sent_path, role_of_path, register_ending, counted_ending, frame_limit}
use Rattle.ctap1_stated.specs.Numbers.{allowed_of}
use Rattle.response_stated.specs.Parts.{next_part_of}
use Rattle.ctap1_stated.proofs.Theorems.{AllowedNumbers}
use Rattle.panel_stated.specs.declared.CommandSaid.{CommandSaid}
use Rattle.panel_stated.specs.Terms.{IsNumbered}
use Rattle.panel_stated.specs.Exports.{command_numbers}
use Rattle.panel_stated.proofs.Outcomes as Outcomes
use Rattle.session_stated.specs.Promises.{inputs_in}
use Rattle.panel_stated.specs.Exports.{ToDecide}
use Rattle.demands.specs.Panel.{Panel, Meets}
use Rattle.demands.specs.Calls.{Reaches, as_call, Decide}

-- a path that goes to the touch check
abbrev Goes : DecisionPath → Type 0
Goes NoRoom = ⊥
Goes (Ends s) = ⊥
Goes SixBytes = ⊥
Goes (Fetches f) = ⊥
Goes (Signs e) = ⊥
Goes (Touch e) = Unit {0}

short_checking : (s t : ℕ) → TooShort s ≡ Checking t → ⊥
short_checking s t e = let z : ◌≡◌ {A = ℕ} 0 1 = cc in omega arith

settling_checking : (s t : ℕ) → Settling s ≡ Checking t → ⊥
settling_checking s t e = let z : ◌≡◌ {A = ℕ} 0 1 = cc in omega arith

goes : (s : ℕ) (path : DecisionPath) → (role_of_path s path ≡ Checking s) ↔ Goes path
goes s NoRoom = (λ e. short_checking s s e, λ x. absurd x)
goes s (Ends w) = (λ e. settling_checking s s e, λ x. absurd x)
goes s SixBytes = (λ e. settling_checking s s e, λ x. absurd x)
goes s (Fetches f) = (λ e. settling_checking s s e, λ x. absurd x)
goes s (Signs g) = (λ e. settling_checking s s e, λ x. absurd x)
goes s (Touch g) = (λ e. tt, λ x. refl)

no_sent : (o : Outcome Sent) → Goes (sent_path o) → ⊥
no_sent (R n) x = x
no_sent (Word s) x = x
no_sent (Gives sent) x = x

no_fetch : (b : Bool) (o : Outcome Sent) (s : StatusWord) → Goes (when b then Ends s else sent_path o) → ⊥
no_fetch true o s x = x
no_fetch false o s x = no_sent o x

no_version : (b : Bool) → Goes (when b then NoRoom else SixBytes) → ⊥
no_version true x = x
no_version false x = x

registers : (b : Bool) (e : PathEnd) → Goes (when b then NoRoom else Touch e) ↔ (b ≡ false)
registers true e = (λ x. absurd x, λ z. let y : ◌≡◌ {A = ℕ} 0 1 = cc in omega arith)
registers false e = (λ x. refl, λ z. tt)

logs_in_lem : (good check short present : Bool) (s u : StatusWord) (e f : PathEnd)
    → (check ≡ true → present ≡ true → ⊥)
    → Goes (when not good then Ends s else when check then Ends u else when short then NoRoom else when present then Touch e else Signs f) ↔ ((good ≡ true) × (present ≡ true) × (short ≡ false))
logs_in_lem false c sh p s u e f apart = (λ x. absurd x, λ z. let y : ◌≡◌ {A = ℕ} 0 1 = cc z.0 in omega arith)
logs_in_lem true true sh p s u e f apart = (λ x. absurd x, λ z. absurd (apart refl z.1))
logs_in_lem true false true p s u e f apart = (λ x. absurd x, λ z. let y : ◌≡◌ {A = ℕ} 0 1 = cc z.2 in omega arith)
logs_in_lem true false false true s u e f apart = (λ x. (refl, refl, refl), λ z. tt)
logs_in_lem true false false false s u e f apart = (λ x. absurd x, λ z. let y : ◌≡◌ {A = ℕ} 0 1 = cc z.1 in omega arith)

-- by what the command reading says
abbrev Either : (command p1 : ℕ) → Inputs → Type 0
Either command p1 a =
    ((command ≡ 1) × (139 + length a.new_handle + length a.certificate ≤ a.room))
    ⊎ ((command ≡ 2) × (p1 ≡ 0x03) × (a.hardware.good ≡ true) × (77 ≤ a.room))

abbrev Says' : CommandSaid → Inputs → Type 0
Says' c a = (c.answer ≡ 0x9000) × Either c.command c.p1 a

other_command : (n p1 : ℕ) (a : Inputs) → (n ≡ 1 → ⊥) → (n ≡ 2 → ⊥) → Either n p1 a → ⊥
other_command n p1 a x y (inl z) = x z.0
other_command n p1 a x y (inr z) = y z.0

by_command : (a : Inputs) (o : Outcome Command) → IsNumbered o → Goes (command_path a o) ↔ Says' (command_numbers o) a
unfolding command_path version_path fetch_path register_path login_path
by_command a (R n) h = (λ x. absurd x, λ x. omega (arith, x.0, h.1))
by_command a (Word s) h = (λ x. absurd x, λ x. omega (arith, x.0, h.1))
by_command a (Gives Version) h = (λ x. absurd (no_version (ltb a.room 6) x), λ x. absurd (other_command 3 0 a (λ e. omega arith) (λ e. omega arith) x.1))
by_command a (Gives GetResponse) h = (λ x. absurd (no_fetch (eqb a.remainder.count 0) (next_part_of a.room a.remainder (frame_limit a.frame) a.part_room) (plain_word 0x6985) x), λ x. absurd (other_command 0xC0 0 a (λ e. omega arith) (λ e. omega arith) x.1))
by_command a (Gives (Register said)) h =
    let asked = 139 + length a.new_handle + length a.certificate in
    let on = registers (ltb a.room asked) (register_ending a said) in
    (λ x. (refl, inl (refl, ltb-false a.room asked (on.0 x))), λ x. on.1 (le-ltb a.room asked (enough x.1)))
  where
    enough : Either 1 0 a → 139 + length a.new_handle + length a.certificate ≤ a.room
    enough (inl x) = x.1
    enough (inr x) = absurd (omega (arith, x.0))
by_command a (Gives (Authenticate p1 said)) h =
    let on = logs_in_lem a.hardware.good (eqb p1 0x07) (ltb a.room 77) (eqb p1 0x03) _ _ (counted_ending a.frame said true a.hardware.counter) (counted_ending a.frame said false a.hardware.counter)
    (λ x y. omega (arith, eqb-true p1 7 x, eqb-true p1 3 y)) in
    (λ x. let y = on.0 x in (refl, inr (refl, eqb-true p1 3 y.1, y.0, ltb-false a.room 77 y.2)), λ x. on.1 (enough x.1))
  where
    enough : Either 2 p1 a → (a.hardware.good ≡ true) × (eqb p1 0x03 ≡ true) × (ltb a.room 77 ≡ false)
    enough (inl x) = absurd (omega (arith, x.0))
    enough (inr x) = (x.2, eq-eqb p1 3 x.1, le-ltb a.room 77 x.3)

by_allowed : (n : ℕ) (a : Inputs) → Goes (allowed_path (allowed_of n) a) ↔ ((n ≡ 1) × Goes (command_path a (command_of a.frame)))
unfolding allowed_path
by_allowed n a = by (ℕ_discrete n 1) (ℕ_discrete n 0)
  where
    by : Dec (n ≡ 1) → Dec (n ≡ 0) → Goes (allowed_path (allowed_of n) a) ↔ ((n ≡ 1) × Goes (command_path a (command_of a.frame)))
    by (yes e) d = rw (ap allowed_of e ∙ AllowedNumbers.granted) (λ x. (e, x), λ x. x.1)
    by (no e) (yes z) = rw (ap allowed_of z ∙ AllowedNumbers.refused) (λ x. absurd x, λ x. absurd (e x.0))
    by (no e) (no z) = rw (AllowedNumbers.failed n (omega (arith, e, z))) (λ x. absurd x, λ x. absurd (e x.0))

module _ (P : Panel) (M : Meets P) (i : ToDecide) where
  pub reached : ((as_call (Decide i)).role ≡ Checking i.side) ↔ Reaches P i
  unfolding path_of
  reached =
      let a = inputs_in i in
      let on = goes i.side (path_of a) in
      let allowed = by_allowed i.hardware.allowed a in
      let command = by_command a (command_of i.frame) (Outcomes.command_said i.frame) in (
        λ e.
            let x = allowed.0 (on.0 e) in
            let y = command.0 x.1 in
            (x.0, rw (M.read_command i.frame) y.0, rw (M.read_command i.frame) (⊎_elim (λ z. inl z) (λ z. inr (z.0, z.1, eqb-true i.hardware.good 1 z.2, z.3)) y.1)),
        λ r.
            let y = rw (M.read_command i.frame) at r.1 in
            let z = rw (M.read_command i.frame) at r.2 in
            on.1 (allowed.1 (r.0, command.1 (y, ⊎_elim (λ z. inl z) (λ z. inr (z.0, z.1, eq-eqb i.hardware.good 1 z.2, z.3)) z))),
      )
