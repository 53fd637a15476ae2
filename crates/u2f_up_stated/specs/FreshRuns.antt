-- Demand 3 (Demand.antt) of the calls `ds`, by the definitions or another way of calling, on a fresh record with touch window `w`.
use Rattle.std.specs.Prelude.{List, ◌≡◌}
use Rattle.u2f_up_stated.specs.Words.{ℕ, Some}
use Rattle.u2f_up_stated.specs.Runs.{Caller, after, comes_to, history}
use Rattle.u2f_up_stated.specs.Demand.{RunMeets}

abbrev pub RunOf : {D : Type 0} → Caller D → (w : ℕ) → List D → Type 0
RunOf {D} 𝒞 w ds =
    RunMeets w 𝒞.as_call ds (history 𝒞 w ds) (comes_to 𝒞 w ds) (λ earlier m. (after 𝒞 w earlier).touch ≡ Some m) (after 𝒞 w ds).asker
