-- Document 01's presence as it was before document 02, E7: without sides. E7: "demand 2 compares runs with one side only". In these
-- definitions the asking side is not looked at and never moves: a record has 0 there throughout.
use Rattle.std.specs.Prelude.{List, [], ◌∷◌, ◌≡◌}
use Rattle.u2f_up_stated.specs.Words.{ℕ, true, false, when◌then◌else◌, Outcome, R, Gives, Some, Presence, Finding}
use Rattle.u2f_up_stated.specs.Moments.{Told, is_live, is_prompting, is_r6, is_r1, moved_to, touch_closed, granted_of, gave, refused, on_settled}
use Rattle.u2f_up_stated.specs.History.{Role, Touching, Checking, Asking, Settling, TooShort, Call}
use Rattle.u2f_up_stated.specs.Runs.{Caller}

-- 01, Moments and touches: "Touch, check and ask give R6, then R1, before all else."
unfoldable pub base_settle_of : Presence → ℕ → Outcome Presence
base_settle_of p t =
    when is_r6 p.w then R 6
    else when is_r1 p.last t then R 1
    else Gives (moved_to p t)

-- 01, Moments and touches: "The touch check (consume_up): with a live touch, it is spent; without, a prompt window opens at t"
unfoldable pub base_checked_of : Presence → ℕ → Finding
base_checked_of p t =
    when is_live p.touch p.w t then record { yes = true; presence = touch_closed p }
    else record { yes = false; presence = record { w = p.w; prompt = Some t; touch = p.touch; last = p.last; asker = p.asker } }

-- What a call of each role did to the record, whichever side it names.
unfoldable pub base_by : Role → Presence → ℕ → Told
base_by Touching p t = on_settled p (base_settle_of p t) (λ q. gave (granted_of q t))
base_by (Checking s) p t = on_settled p (base_settle_of p t) (λ q. gave (base_checked_of q t))
base_by Asking p t = on_settled p (base_settle_of p t) (λ q. record { outcome = Gives (is_prompting p t); presence = p })
base_by (Settling s) p t = on_settled p (base_settle_of p t) (λ q. record { outcome = Gives true; presence = q })
base_by (TooShort s) p t = on_settled p (base_settle_of p t) (λ q. refused 2 p)

-- A way of calling that does to the record what the base did.
abbrev pub KeepsToBase : {D : Type 0} → Caller D → Type 0
KeepsToBase {D} ℬ = (p : Presence) (d : D) → ℬ.does p d ≡ base_by (ℬ.as_call d).role p (ℬ.as_call d).moment

abbrev pub base : Caller Call
base = record { as_call = λ c. c; does = λ p c. base_by c.role p c.moment }

-- A record but for the asking side: W, the two windows, the last moment.
abbrev pub sideless : Presence → Presence
sideless p = record { w = p.w; prompt = p.prompt; touch = p.touch; last = p.last; asker = 0 }

-- A call that names this side, or none; and calls that all do.
abbrev pub NamesOnly : (side : ℕ) → Role → Type 0
NamesOnly s Touching = Unit {0}
NamesOnly s (Checking r) = r ≡ s
NamesOnly s Asking = Unit {0}
NamesOnly s (Settling r) = r ≡ s
NamesOnly s (TooShort r) = r ≡ s

abbrev pub OnlySide : {D : Type 0} → Caller D → (side : ℕ) → List D → Type 0
OnlySide 𝒞 s [] = Unit {0}
OnlySide 𝒞 s (d ∷ ds) = NamesOnly s (𝒞.as_call d).role × OnlySide 𝒞 s ds
