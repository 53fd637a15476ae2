-- Words that only the claims use: those of Conditions.antt and of History.antt's end, a live prompt, and what comes before all else.
use Rattle.std.specs.Prelude.{◌↔◌, ◌+◌, ◌<◌, ◌≡◌}
use Rattle.u2f_up_stated.specs.Words.{ℕ, R, Some, Presence}
use Rattle.u2f_up_stated.specs.Moments.{Told}
pub use Rattle.u2f_up_stated.specs.Conditions.{BadWindow, BadSide, BadMoment, NotRefused, HasTouch}
pub use Rattle.u2f_up_stated.specs.History.{RefusedAt, NamesBadSide, ServesOnce}

-- a live prompt, as `HasTouch` is a live touch: 01, Moments and touches: "The prompt window is 10,000."
abbrev pub HasPrompt : Presence → ℕ → Type 0
HasPrompt p t = (m : ℕ) × (p.prompt ≡ Some m) × (t < m + 10000)

-- the same of a window that is lent as a number: it was opened at some m, whose number it is, and is live at t with length d
abbrev pub LiveNumber : (number d t : ℕ) → Type 0
LiveNumber number d t = (m : ℕ) × (number ≡ m + 1) × (t < m + d)

-- 01, Moments and touches: "Touch, check and ask give R6, then R1, before all else."; 02, E7: R8 "after R6 and before R1". Refusal
-- numbers: "An R refusal changes no buffer and no record." Of any call, which names a side, or the record's own.
pub record SettlesFirst (named : Presence → ℕ) (call : Presence → ℕ → Told) : Type 0 where
  pub r6 : (p : Presence) (t : ℕ) → ((call p t).outcome ≡ R 6) ↔ BadWindow p.w
  pub r8 : (p : Presence) (t : ℕ) → ((call p t).outcome ≡ R 8) ↔ ((BadWindow p.w → ⊥) × BadSide (named p) p.asker)
  pub r1 : (p : Presence) (t : ℕ) → ((call p t).outcome ≡ R 1) ↔ ((BadWindow p.w → ⊥) × (BadSide (named p) p.asker → ⊥) × BadMoment p.last t)
  pub keeps : (p : Presence) (t n : ℕ) → (call p t).outcome ≡ R n → (call p t).presence ≡ p
