-- Runs: calls on a presence record, each taking the record that the one before gave back, and the history that this makes.
use Rattle.std.specs.Prelude.{List, [], ◌∷◌, ◌≡◌}
use Rattle.u2f_up_stated.specs.Words.{ℕ, Bool, true, when◌then◌else◌, Outcome, R, Word, Gives, Presence}
use Rattle.u2f_up_stated.specs.Moments.{Told, fresh, settle_of, refused, on_settled, touch_of, check_of, ask_of}
use Rattle.u2f_up_stated.specs.History.{Role, Touching, Checking, Asking, Settling, TooShort, Call, Event}
use Rattle.u2f_up_stated.specs.History.{Came, RefusedBy, TouchAccepted, TouchIgnored, TouchFound, NoTouchFound, PromptStands, NoPromptStands, AnsweredBefore}

-- What a call of each role does to the record.
unfoldable pub done_by : Role → Presence → ℕ → Told
done_by Touching p t = touch_of p t
done_by (Checking s) p t = check_of p s t
done_by Asking p t = ask_of p t
-- 01, Refusal numbers: "Without an R refusal, each .. decision sets the last moment to t"
done_by (Settling s) p t = on_settled p (settle_of p s t) (λ q. record { outcome = Gives true; presence = q })
-- 01, Refusal numbers: "An R refusal changes no buffer and no record."
done_by (TooShort s) p t = on_settled p (settle_of p s t) (λ q. refused 2 p)

-- A way of calling, with calls of any type D: what each call is in history terms, and what it does to the record.
pub record Caller (D : Type 0) : Type 0 where
  pub as_call : D → Call
  pub does : Presence → D → Told

-- It does nothing to the record but what its role says.
abbrev pub Keeps : {D : Type 0} → Caller D → Type 0
Keeps {D} 𝒞 = (p : Presence) (d : D) → 𝒞.does p d ≡ done_by (𝒞.as_call d).role p (𝒞.as_call d).moment

-- The calls of this crate.
abbrev pub own : Caller Call
own = record { as_call = λ c. c; does = λ p c. done_by c.role p c.moment }

-- What came of a call of each role, by its outcome. (No call gives a status word here.)
abbrev pub came_of_given : Role → Bool → Came
came_of_given Touching given = when given then TouchAccepted else TouchIgnored
came_of_given (Checking s) given = when given then TouchFound else NoTouchFound
came_of_given Asking given = when given then PromptStands else NoPromptStands
came_of_given (Settling s) given = AnsweredBefore
came_of_given (TooShort s) given = AnsweredBefore

abbrev pub came_of : Role → Outcome Bool → Came
came_of role (R n) = RefusedBy n
came_of role (Word s) = AnsweredBefore
came_of role (Gives given) = came_of_given role given

module _ {D : Type 0} (𝒞 : Caller D) (w : ℕ) where
  -- The record after the calls, newest first. 01, Moments and touches: "A new fresh record begins a new history."
  unfoldable pub after : List D → Presence
  after [] = fresh w
  after (d ∷ ds) = (𝒞.does (after ds) d).presence

  -- The outcome of one more call.
  abbrev pub next : List D → D → Outcome Bool
  next ds d = (𝒞.does (after ds) d).outcome

  -- And what comes of it, in history terms.
  abbrev pub comes_to : List D → D → Came
  comes_to ds d = came_of (𝒞.as_call d).role (next ds d)

  -- The history of the calls, newest first.
  unfoldable pub history : List D → List Event
  history [] = []
  history (d ∷ ds) = record { call = 𝒞.as_call d; came = comes_to ds d } ∷ history ds
