-- Document 01, 'Moments and touches' and, of 'Refusal numbers', R1 and R6, with document 02, E7, 'A touch belongs to whoever asked':
-- the presence record, and what touch, check and ask do to it. In a record, w is W, prompt and touch are the two windows, last is the
-- last moment, asker is the number of the asking side. In `f p s t`, s is the side that the call names.
use Rattle.std.specs.Prelude.{◌+◌, ◌^◌, ◌||◌}
use Rattle.u2f_up_stated.specs.Words.{ℕ, Bool, true, false, not, ltb, leb, eqb, when◌then◌else◌}
use Rattle.u2f_up_stated.specs.Words.{Outcome, R, Word, Gives, Window, None, Some, Presence, Finding}

-- 01, Moments and touches: "A window opened at m with length d is live at t when t < m + d, as whole numbers"
abbrev pub is_live : Window → ℕ → ℕ → Bool
is_live None d t = false
is_live (Some m) d t = ltb t (m + d)

-- 01, Moments and touches: "The prompt window is 10,000."
abbrev pub is_prompting : Presence → ℕ → Bool
is_prompting p t = is_live p.prompt 10000 t

-- 01, Refusal numbers, R6: "W is 0 or above 60,000, when made or in a record"
abbrev pub is_r6 : ℕ → Bool
is_r6 w = eqb w 0 || ltb 60000 w

-- 01, Refusal numbers, R1: "moment 2^48 or more, or before the record's last moment"
abbrev pub is_r1 : ℕ → ℕ → Bool
is_r1 last_moment t = leb (2 ^ 48) t || ltb t last_moment

-- 02, E7: "R8 for a side other than 0 or 1, named or in the record"
abbrev pub is_bad_side : ℕ → Bool
is_bad_side side = ltb 1 side

abbrev pub is_r8 : (named asker : ℕ) → Bool
is_r8 named asker = is_bad_side named || is_bad_side asker

-- 01, Moments and touches: "both windows closed and last moment 0"; 02, E7: the asking side is "0 when fresh"
abbrev pub fresh : ℕ → Presence
fresh w = record { w = w; prompt = None; touch = None; last = 0; asker = 0 }

-- 01, Moments and touches: "A fresh record is made with a touch window W of 1..60,000 ..; a refused making hands back no record."
unfoldable pub new_of : ℕ → Outcome Presence
new_of w =
    when is_r6 w then R 6
    else Gives (fresh w)

-- The four ways in which a record moves; each sets what it names and keeps the rest.
-- 01, Refusal numbers: "each touch, direct check and decision sets the last moment to t"
abbrev pub moved_to : Presence → ℕ → Presence
moved_to p t = record { w = p.w; prompt = p.prompt; touch = p.touch; last = t; asker = p.asker }

-- 01, Moments and touches: "then the prompt closes and a touch window opens"; 02, E7: "An accepted touch belongs to the asker", who stays
abbrev pub touch_opened : Presence → ℕ → Presence
touch_opened p t = record { w = p.w; prompt = None; touch = Some t; last = p.last; asker = p.asker }

-- 01, Moments and touches: "with a live touch, it is spent"
abbrev pub touch_closed : Presence → Presence
touch_closed p = record { w = p.w; prompt = p.prompt; touch = None; last = p.last; asker = p.asker }

-- 01, Moments and touches: "without, a prompt window opens at t, replacing an older one"; 02, E7: "A prompting refusal makes its side
-- the asker, in place of any earlier."
abbrev pub prompt_opened : Presence → (side t : ℕ) → Presence
prompt_opened p s t = record { w = p.w; prompt = Some t; touch = p.touch; last = p.last; asker = s }

-- 01, Moments and touches: "Touch, check and ask give R6, then R1, before all else."; 02, E7: R8 "after R6 and before R1"
unfoldable pub settle_of : Presence → (side t : ℕ) → Outcome Presence
settle_of p s t =
    when is_r6 p.w then R 6
    else when is_r8 s p.asker then R 8
    else when is_r1 p.last t then R 1
    else Gives (moved_to p t)

-- 01, Moments and touches: "Touch (grant_up) is accepted when the prompt is live; then the prompt closes and a touch window
-- opens. Otherwise nothing but the last moment moves." Here the last moment has moved already.
unfoldable pub granted_of : Presence → ℕ → Finding
granted_of p t =
    when is_prompting p t then record { yes = true; presence = touch_opened p t }
    else record { yes = false; presence = p }

-- 01, Moments and touches: "The touch check (consume_up): with a live touch, it is spent; without, a prompt window opens"; 02, E7: "If the
-- other side reaches the touch check while a touch is live, it gets 6985, nothing is opened or spent"
unfoldable pub checked_of : Presence → (side t : ℕ) → Finding
checked_of p s t =
    when not (is_live p.touch p.w t) then record { yes = false; presence = prompt_opened p s t }
    else when not (eqb p.asker s) then record { yes = false; presence = p }
    else record { yes = true; presence = touch_closed p }

-- What a call comes to: its outcome, and the record after it.
pub record Told : Type 0 where
  pub outcome : Outcome Bool
  pub presence : Presence

-- The outcome of a call that was not refused, with the record after it.
abbrev pub gave : Finding → Told
gave f = record { outcome = Gives f.yes; presence = f.presence }

-- 01, Refusal numbers: "An R refusal changes no buffer and no record."
abbrev pub refused : ℕ → Presence → Told
refused n p = record { outcome = R n; presence = p }

-- A call that first settles its moment and then goes on with the record it got. (Settling gives no status word.)
abbrev pub on_settled : Presence → Outcome Presence → (Presence → Told) → Told
on_settled p (R n) go_on = refused n p
on_settled p (Word s) go_on = record { outcome = Word s; presence = p }
on_settled p (Gives q) go_on = go_on q

-- Touch at t. Ours: touch and ask name no side, and look at the record's: they settle as a call of the record's own side does.
unfoldable pub touch_of : Presence → ℕ → Told
touch_of p t = on_settled p (settle_of p p.asker t) (λ q. gave (granted_of q t))

-- The touch check of a side at t.
unfoldable pub check_of : Presence → (side t : ℕ) → Told
check_of p s t = on_settled p (settle_of p s t) (λ q. gave (checked_of q s t))

-- 01, Moments and touches: "Asking whether a prompt is live changes nothing, not even the last moment."
unfoldable pub ask_of : Presence → ℕ → Told
ask_of p t = on_settled p (settle_of p p.asker t) (λ q. record { outcome = Gives (is_prompting p t); presence = p })
