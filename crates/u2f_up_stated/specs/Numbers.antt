-- Ours: the presence record lent as five numbers, by name: W, prompt, touch, last moment, asker; and the touch check and the touch on it.
use Rattle.std.specs.Prelude.{◌+◌}
use Rattle.u2f_up_stated.specs.Words.{ℕ, zero, suc, eqb, true, false, not, when◌then◌else◌, Window, None, Some, Presence, PresenceRecord, Finding}
use Rattle.u2f_up_stated.specs.Moments.{is_live, is_prompting}

-- DECISIONS, a window as one number: 0 is closed, any other number a window that was opened at the moment before it
abbrev pub window_of : ℕ → Window
window_of zero = None
window_of (suc m) = Some m

abbrev pub presence_in : PresenceRecord → Presence
presence_in s = record { w = s.w; prompt = window_of s.prompt; touch = window_of s.touch; last = s.last; asker = s.asker }

-- a moment's number in a window, one more; the greatest of 64 bits has none after it, and is its own number, which says the moment before. No moment that
-- settles comes near it
abbrev pub number_of : ℕ → ℕ
number_of t = when eqb t 0xffffffffffffffff then 0xffffffffffffffff else t + 1

-- the touch check and the touch of Moments.antt, where the window that opens has such a number: at a moment that settles they are `checked_of` and `granted_of`
unfoldable pub checked_in : Presence → (side t : ℕ) → Finding
checked_in p s t =
    when not (is_live p.touch p.w t) then record { yes = false; presence = record { w = p.w; prompt = window_of (number_of t); touch = p.touch; last = p.last; asker = s } }
    else when not (eqb p.asker s) then record { yes = false; presence = p }
    else record { yes = true; presence = record { w = p.w; prompt = p.prompt; touch = None; last = p.last; asker = p.asker } }

unfoldable pub granted_in : Presence → ℕ → Finding
granted_in p t =
    when is_prompting p t then record { yes = true; presence = record { w = p.w; prompt = None; touch = window_of (number_of t); last = p.last; asker = p.asker } }
    else record { yes = false; presence = p }
