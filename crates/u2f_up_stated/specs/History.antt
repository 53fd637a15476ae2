-- Document 01, 'Moments and touches', from "In history terms" on, with document 02, E7: what a history says of its touches, read off
-- its calls and their outcomes alone. No definition here looks at a presence record.
-- Histories are lists, NEWEST FIRST: what stands behind an event in the list is its past. Throughout, w is the touch window's length W,
-- past the events so far, t a moment, k a mark, s a side, or the mark of a prompting refusal.
mod Words
use Words.*
pub use Rattle.u2f_up_stated.specs.Events.{Role, Touching, Checking, Asking, Settling, TooShort, Call, side_of, Came, RefusedBy, TouchAccepted, TouchIgnored, TouchFound, NoTouchFound, PromptStands, NoPromptStands, AnsweredBefore, Event}
pub use Rattle.u2f_up_stated.specs.Tests.{is_touch_accepted, is_touch_found, is_no_touch_found, is_timed}

-- `is_touch_accepted` and the like test which case came (Tests.antt). "A touch at t is accepted"
abbrev pub is_accepted : Event → Bool
is_accepted e = is_touch_accepted e.came

-- "A call spends a touch if the check succeeds"
abbrev pub is_spending : Event → Bool
is_spending e = is_touch_found e.came

-- what sets the last moment: all but refusals and asks
abbrev pub is_moving : Event → Bool
is_moving e = is_timed e.came

-- The last moment of a history, 0 in a new one.
unfoldable pub last_moment : List Event → ℕ
last_moment [] = 0
last_moment (e ∷ past) = when is_moving e then e.call.moment else last_moment past

-- A touch, or a prompting refusal: which event it is, counted from 0 in the order of the calls, its moment, and whose it is. Two touches may
-- share a moment; they never share a number.
pub record Mark : Type 0 where
  pub number : ℕ
  pub moment : ℕ
  pub side : ℕ

abbrev pub marked : (side : ℕ) → Event → List Event → Mark
marked s e past = record { number = length past; moment = e.call.moment; side = s }

-- those of a list that the test picks
abbrev pub those : {A : Type 0} → (A → Bool) → List A → List A
those picks [] = []
those picks (a ∷ rest) = when picks a then a ∷ those picks rest else those picks rest

abbrev pub is_any : List Mark → Bool
is_any [] = false
is_any (k ∷ ks) = true

-- "A touch has lapsed when it is unspent and W has passed"; it is young while W has not
abbrev pub is_young : ℕ → ℕ → Mark → Bool
is_young w t k = ltb t (k.moment + w)

abbrev pub is_past_w : ℕ → ℕ → Mark → Bool
is_past_w w t k = not (is_young w t k)

abbrev pub is_of : (side : ℕ) → Mark → Bool
is_of s k = eqb k.side s

-- Which unspent touch a call of a side finds at t: young, and its own.
abbrev pub is_found : (w side t : ℕ) → Mark → Bool
is_found w s t k = is_young w t k && is_of s k

-- A prompting refusal is a check that finds nothing while no touch of either side is held. (A 6985 beside the other side's is not one.)
abbrev pub is_prompting_by : Event → (held : List Mark) → Bool
is_prompting_by e held = is_no_touch_found e.came && not (is_any held)

-- "An accepted touch belongs to the asker", the side of the latest prompting refusal; 0 where there was none (no touch is accepted then)
abbrev pub side_asked : Option Mark → ℕ
side_asked none = 0
side_asked (some s) = s.side

-- The latest prompting refusal, and the accepted touches that no call has spent. The two are told together: what its past held says whether a check was a
-- prompting refusal, and the latest prompting refusal before a touch says whose it is. A touch goes when a call of its side spends while it is young; one that
-- is old by then stays in the list for good.
unfoldable mutual
  pub latest_prompt : ℕ → List Event → Option Mark
  latest_prompt w [] = none
  latest_prompt w (e ∷ past) =
      when is_prompting_by e (those (is_young w e.call.moment) (unspent w past)) then some (marked (side_of e.call.role) e past)
      else latest_prompt w past

  pub unspent : ℕ → List Event → List Mark
  unspent w [] = []
  unspent w (e ∷ past) =
      when is_accepted e then marked (side_asked (latest_prompt w past)) e past ∷ unspent w past
      else when is_spending e then those (λ k. not (is_found w (side_of e.call.role) e.call.moment k)) (unspent w past)
      else unspent w past

-- the asking side: "A prompting refusal makes its side the asker, in place of any earlier."
abbrev pub asker_of : ℕ → List Event → ℕ
asker_of w past = side_asked (latest_prompt w past)

-- "An accepted touch belongs to the asker."
abbrev pub touch_mark : ℕ → Event → List Event → Mark
touch_mark w e past = marked (asker_of w past) e past

-- The accepted touches, unspent and younger than W, that a history holds at t, whichever side's. (Of a record, a window is live; of a
-- history, a touch is held.)
abbrev pub held_at : ℕ → List Event → ℕ → List Mark
held_at w past t = those (is_young w t) (unspent w past)

-- Those of them that belong to a side.
abbrev pub held_for : ℕ → List Event → (side t : ℕ) → List Mark
held_for w past s t = those (is_found w s t) (unspent w past)

-- The touches that were accepted, and the latest of them.
unfoldable pub accepted : ℕ → List Event → List Mark
accepted w [] = []
accepted w (e ∷ past) = when is_accepted e then touch_mark w e past ∷ accepted w past else accepted w past

unfoldable pub latest_touch : ℕ → List Event → Option Mark
latest_touch w [] = none
latest_touch w (e ∷ past) = when is_accepted e then some (touch_mark w e past) else latest_touch w past

-- 's comes after', in the order of the calls; everything comes after what never was.
abbrev pub is_after : Mark → Option Mark → Bool
is_after s none = true
is_after s (some a) = ltb a.number s.number

-- "the latest prompting refusal, at s, comes after the latest accepted touch, and t - s < 10,000". (Of a
-- record, a prompt window is live; of a history, a prompt stands.)
abbrev pub is_standing_by : Option Mark → Option Mark → ℕ → Bool
is_standing_by none a t = false
is_standing_by (some s) a t = is_after s a && ltb t (s.moment + 10000)

unfoldable pub is_prompt_standing : ℕ → List Event → ℕ → Bool
is_prompt_standing w past t = is_standing_by (latest_prompt w past) (latest_touch w past) t

-- "A touch has lapsed when it is unspent and W has passed at the last moment."
abbrev pub lapsed : ℕ → List Event → List Mark
lapsed w past = those (is_past_w w (last_moment past)) (unspent w past)

-- The spent touches, call by call. (Used in proofs alone.)
unfoldable pub served : ℕ → List Event → List Mark
served w [] = []
served w (e ∷ past) = when is_spending e then held_for w past (side_of e.call.role) e.call.moment ++ served w past else served w past

-- Which touch served a call that spent one, said without a word of what is spent: the latest accepted one before it.
abbrev pub server_of : ℕ → List Event → Option Mark
server_of w past = latest_touch w past

-- The touches that served the calls of a history, call by call.
unfoldable pub servers : ℕ → List Event → List (Option Mark)
servers w [] = []
servers w (e ∷ past) = when is_spending e then server_of w past ∷ servers w past else servers w past

abbrev pub is_named : ℕ → Option Mark → Bool
is_named n none = false
is_named n (some k) = eqb k.number n

-- How many calls spent a touch, and how many of a side.
abbrev pub spenders : List Event → ℕ
spenders past = length (those is_spending past)

abbrev pub is_spending_for : (side : ℕ) → Event → Bool
is_spending_for s e = is_spending e && eqb (side_of e.call.role) s

abbrev pub spenders_of : (side : ℕ) → List Event → ℕ
spenders_of s past = length (those (is_spending_for s) past)

-- What a history says of its next call, where neither side nor moment is refused.
abbrev pub unrefused : ℕ → List Event → Role → ℕ → Came
unrefused w past Touching t = when is_prompt_standing w past t then TouchAccepted else TouchIgnored
unrefused w past (Checking s) t = when is_any (held_for w past s t) then TouchFound else NoTouchFound
unrefused w past Asking t = when is_prompt_standing w past t then PromptStands else NoPromptStands
unrefused w past (Settling s) t = AnsweredBefore
unrefused w past (TooShort s) t = RefusedBy 2

-- And before that R8, "for a side other than 0 or 1", then R1, "moment 2^48 or more, or before the record's last moment"
unfoldable pub foretold : ℕ → List Event → Call → Came
foretold w past c =
    when is_bad_side (side_of c.role) then RefusedBy 8
    else when is_r1 (last_moment past) c.moment then RefusedBy 1
    else unrefused w past c.role c.moment

-- ---- what the demand says of a history, as claims

-- R1, by the last moment of a history
abbrev pub RefusedAt : List Event → ℕ → Type 0
RefusedAt past t = (2 ^ 48 ≤ t) ⊎ (t < last_moment past)

-- R8 in a run, where no record has another side than 0 or 1: by the side that the call names
abbrev pub NamesBadSide : Role → Type 0
NamesBadSide role = 1 < side_of role

-- no touch is named twice as the one that served a call
abbrev pub ServesOnce : ℕ → List Event → Type 0
ServesOnce w past = (n : ℕ) → length (those (is_named n) (servers w past)) ≤ 1
