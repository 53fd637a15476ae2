-- A presence record p has a touch window length W (`p.w`), two windows, prompt and touch, each `None` or `Some m`, a last moment
-- (`p.last`) and the number of the side that asked last (`p.asker`): 0 is USB, 1 wireless. What it says at a moment t to a call that
-- names a side: document 01, 'Moments and touches' and 'Refusal numbers', document 02, E7.
mod Words
use Words.*

-- R6: "W is 0 or above 60,000, when made or in a record"
abbrev pub BadWindow : ℕ → Type 0
BadWindow w = (w ≡ 0) ⊎ (60000 < w)

-- "R8 for a side other than 0 or 1, named or in the record". (Touch and ask name none, and count as naming the record's.)
abbrev pub BadSide : (named asker : ℕ) → Type 0
BadSide named asker = (1 < named) ⊎ (1 < asker)

-- R1: "moment 2^48 or more, or before the record's last moment"
abbrev pub BadMoment : ℕ → ℕ → Type 0
BadMoment last t = (2 ^ 48 ≤ t) ⊎ (t < last)

-- none of the three
abbrev pub NotRefused : Presence → (side t : ℕ) → Type 0
NotRefused p s t = (BadWindow p.w → ⊥) × (BadSide s p.asker → ⊥) × (BadMoment p.last t → ⊥)

-- a live touch: "A window opened at m with length d is live at t when t < m + d", and the touch window's length is W
abbrev pub HasTouch : Presence → ℕ → Type 0
HasTouch p t = (m : ℕ) × (p.touch ≡ Some m) × (t < m + p.w)
