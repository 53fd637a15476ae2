-- Demand 3, with 02, E7's "a touch of its own side" and "totals kept per side", sentence by sentence, of a run of calls with touch window
-- `w`, and of one more call `d`.
mod Words
use Words.*

-- Of any calls of type D: `as_call` says what each is, `past` is the history of the calls `ds`, newest first, `comes` what comes of one more, `OpenedAt earlier
-- m` that after the calls `earlier` the record's touch window is one opened at m, `side` the record's asker. Demands.antt puts in C's calls.
module _ {D : Type 0} (w : ℕ) (as_call : D → Call) (ds : List D) (past : List Event) (comes : D → Came) (OpenedAt : (earlier : List D) (m : ℕ) → Type 0) (side : ℕ) where
  abbrev moment : D → ℕ
  moment d = (as_call d).moment

  abbrev role : D → Role
  role d = (as_call d).role

  pub record RunMeets : Type 0 where
    -- What comes of a call, whatever its role, is what the history before it foretells.
    pub foretells : (d : D) → comes d ≡ foretold w past (as_call d)
    -- Ours: R8 comes exactly for a call that names another side than 0 or 1; R1 exactly for one that does not and whose moment is 2^48 or more or before the
    -- last moment; R6 never.
    pub refuses_side : (d : D) → (comes d ≡ RefusedBy 8) ↔ NamesBadSide (role d)
    pub refuses : (d : D) → (comes d ≡ RefusedBy 1) ↔ ((NamesBadSide (role d) → ⊥) × RefusedAt past (moment d))
    pub refuses_no_window : (d : D) → comes d ≡ RefusedBy 6 → ⊥
    -- 01: "A touch at t is accepted exactly when it gets no R refusal, the latest prompting refusal, at s, comes after the latest accepted
    -- touch, and t - s < 10,000."
    pub accepts : (d : D) → role d ≡ Touching → (comes d ≡ TouchAccepted)
        ↔ ((RefusedAt past (moment d) → ⊥) × ((s : Mark) × (latest_prompt w past ≡ some s) × (is_after s (latest_touch w past) ≡ true) × (moment d < s.moment + 10000)))
    -- Demand 3: a call that comes to the touch check finds a touch exactly when the history holds an accepted one of its own side, unspent and
    -- younger than W; it holds no second.
    pub finds : (d : D) (s : ℕ) → role d ≡ Checking s → (comes d ≡ TouchFound)
        ↔ ((NamesBadSide (role d) → ⊥) × (RefusedAt past (moment d) → ⊥) × ((k : Mark) × (held_for w past s (moment d) ≡ k ∷ [])))
    -- And a touch that the history holds, whichever side's, is the record's: in every record from that touch on, the touch window is one opened at its moment.
    pub holds : (k : Mark) (t : ℕ) → last_moment past ≤ t → held_at w past t ≡ k ∷ []
        → (later earlier : List D) → ds ≡ later ++ earlier → k.number < length earlier → OpenedAt earlier k.moment
    -- 02, E7: "A prompting refusal makes its side the asker, in place of any earlier.": the record has the side of the latest one, and 0 where
    -- there was none.
    pub asker : side ≡ asker_of w past
    -- A call that spends a touch is served by the latest accepted one before it, the only one held, and it is of the call's own side.
    pub serves : (d : D) → comes d ≡ TouchFound
        → (k : Mark) × (server_of w past ≡ some k) × (held_at w past (moment d) ≡ k ∷ []) × (role d ≡ Checking k.side)
    -- No touch serves two calls: none is named twice.
    pub once : ServesOnce w past
    -- Demand 3, for each side: accepted = spent + lapsed + live (spent: the calls that did; live: held at the last moment); live at most one over both sides
    -- together. Every touch is of one of the two sides.
    pub side_totals : (s : ℕ) → length (those (is_of s) (accepted w past)) ≡ spenders_of s past + length (those (is_of s) (lapsed w past)) + length (those (is_of s) (held_at w past (last_moment past)))
    pub two_sides : length (accepted w past) ≡ length (those (is_of 0) (accepted w past)) + length (those (is_of 1) (accepted w past))
    pub totals : length (accepted w past) ≡ spenders past + length (lapsed w past) + length (held_at w past (last_moment past))
    pub one_held : length (held_at w past (last_moment past)) ≤ 1
