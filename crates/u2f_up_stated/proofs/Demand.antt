-- Demand 3 for the runs of any way of calling that keeps to the five roles: the record is read off the history, and so is
-- every outcome.
use Prim.Native.Nat.{ℕ, suc, ◌<◌, ◌≤◌}
use mathlib.Core.Path.{◌≡◌, refl, sym, ap, ◌∙◌}
use mathlib.Core.Bool.{Bool, true, false, not, ◌&&◌}
use mathlib.Core.List.{List, [], ◌∷◌, ◌++◌}
use mathlib.Core.Option.{some}
use native.Mathlib.Omega.{arith}
use lib.Dec.{eqb}
use lib.ListN.{length, length-append}
use Rattle.outcome.specs.Notation.{when◌then◌else◌}
use Rattle.outcome.specs.Outcome.{Outcome, R, Gives}
use Rattle.u2f_up_stated.specs.Words.{Presence, Some}
use Rattle.u2f_up_stated.specs.Moments.{Told, is_live, is_r6, is_bad_side, is_r1, moved_to, granted_of, checked_of}
use Rattle.u2f_up_stated.specs.History.{Role, Touching, Checking, Asking, Settling, TooShort, RefusedBy, TouchAccepted, TouchIgnored, TouchFound, NoTouchFound, PromptStands, NoPromptStands, Event, Mark, touch_mark, side_of, those, is_young, is_found, is_any, held_at, held_for, last_moment, latest_prompt, unspent, asker_of, is_prompt_standing, unrefused, foretold, server_of}
use Rattle.u2f_up_stated.specs.Runs.{Caller, Keeps, after, comes_to, came_of, history, done_by}
use Rattle.u2f_up_stated.proofs.Roles.{settled_as, done_refused, done_touching, done_checking, done_asking, done_settling, done_short}
use Rattle.u2f_up_stated.proofs.Lists.{stay_old}
use Rattle.u2f_up_stated.proofs.Runs.{prompt_of, held_of, record_of, not_before, Sorted, Effect, still, moved, touched, spent, prompted, last_next, Follows, follows, real_as, settles_as_r8, settles_r1, settles}
use Rattle.u2f_up_stated.proofs.Touches.{Inv, inv_at_first, keeps, held_now, live_held, found_held, prompt_old, unspent_next, at_most_one, window_of, left_old}
use Rattle.u2f_up_stated.proofs.Prompts.{Agrees, agrees_at_first, agrees_next}
use Rattle.u2f_up_stated.proofs.Ledger.{Balanced, balanced_at_first, balanced_next, OneEach, one_at_first, one_next, TwoSides, two_at_first, two_next}
use Rattle.u2f_up_stated.proofs.Served.{Owned, owned_at_first, owned_next}
use Rattle.u2f_up_stated.proofs.Served as Served

abbrev outcome : Told → Outcome Bool
outcome s = s.outcome

-- what a call gives on the record that a history has made, in the history's words
module _ (w : ℕ) (h : List Event) (t : ℕ) (within : is_r6 w ≡ false) (i : Inv w h) (g : Agrees w h) where
  abbrev p : Presence
  p = record_of w h

  abbrev gives : Role → Outcome Bool
  gives Touching = Gives (is_live (prompt_of w h) 10000 t)
  gives (Checking s) = Gives (is_live (held_of h) w t && eqb (asker_of w h) s)
  gives Asking = Gives (is_live (prompt_of w h) 10000 t)
  gives (Settling s) = Gives true
  gives (TooShort s) = R 2

  yes_granted : (b : Bool) → is_live (prompt_of w h) 10000 t ≡ b → (granted_of (moved_to p t) t).yes ≡ is_live (prompt_of w h) 10000 t
  unfolding granted_of
  yes_granted true e = rw e
  yes_granted false e = rw e

  yes_checked : (s : ℕ) (b c : Bool) → is_live (held_of h) w t ≡ b → eqb (asker_of w h) s ≡ c → (checked_of (moved_to p t) s t).yes ≡ is_live (held_of h) w t && eqb (asker_of w h) s
  unfolding checked_of
  yes_checked s true true e f = rw (e, f)
  yes_checked s true false e f = rw (e, f)
  yes_checked s false c e f = rw e

  outcome_given : is_r1 (last_moment h) t ≡ false → (k : Role) → is_bad_side (side_of k) ≡ false → (done_by k p t).outcome ≡ gives k
  outcome_given e Touching n =
      ap outcome (done_touching p t (moved_to p t) (settles w h t within i.real (asker_of w h) i.real e)) ∙ ap {B = Outcome Bool} Gives (yes_granted (is_live (prompt_of w h) 10000 t) refl)
  outcome_given e (Checking s) n =
      ap outcome (done_checking p t (moved_to p t) s (settles w h t within i.real s n e)) ∙ ap {B = Outcome Bool} Gives (yes_checked s (is_live (held_of h) w t) (eqb (asker_of w h) s) refl refl)
  outcome_given e Asking n = ap outcome (done_asking p t (moved_to p t) (settles w h t within i.real (asker_of w h) i.real e))
  outcome_given e (Settling s) n = ap outcome (done_settling p t (moved_to p t) s (settles w h t within i.real s n e))
  outcome_given e (TooShort s) n = ap outcome (done_short p t (moved_to p t) s (settles w h t within i.real s n e))

  -- a side finds a touch exactly when one is live and it asked
  any_found : (s : ℕ) → last_moment h ≤ t → is_live (held_of h) w t && eqb (asker_of w h) s ≡ is_any (held_for w h s t)
  any_found s late = rw (live_held w h t i late, found_held w h s t i late) (go (is_any (held_at w h t)) refl (eqb (asker_of w h) s))
    where
      go : (b : Bool) → is_any (held_at w h t) ≡ b → (c : Bool) → b && c ≡ is_any (when c then held_at w h t else [])
      go true e true = sym e
      go true e false = refl
      go false e true = sym e
      go false e false = refl

  gives_foretold : last_moment h ≤ t → (k : Role) → came_of k (gives k) ≡ unrefused w h k t
  unfolding is_prompt_standing
  gives_foretold late Touching = ap (λ (b : Bool). when b then TouchAccepted else TouchIgnored) (g.agrees t)
  gives_foretold late (Checking s) = ap (λ (b : Bool). when b then TouchFound else NoTouchFound) (any_found s late)
  gives_foretold late Asking = ap (λ (b : Bool). when b then PromptStands else NoPromptStands) (g.agrees t)
  gives_foretold late (Settling s) = refl
  gives_foretold late (TooShort s) = refl

  pub outcome_foretold : (k : Role) → came_of k (done_by k p t).outcome ≡ foretold w h (record { role = k; moment = t })
  unfolding foretold
  outcome_foretold k = go (is_bad_side (side_of k)) refl (is_r1 (last_moment h) t) refl
    where
      go : (c : Bool) → is_bad_side (side_of k) ≡ c → (b : Bool) → is_r1 (last_moment h) t ≡ b
          → came_of k (done_by k p t).outcome ≡ (when c then RefusedBy 8 else when b then RefusedBy 1 else unrefused w h k t)
      go true n b e = ap (λ (s : Told). came_of k s.outcome) (done_refused p t 8 k (settles_as_r8 w h t within i.real k n))
      go false n true e = ap (λ (s : Told). came_of k s.outcome) (done_refused p t 1 k (settles_r1 w h t within i.real (settled_as p k) (real_as w h t within i.real k n) e))
      go false n false e = ap (came_of k) (outcome_given e k n) ∙ gives_foretold (not_before (last_moment h) t e) k

-- a touch that is live after an event, and is not that event, was live before it
module _ (w : ℕ) (h : List Event) (e : Event) (k : Mark) (t : ℕ) where
  abbrev Before : Type 0
  Before = (last_moment h ≤ t) × (held_at w h t ≡ k ∷ [])

  passes : {m p : Bool} → Sorted w h e m false false p → last_moment h ≤ t → held_at w (e ∷ h) t ≡ k ∷ [] → Before
  passes x late l = (late, sym (ap (those (is_young w t)) (unspent_next h w x)) ∙ l)

  not_empty : those (is_young w t) (unspent w (e ∷ h)) ≡ [] → held_at w (e ∷ h) t ≡ k ∷ [] → ⊥
  not_empty n l = let z : ◌≡◌ {A = ℕ} 0 1 = cc in omega arith

  module _ (i : Inv w h) (late : last_moment (e ∷ h) ≤ t) (l : held_at w (e ∷ h) t ≡ k ∷ []) (n : k.number < length h) where
    accepted_now : (x : Sorted w h e true true false false) → last_moment h ≤ e.call.moment → is_live (prompt_of w h) 10000 e.call.moment ≡ true → Before
    accepted_now x b is_live_lem = absurd (go (is_young w t (touch_mark w e h)) (sym (ap (those (is_young w t)) (unspent_next h w x)) ∙ l))
      where
        old : those (is_young w t) (unspent w h) ≡ []
        old = stay_old w (last_moment h) t (omega (arith, last_next h w x)) (unspent w h) (prompt_old w (last_moment h) e.call.moment (unspent w h) (prompt_of w h) is_live_lem i.prompting)

        go : (y : Bool) → (when y then touch_mark w e h ∷ those (is_young w t) (unspent w h) else those (is_young w t) (unspent w h)) ≡ k ∷ [] → ⊥
        go true q = let z : length h ≡ k.number = cc in omega arith
        go false q = let z : ◌≡◌ {A = ℕ} 0 1 = cc old in omega arith

    spent_now : (x : Sorted w h e true false true false) → last_moment h ≤ e.call.moment → is_live (held_of h) w e.call.moment ≡ true → asker_of w h ≡ side_of e.call.role → Before
    spent_now x b is_live_lem own =
        let gone = rw own at (left_old w (asker_of w h) e.call.moment (unspent w h) (held_of h) is_live_lem (held_now w h e.call.moment b i)) in
        absurd (not_empty (rw (unspent_next h w x) (stay_old w e.call.moment t (omega (arith, last_next h w x)) (those (λ k. not (is_found w (side_of e.call.role) e.call.moment k)) (unspent w h)) gone)) l)

    back : Effect w h e → Before
    back (still x) = passes x (omega (arith, last_next h w x)) l
    back (moved x b) = passes x (omega (arith, last_next h w x)) l
    back (touched x b is_live_lem) = accepted_now x b is_live_lem
    back (spent x b is_live_lem own) = spent_now x b is_live_lem own
    back (prompted x b not_live known) = passes x (omega (arith, last_next h w x)) l

-- runs
module _ {D : Type 0} (𝒞 : Caller D) (keeping : Keeps 𝒞) (w : ℕ) (within : is_r6 w ≡ false) where
  abbrev past : List D → List Event
  past ds = history 𝒞 w ds

  step : (ds : List D) (d : D) → after 𝒞 w ds ≡ record_of w (past ds) → 𝒞.does (after 𝒞 w ds) d ≡ done_by (𝒞.as_call d).role (record_of w (past ds)) (𝒞.as_call d).moment
  step ds d e = keeping (after 𝒞 w ds) d ∙ ap (λ q. done_by (𝒞.as_call d).role q (𝒞.as_call d).moment) e

  step_follows : (ds : List D) (d : D) → Inv w (past ds) → after 𝒞 w ds ≡ record_of w (past ds) → Follows w (past ds) (𝒞.as_call d).moment (𝒞.as_call d).role (𝒞.does (after 𝒞 w ds) d)
  step_follows ds d i e = rw (step ds d e) (follows w (past ds) (𝒞.as_call d).moment within i.real (live_held w (past ds) (𝒞.as_call d).moment i) (𝒞.as_call d).role)

  -- the record is what the history says, and of the history the invariant holds: each needs the other, a call before
  both : (ds : List D) → (after 𝒞 w ds ≡ record_of w (past ds)) × Inv w (past ds)
  unfolding after history prompt_of held_of last_moment latest_prompt
  both [] = (refl, inv_at_first)
  both (d ∷ ds) = let b = both ds in let f = step_follows ds d b.1 b.0 in (f.exact, keeps w (past ds) _ f.effect b.1)

  pub exact : (ds : List D) → after 𝒞 w ds ≡ record_of w (past ds)
  exact ds = (both ds).0

  pub invariant : (ds : List D) → Inv w (past ds)
  invariant ds = (both ds).1

  effect : (ds : List D) (d : D) → Effect w (past ds) (record { call = 𝒞.as_call d; came = comes_to 𝒞 w ds d })
  effect ds d = (step_follows ds d (invariant ds) (exact ds)).effect

  -- what holds at first and is kept by every event holds of every run
  pub along : (P : List Event → Type 0) → P [] → ((h : List Event) (e : Event) → Effect w h e → P h → P (e ∷ h)) → (ds : List D) → P (past ds)
  unfolding history
  along P first more [] = first
  along P first more (d ∷ ds) = more (past ds) _ (effect ds d) (along P first more ds)

  agreeing : (ds : List D) → Agrees w (past ds)
  agreeing = along (Agrees w) (agrees_at_first w) (λ h e x g. agrees_next w h e g x)

  pub balanced : (picks : Mark → Bool) (ds : List D) → Balanced w picks (past ds)
  balanced picks = along (Balanced w picks) (balanced_at_first w picks) (λ h e x b. balanced_next w picks h e b x)

  pub one_each : (ds : List D) → OneEach w (past ds)
  one_each ds = (along (λ h. Inv w h × OneEach w h) (inv_at_first, one_at_first w) (λ h e x b. (keeps w h e x b.0, one_next w h e b.0 b.1 x)) ds).1

  pub two_sided : (ds : List D) → TwoSides w (past ds)
  two_sided ds = (along (λ h. Inv w h × TwoSides w h) (inv_at_first, two_at_first w) (λ h e x b. (keeps w h e x b.0, two_next w h e b.0 b.1 x)) ds).1

  pub owned : (ds : List D) → Owned w (past ds)
  owned = along (Owned w) (owned_at_first w) (λ h e x o. owned_next w h e o x)

  pub served_by : (ds : List D) (d : D) → comes_to 𝒞 w ds d ≡ TouchFound
      → (k : Mark) × (server_of w (past ds) ≡ some k) × (held_at w (past ds) (𝒞.as_call d).moment ≡ k ∷ []) × (k.side ≡ side_of (𝒞.as_call d).role)
  served_by ds d y = Served.serves w (past ds) _ (owned ds) (invariant ds) (effect ds d) (rw y)

  pub foretells : (ds : List D) (d : D) → comes_to 𝒞 w ds d ≡ foretold w (past ds) (𝒞.as_call d)
  foretells ds d = ap (λ (s : Told). came_of (𝒞.as_call d).role s.outcome) (step ds d (exact ds)) ∙ outcome_foretold w (past ds) (𝒞.as_call d).moment within (invariant ds) (agreeing ds) (𝒞.as_call d).role

  pub one_held_at : (ds : List D) (t : ℕ) → last_moment (past ds) ≤ t → length (held_at w (past ds) t) ≤ 1
  one_held_at ds t late = at_most_one w (asker_of w (past ds)) t (unspent w (past ds)) (held_of (past ds)) (held_now w (past ds) t late (invariant ds))

  pub one_found_at : (ds : List D) (s t : ℕ) → last_moment (past ds) ≤ t → length (held_for w (past ds) s t) ≤ 1
  one_found_at ds s t late = rw (found_held w (past ds) s t (invariant ds) late) (go (eqb (asker_of w (past ds)) s) (one_held_at ds t late))
    where
      go : (b : Bool) → length (held_at w (past ds) t) ≤ 1 → length (when b then held_at w (past ds) t else []) ≤ 1
      go true m = m
      go false m = omega arith

  history_length : (ds : List D) → length (past ds) ≡ length ds
  unfolding history
  history_length [] = refl
  history_length (d ∷ ds) = ap suc (history_length ds)

  pub holds : (later earlier : List D) (k : Mark) (t : ℕ) → last_moment (past (later ++ earlier)) ≤ t → held_at w (past (later ++ earlier)) t ≡ k ∷ [] → k.number < length earlier
      → (after 𝒞 w earlier).touch ≡ Some k.moment
  unfolding history
  holds [] earlier k t late l n =
      ap (λ (q : Presence). q.touch) (exact earlier) ∙ (window_of w (asker_of w (past earlier)) t (unspent w (past earlier)) (held_of (past earlier)) k (held_now w (past earlier) t late (invariant earlier)) l).0
  holds (d ∷ later) earlier k t late l n =
      let ds = later ++ earlier in
      let b = back w (past ds) _ k t (invariant ds) late l (omega (arith, history_length ds, length-append later earlier)) (effect ds d) in
      holds later earlier k t b.0 b.1 n
