-- What each return of the functions gives, as a law in the form of its need: the premises are the facts as the code has
-- them. The only file, beside the theorems on runs, that opens the definitions of specs/Moments.antt.
use Prim.Native.Nat.{ℕ, ◌^◌, ◌≤◌}
use mathlib.Core.Path.{◌≡◌, sym, ap, ◌∙◌}
use mathlib.Core.Bool.{Bool, true, false, not}
use lib.Dec.{ltb}
use borrow.Author.Tests.{le-leb, eq-eqb, ne_eqb}
use Rattle.outcome.specs.declared.Refusal.{Refusal}
use Rattle.u2f_up_stated.specs.Words.{R, Gives, refusal_no, Presence, Finding}
use Rattle.u2f_up_stated.specs.Moments.{is_live, is_r6, is_r8, is_r1, fresh, new_of, moved_to, touch_opened, touch_closed, prompt_opened, settle_of, granted_of, checked_of}
use Rattle.u2f_up_stated.specs.Moments.{Told, gave, refused, on_settled, touch_of, check_of, ask_of}
use Rattle.u2f_up_stated.specs.Answers.{ready_of}
use Rattle.u2f_up_stated.specs.Words.{Ready}
use Rattle.std.specs.Prelude.{Ok, Err}

pub r6_above : (w : ℕ) → (w ≡ 0 → ⊥) → ltb 60000 w ≡ is_r6 w
r6_above w h = rw (ne_eqb w 0 h)

pub r1_beyond : (last t : ℕ) → 2 ^ 48 ≤ t → true ≡ is_r1 last t
r1_beyond last t h = rw (le-leb (2 ^ 48) t h)

-- making a record
module _ (w : ℕ) (bad : Bool) where
  pub new_r6 : bad ≡ is_r6 w → bad ≡ true → R 6 ≡ new_of w
  unfolding new_of
  new_r6 e h = rw (sym e ∙ h)

  pub new_made : bad ≡ is_r6 w → bad ≡ false → Gives (fresh w) ≡ new_of w
  unfolding new_of
  new_made e h = rw (sym e ∙ h)

-- settling the moment
module _ (p : Presence) (s t : ℕ) (bad : Bool) where
  pub settle_r6 : bad ≡ is_r6 p.w → bad ≡ true → R 6 ≡ settle_of p s t
  unfolding settle_of
  settle_r6 e h = rw (sym e ∙ h)

  module _ (none : Bool) where
    pub settle_r8 : bad ≡ is_r6 p.w → bad ≡ false → none ≡ is_r8 s p.asker → none ≡ true → R 8 ≡ settle_of p s t
    unfolding settle_of
    settle_r8 e h f k = rw (sym e ∙ h, sym f ∙ k)

    module _ (late : Bool) where
      pub settle_r1 : bad ≡ is_r6 p.w → bad ≡ false → none ≡ is_r8 s p.asker → none ≡ false → late ≡ is_r1 p.last t → late ≡ true → R 1 ≡ settle_of p s t
      unfolding settle_of
      settle_r1 e h f k g l = rw (sym e ∙ h, sym f ∙ k, sym g ∙ l)

      pub settled : bad ≡ is_r6 p.w → bad ≡ false → none ≡ is_r8 s p.asker → none ≡ false → late ≡ is_r1 p.last t → late ≡ false → Gives (moved_to p t) ≡ settle_of p s t
      unfolding settle_of
      settled e h f k g l = rw (sym e ∙ h, sym f ∙ k, sym g ∙ l)

-- touch and touch check on a settled record
module _ (p : Presence) (t : ℕ) (live : Bool) where
  pub granted_yes : live ≡ is_live p.prompt 10000 t → live ≡ true → record { yes = true; presence = touch_opened p t } ≡ granted_of p t
  unfolding granted_of
  granted_yes e h = rw (sym e ∙ h)

  pub granted_no : live ≡ is_live p.prompt 10000 t → live ≡ false → record { yes = false; presence = p } ≡ granted_of p t
  unfolding granted_of
  granted_no e h = rw (sym e ∙ h)

  module _ (s : ℕ) where
    pub checked_prompts : live ≡ is_live p.touch p.w t → not live ≡ true → record { yes = false; presence = prompt_opened p s t } ≡ checked_of p s t
    unfolding checked_of
    checked_prompts e h = rw (ap not (sym e) ∙ h)

    pub checked_other : live ≡ is_live p.touch p.w t → not live ≡ false → (p.asker ≡ s → ⊥) → record { yes = false; presence = p } ≡ checked_of p s t
    unfolding checked_of
    checked_other e h n = rw (ap not (sym e) ∙ h, ne_eqb p.asker s n)

    pub checked_own : live ≡ is_live p.touch p.w t → not live ≡ false → p.asker ≡ s → record { yes = true; presence = touch_closed p } ≡ checked_of p s t
    unfolding checked_of
    checked_own e h o = rw (ap not (sym e) ∙ h, eq-eqb p.asker s o)

-- the calls: a refusal keeps the record that came in, and what is found on the settled record is what is told
module _ (p : Presence) (side t : ℕ) (ready : Ready) (settles : ready_of ready ≡ settle_of p side t) (s : Told) where
  told_refused : (why : Refusal) → ready ≡ Err why → s ≡ refused (refusal_no why) p → (go_on : Presence → Told) → s ≡ on_settled p (settle_of p side t) go_on
  told_refused why is tells go_on = tells ∙ rw (← settles, is)

  told_found : (q : Presence) → ready ≡ Ok q → (found : Finding) → s ≡ gave found → (f : Presence → Finding) → found ≡ f q
      → s ≡ on_settled p (settle_of p side t) (λ x. gave (f x))
  told_found q is found tells f e = tells ∙ rw (← settles, is, ← e)

  pub check_refused : (why : Refusal) → ready ≡ Err why → s ≡ refused (refusal_no why) p → s ≡ check_of p side t
  unfolding check_of
  check_refused why is tells = told_refused why is tells (λ q. gave (checked_of q side t))

  pub check_found : (q : Presence) → ready ≡ Ok q → (found : Finding) → s ≡ gave found → found ≡ checked_of q side t → s ≡ check_of p side t
  unfolding check_of
  check_found q is found tells = told_found q is found tells (λ x. checked_of x side t)

-- a touch settles as the record's own side
module _ (p : Presence) (t : ℕ) (ready : Ready) (settles : ready_of ready ≡ settle_of p p.asker t) (s : Told) where
  pub touch_refused : (why : Refusal) → ready ≡ Err why → s ≡ refused (refusal_no why) p → s ≡ touch_of p t
  unfolding touch_of
  touch_refused why is tells = told_refused p p.asker t ready settles s why is tells (λ q. gave (granted_of q t))

  pub touch_found : (q : Presence) → ready ≡ Ok q → (found : Finding) → s ≡ gave found → found ≡ granted_of q t → s ≡ touch_of p t
  unfolding touch_of
  touch_found q is found tells = told_found p p.asker t ready settles s q is found tells (λ x. granted_of x t)

-- asking gives no record back
module _ (p : Presence) (t : ℕ) (ready : Ready) (settles : ready_of ready ≡ settle_of p p.asker t) where
  pub ask_refused : (why : Refusal) → ready ≡ Err why → R (refusal_no why) ≡ (ask_of p t).outcome
  unfolding ask_of
  ask_refused why is = rw (← settles, is)

  pub ask_found : (q : Presence) → ready ≡ Ok q → (live : Bool) → live ≡ is_live p.prompt 10000 t → Gives live ≡ (ask_of p t).outcome
  unfolding ask_of
  ask_found q is live e = rw (← settles, is, e)
