-- What holds of every history that a run makes: of the touches that no call has spent, only the newest can be young, then it is the
-- asker's, and none is while a prompt stands.
use Prim.Native.Nat.{ℕ, ◌+◌, ◌≤◌}
use mathlib.Core.Path.{◌≡◌, refl, sym, ap, ◌∙◌}
use mathlib.Core.Bool.{Bool, true, false, not, ◌&&◌, true≢false}
use mathlib.Core.List.{List, [], ◌∷◌, ◌++◌}
use mathlib.Core.Option.{some}
use native.Mathlib.Omega.{arith}
use lib.Dec.{ltb, eqb}
use lib.ListN.{length}
use borrow.Author.Tests.{eq-eqb}
use Rattle.outcome.specs.Notation.{when◌then◌else◌}
use Rattle.u2f_up_stated.specs.Words.{Window, None, Some}
use Rattle.u2f_up_stated.specs.Moments.{is_live, is_bad_side}
use Rattle.u2f_up_stated.specs.History.{Event, Mark, side_of, touch_mark, those, is_young, is_of, is_found, is_any, held_at, held_for, last_moment, latest_prompt, asker_of, unspent, accepted, latest_touch, served}
use Rattle.u2f_up_stated.proofs.Lists.{AllOld, stay_old, picks_old, finds_none, young_before}
use Rattle.u2f_up_stated.proofs.Runs.{prompt_of, held_of, Sorted, Effect, still, moved, touched, spent, prompted, last_next, prompt_next, held_next, asker_next}

-- each notion of a history, one event further
module _ {e : Event} {m a s p : Bool} (h : List Event) (w : ℕ) (x : Sorted w h e m a s p) where
  abbrev left : List Mark
  left = those (λ k. not (is_found w (side_of e.call.role) e.call.moment k)) (unspent w h)

  pub unspent_next : unspent w (e ∷ h) ≡ (when a then touch_mark w e h ∷ unspent w h else when s then left else unspent w h)
  unfolding unspent
  unspent_next = rw (x.accepts, x.spends)

  pub accepted_next : accepted w (e ∷ h) ≡ (when a then touch_mark w e h ∷ accepted w h else accepted w h)
  unfolding accepted
  accepted_next = rw x.accepts

  pub touch_next : latest_touch w (e ∷ h) ≡ (when a then some (touch_mark w e h) else latest_touch w h)
  unfolding latest_touch
  touch_next = rw x.accepts

  pub served_next : served w (e ∷ h) ≡ (when s then held_for w h (side_of e.call.role) e.call.moment ++ served w h else served w h)
  unfolding served
  served_next = rw x.spends

-- the unspent touches, as the touch window has them at the last moment, a being the asker
abbrev pub Held : ℕ → ℕ → ℕ → List Mark → Window → Type 0
Held w a last ks None = AllOld w last ks
Held w a last ks (Some m) = (k : Mark) × (rest : List Mark) × (ks ≡ k ∷ rest) × (k.moment ≡ m) × AllOld w last rest × (is_young w last k ≡ true → k.side ≡ a)

-- and as the prompt window has them
abbrev pub Prompting : ℕ → ℕ → List Mark → Window → Type 0
Prompting w last ks None = Unit {0}
Prompting w last ks (Some s) = AllOld w last ks

pub record Inv (w : ℕ) (h : List Event) : Type 0 where
  pub held : Held w (asker_of w h) (last_moment h) (unspent w h) (held_of h)
  pub prompting : Prompting w (last_moment h) (unspent w h) (prompt_of w h)
  pub real : is_bad_side (asker_of w h) ≡ false

module _ (w t u : ℕ) (later : t ≤ u) (ks : List Mark) where
  held_later : (a : ℕ) (x : Window) → Held w a t ks x → Held w a u ks x
  held_later a None h = stay_old w t u later ks h
  held_later a (Some m) h = (h.0, h.1, h.2, h.3, stay_old w t u later h.1 h.4, λ y. h.5 (young_before w t u later h.0 y))

  prompting_later : (x : Window) → Prompting w t ks x → Prompting w u ks x
  prompting_later None h = tt
  prompting_later (Some s) h = stay_old w t u later ks h

-- a live prompt: nothing unspent is young
pub prompt_old : (w last t : ℕ) (ks : List Mark) (x : Window) → is_live x 10000 t ≡ true → Prompting w last ks x → AllOld w last ks
prompt_old w last t ks None e h = let z : ◌≡◌ {A = ℕ} 0 1 = cc in absurd (omega arith)
prompt_old w last t ks (Some s) e h = h

-- what is young of what an open touch window holds: its own touch, while it is live
pub window_young : (w a t : ℕ) (ks : List Mark) (m : ℕ) (h : Held w a t ks (Some m)) → those (is_young w t) ks ≡ (when ltb t (m + w) then h.0 ∷ [] else [])
window_young w a t ks m h = rw (h.2, h.4, h.3)

-- no live touch: nothing unspent is young
none_old : (w a t : ℕ) (ks : List Mark) (x : Window) → is_live x w t ≡ false → Held w a t ks x → AllOld w t ks
none_old w a t ks None e h = h
none_old w a t ks (Some m) e h = window_young w a t ks m h ∙ rw e

-- and whoever asks now, no touch is young to be somebody's
held_dead : (w a b t : ℕ) (ks : List Mark) (x : Window) → is_live x w t ≡ false → Held w a t ks x → Held w b t ks x
held_dead w a b t ks None e h = h
held_dead w a b t ks (Some m) e h = (h.0, h.1, h.2, h.3, h.4, λ y. absurd (true≢false (sym y ∙ rw h.3 e)))

-- the window is live exactly when something unspent is young, and no more than one is
pub live_any : (w a t : ℕ) (ks : List Mark) (x : Window) → Held w a t ks x → is_live x w t ≡ is_any (those (is_young w t) ks)
live_any w a t ks None h = rw h
live_any w a t ks (Some m) h = rw (window_young w a t ks m h) (go (ltb t (m + w)))
  where
    go : (b : Bool) → b ≡ is_any (when b then h.0 ∷ [] else [])
    go true = refl
    go false = refl

pub at_most_one : (w a t : ℕ) (ks : List Mark) (x : Window) → Held w a t ks x → length (those (is_young w t) ks) ≤ 1
at_most_one w a t ks None h = rw h (omega arith)
at_most_one w a t ks (Some m) h = rw (window_young w a t ks m h) (go (ltb t (m + w)))
  where
    go : (b : Bool) → length (when b then h.0 ∷ [] else []) ≤ 1
    go true = omega arith
    go false = omega arith

-- what a side finds: that touch, if it asked
pub window_found : (w a s t : ℕ) (ks : List Mark) (x : Window) → Held w a t ks x → those (is_found w s t) ks ≡ (when eqb a s then those (is_young w t) ks else [])
window_found w a s t ks None h = go (eqb a s)
  where
    go : (b : Bool) → those (is_found w s t) ks ≡ (when b then those (is_young w t) ks else [])
    go true = finds_none w s t ks h ∙ sym h
    go false = finds_none w s t ks h
window_found w a s t ks (Some m) h = rw h.2 (go (is_young w t h.0) refl)
  where
    none : those (is_found w s t) h.1 ≡ []
    none = finds_none w s t h.1 h.4

    same : (b : Bool) → (when b then h.0 ∷ those (is_found w s t) h.1 else those (is_found w s t) h.1) ≡ (when b then h.0 ∷ those (is_young w t) h.1 else [])
    same true = rw (none, h.4)
    same false = none

    go : (b : Bool) → is_young w t h.0 ≡ b
        → (when b && is_of s h.0 then h.0 ∷ those (is_found w s t) h.1 else those (is_found w s t) h.1) ≡ (when eqb a s then (when b then h.0 ∷ those (is_young w t) h.1 else those (is_young w t) h.1) else [])
    go true e = ap (λ (j : ℕ). when eqb j s then h.0 ∷ those (is_found w s t) h.1 else those (is_found w s t) h.1) (h.5 e) ∙ same (eqb a s)
    go false e = none ∙ old (eqb a s)
      where
        old : (b : Bool) → [] ≡ (when b then those (is_young w t) h.1 else [])
        old true = sym h.4
        old false = refl

-- and it was opened at the moment of that one, which is the asker's
pub window_of : (w a t : ℕ) (ks : List Mark) (x : Window) (k : Mark) → Held w a t ks x → those (is_young w t) ks ≡ k ∷ [] → (x ≡ Some k.moment) × (k.side ≡ a)
window_of w a t ks None k h e = let z : ◌≡◌ {A = ℕ} 0 1 = cc in absurd (omega arith)
window_of w a t ks (Some m) k h e = go (ltb t (m + w)) refl (sym (window_young w a t ks m h) ∙ e)
  where
    go : (b : Bool) → ltb t (m + w) ≡ b → (when b then h.0 ∷ [] else []) ≡ k ∷ [] → (Some m ≡ Some k.moment) × (k.side ≡ a)
    go true g f = let same : h.0 ≡ k = cc in (cc h.3, rw same at (h.5 (rw h.3 g)))
    go false g f = let z : ◌≡◌ {A = ℕ} 0 1 = cc in absurd (omega arith)

-- a call that spends leaves nothing young
pub left_old : (w a t : ℕ) (ks : List Mark) (x : Window) → is_live x w t ≡ true → Held w a t ks x → AllOld w t (those (λ k. not (is_found w a t k)) ks)
left_old w a t ks None e h = let z : ◌≡◌ {A = ℕ} 0 1 = cc in absurd (omega arith)
left_old w a t ks (Some m) e h =
    let young : is_young w t h.0 ≡ true = rw h.3 e in
    let own : is_found w a t h.0 ≡ true = rw (young, eq-eqb h.0.side a (h.5 young)) in
    rw (h.2, own) (picks_old w t (λ k. not (is_found w a t k)) h.1 h.4)

-- one event further
module _ (w : ℕ) (h : List Event) (e : Event) where
  abbrev T : ℕ
  T = e.call.moment

  abbrev A : ℕ
  A = asker_of w h

  module _ (i : Inv w h) (late : last_moment h ≤ T) where
    now : Held w A T (unspent w h) (held_of h)
    now = held_later w (last_moment h) T late (unspent w h) A (held_of h) i.held

    touches : Sorted w h e true true false false → is_live (prompt_of w h) 10000 T ≡ true → Inv w (e ∷ h)
    touches x is_live_lem = record {
      held = rw (last_next h w x, unspent_next h w x, held_next h w x, asker_next h w x)
          (touch_mark w e h, unspent w h, refl, refl, stay_old w (last_moment h) T late (unspent w h) (prompt_old w (last_moment h) T (unspent w h) (prompt_of w h) is_live_lem i.prompting), λ y. refl);
      prompting = rw (last_next h w x, unspent_next h w x, prompt_next h w x) tt;
      real = rw (asker_next h w x) i.real;
    }

    spends : Sorted w h e true false true false → is_live (held_of h) w T ≡ true → A ≡ side_of e.call.role → Inv w (e ∷ h)
    spends x is_live_lem own = record {
      held = rw (last_next h w x, unspent_next h w x, held_next h w x) gone;
      prompting = rw (last_next h w x, unspent_next h w x, prompt_next h w x) (any_window (prompt_of w h));
      real = rw (asker_next h w x) i.real;
    }
      where
        gone : AllOld w T (left h w x)
        gone = rw own at (left_old w A T (unspent w h) (held_of h) is_live_lem now)

        any_window : (y : Window) → Prompting w T (left h w x) y
        any_window None = tt
        any_window (Some s) = gone

    prompts : Sorted w h e true false false true → is_live (held_of h) w T ≡ false → is_bad_side (side_of e.call.role) ≡ false → Inv w (e ∷ h)
    prompts x not_live known = record {
      held = rw (last_next h w x, unspent_next h w x, held_next h w x, asker_next h w x) (held_dead w A (side_of e.call.role) T (unspent w h) (held_of h) not_live now);
      prompting = rw (last_next h w x, unspent_next h w x, prompt_next h w x) (none_old w A T (unspent w h) (held_of h) not_live now);
      real = rw (asker_next h w x) known;
    }

  pub keeps : Effect w h e → Inv w h → Inv w (e ∷ h)
  keeps (still x) i = record {
    held = rw (last_next h w x, unspent_next h w x, held_next h w x, asker_next h w x) i.held;
    prompting = rw (last_next h w x, unspent_next h w x, prompt_next h w x) i.prompting;
    real = rw (asker_next h w x) i.real;
  }
  keeps (moved x late) i = record {
    held = rw (last_next h w x, unspent_next h w x, held_next h w x, asker_next h w x) (now i late);
    prompting = rw (last_next h w x, unspent_next h w x, prompt_next h w x) (prompting_later w (last_moment h) T late (unspent w h) (prompt_of w h) i.prompting);
    real = rw (asker_next h w x) i.real;
  }
  keeps (touched x late is_live_lem) i = touches i late x is_live_lem
  keeps (spent x late is_live_lem own) i = spends i late x is_live_lem own
  keeps (prompted x late not_live known) i = prompts i late x not_live known

-- the same at a later moment
pub held_now : (w : ℕ) (h : List Event) (t : ℕ) → last_moment h ≤ t → Inv w h → Held w (asker_of w h) t (unspent w h) (held_of h)
held_now w h t late i = held_later w (last_moment h) t late (unspent w h) (asker_of w h) (held_of h) i.held

pub live_held : (w : ℕ) (h : List Event) (t : ℕ) → Inv w h → last_moment h ≤ t → is_live (held_of h) w t ≡ is_any (held_at w h t)
live_held w h t i late = live_any w (asker_of w h) t (unspent w h) (held_of h) (held_now w h t late i)

pub found_held : (w : ℕ) (h : List Event) (s t : ℕ) → Inv w h → last_moment h ≤ t → held_for w h s t ≡ (when eqb (asker_of w h) s then held_at w h t else [])
found_held w h s t i late = window_found w (asker_of w h) s t (unspent w h) (held_of h) (held_now w h t late i)

pub inv_at_first : {w : ℕ} → Inv w []
unfolding last_moment unspent latest_prompt held_of prompt_of
inv_at_first = record { held = refl; prompting = tt; real = refl }
