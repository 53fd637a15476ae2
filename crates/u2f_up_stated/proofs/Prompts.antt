-- Document 01's words for a standing prompt, the latest of each sort of event and which of the two comes after, say the same
-- as the prompt window.
use Prim.Native.Nat.{ℕ, suc, ◌+◌, ◌<◌}
use mathlib.Core.Path.{◌≡◌, refl}
use mathlib.Core.Bool.{Bool, true, false}
use mathlib.Core.List.{List, [], ◌∷◌}
use mathlib.Core.Option.{Option, none, some}
use native.Mathlib.Omega.{arith}
use lib.Dec.{ltb}
use lib.ListN.{length}
use borrow.Author.Tests.{lt-ltb, le-ltb}
use Rattle.u2f_up_stated.specs.Moments.{is_live}
use Rattle.u2f_up_stated.specs.History.{Event, Mark, marked, side_of, latest_prompt, latest_touch, is_standing_by}
use Rattle.u2f_up_stated.proofs.Runs.{prompt_of, Sorted, Effect, still, moved, touched, spent, prompted, prompt_next, latest_next}
use Rattle.u2f_up_stated.proofs.Touches.{touch_next}

-- an event of the past has a number below the history's length
abbrev Below : ℕ → Option Mark → Type 0
Below n none = Unit {0}
Below n (some k) = k.number < n

below_more : (n : ℕ) (o : Option Mark) → Below n o → Below (suc n) o
below_more n none b = tt
below_more n (some k) b = omega arith

pub record Agrees (w : ℕ) (h : List Event) : Type 0 where
  pub prompt_below : Below (length h) (latest_prompt w h)
  pub accepted_below : Below (length h) (latest_touch w h)
  pub agrees : (t : ℕ) → is_live (prompt_of w h) 10000 t ≡ is_standing_by (latest_prompt w h) (latest_touch w h) t

pub agrees_at_first : (w : ℕ) → Agrees w []
unfolding latest_prompt latest_touch prompt_of
agrees_at_first w = record { prompt_below = tt; accepted_below = tt; agrees = λ t. refl }

-- a prompt that was there before an accepted touch does not come after it
passed_by : (k : Mark) (t : ℕ) (o : Option Mark) → Below k.number o → false ≡ is_standing_by o (some k) t
passed_by k t none b = refl
passed_by k t (some s) b = rw (le-ltb k.number s.number (omega arith))

-- a prompting refusal comes after every touch before it
comes_after : (s : Mark) (t : ℕ) (o : Option Mark) → Below s.number o → ltb t (s.moment + 10000) ≡ is_standing_by (some s) o t
comes_after s t none b = refl
comes_after s t (some a) b = rw (lt-ltb a.number s.number b)

module _ (w : ℕ) (h : List Event) (e : Event) (g : Agrees w h) where
  passes : {m s : Bool} → Sorted w h e m false s false → Agrees w (e ∷ h)
  passes x =
      let p = latest_next h w x in
      let a = touch_next h w x in
      record {
        prompt_below = rw p (below_more (length h) (latest_prompt w h) g.prompt_below);
        accepted_below = rw a (below_more (length h) (latest_touch w h) g.accepted_below);
        agrees = λ t. rw (p, a, prompt_next h w x) (g.agrees t);
      }

  accepts : Sorted w h e true true false false → Agrees w (e ∷ h)
  accepts x =
      let p = latest_next h w x in
      let a = touch_next h w x in
      record {
        prompt_below = rw p (below_more (length h) (latest_prompt w h) g.prompt_below);
        accepted_below = rw a (omega arith);
        agrees = λ t. rw (p, a, prompt_next h w x) (passed_by _ t (latest_prompt w h) g.prompt_below);
      }

  prompts : Sorted w h e true false false true → Agrees w (e ∷ h)
  prompts x =
      let p = latest_next h w x in
      let a = touch_next h w x in
      record {
        prompt_below = rw p (omega arith);
        accepted_below = rw a (below_more (length h) (latest_touch w h) g.accepted_below);
        agrees = λ t. rw (p, a, prompt_next h w x) (comes_after (marked (side_of e.call.role) e h) t (latest_touch w h) g.accepted_below);
      }

  pub agrees_next : Effect w h e → Agrees w (e ∷ h)
  agrees_next (still x) = passes x
  agrees_next (moved x late) = passes x
  agrees_next (touched x late is_live_lem) = accepts x
  agrees_next (spent x late is_live_lem own) = passes x
  agrees_next (prompted x late not_live known) = prompts x
