-- Laws for a crate above whose calls settle the moment first and then perhaps check: what each role does to the record, by
-- what settling gave. With them it shows `Keeps` of its own calls, and has demand 3 of their runs.
use Prim.Native.Nat.{ℕ}
use mathlib.Core.Path.{◌≡◌, refl}
use mathlib.Core.Bool.{true}
use Rattle.outcome.specs.Outcome.{R, Gives}
use Rattle.u2f_up_stated.specs.Words.{Presence}
use Rattle.u2f_up_stated.specs.Moments.{is_prompting, settle_of, granted_of, checked_of, gave, refused, touch_of, check_of, ask_of}
use Rattle.u2f_up_stated.specs.History.{Role, Touching, Checking, Asking, Settling, TooShort}
use Rattle.u2f_up_stated.specs.Runs.{done_by}

-- the side that a call of each role settles as
abbrev pub settled_as : Presence → Role → ℕ
settled_as p Touching = p.asker
settled_as p (Checking s) = s
settled_as p Asking = p.asker
settled_as p (Settling s) = s
settled_as p (TooShort s) = s

module _ (p : Presence) (t : ℕ) where
  -- a refused side or moment refuses a call of any role, and moves nothing
  pub done_refused : (n : ℕ) (k : Role) → settle_of p (settled_as p k) t ≡ R n → done_by k p t ≡ refused n p
  unfolding done_by touch_of check_of ask_of
  done_refused n Touching e = rw e
  done_refused n (Checking s) e = rw e
  done_refused n Asking e = rw e
  done_refused n (Settling s) e = rw e
  done_refused n (TooShort s) e = rw e

  module _ (q : Presence) where
    pub done_touching : settle_of p p.asker t ≡ Gives q → done_by Touching p t ≡ gave (granted_of q t)
    unfolding done_by touch_of
    done_touching e = rw e

    pub done_asking : settle_of p p.asker t ≡ Gives q → done_by Asking p t ≡ record { outcome = Gives (is_prompting p t); presence = p }
    unfolding done_by ask_of
    done_asking e = rw e

    module _ (s : ℕ) (e : settle_of p s t ≡ Gives q) where
      pub done_checking : done_by (Checking s) p t ≡ gave (checked_of q s t)
      unfolding done_by check_of
      done_checking = rw e

      pub done_settling : done_by (Settling s) p t ≡ record { outcome = Gives true; presence = q }
      unfolding done_by
      done_settling = rw e

      pub done_short : done_by (TooShort s) p t ≡ refused 2 p
      unfolding done_by
      done_short = rw e

  -- touch, direct check and ask, as the functions promise them
  pub done_touch : done_by Touching p t ≡ touch_of p t
  unfolding done_by
  done_touch = refl

  pub done_check : (s : ℕ) → done_by (Checking s) p t ≡ check_of p s t
  unfolding done_by
  done_check s = refl

  pub done_ask : done_by Asking p t ≡ ask_of p t
  unfolding done_by
  done_ask = refl
