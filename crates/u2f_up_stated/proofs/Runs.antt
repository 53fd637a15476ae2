-- A run's record is what its history says: each field is read off the events. From this, case by case, what a call does.
use Prim.Native.Nat.{ℕ, ◌^◌, ◌≤◌}
use mathlib.Core.Path.{◌≡◌, refl, sym, ap, ◌∙◌}
use mathlib.Core.Bool.{Bool, true, false, not, ◌||◌, true≢false}
use mathlib.Core.List.{List, [], ◌∷◌}
use mathlib.Core.Option.{Option, some}
use lib.Dec.{ltb, leb, eqb}
use borrow.Author.Tests.{ltb-false, eqb-true}
use Rattle.outcome.specs.Notation.{when◌then◌else◌}
use Rattle.outcome.specs.Outcome.{Outcome, R, Gives}
use Rattle.u2f_up_stated.specs.Words.{Presence, Window, None, Some}
use Rattle.u2f_up_stated.specs.Moments.{Told, is_live, is_r6, is_bad_side, is_r8, is_r1, moved_to, settle_of, granted_of, checked_of, gave, refused}
use Rattle.u2f_up_stated.specs.History.{Role, Touching, Checking, Asking, Settling, TooShort, Event, Mark, marked, side_of, is_accepted, is_spending, is_prompting_by, is_moving, is_any, held_at, last_moment, latest_prompt, side_asked, asker_of}
use Rattle.u2f_up_stated.specs.Runs.{done_by, came_of}
use Rattle.u2f_up_stated.proofs.Cases.{settle_r8, settle_r1, settled}
use Rattle.u2f_up_stated.proofs.Roles.{settled_as, done_refused, done_touching, done_checking, done_asking, done_settling, done_short}

-- whether an event with its past is a prompting refusal
abbrev pub is_prompting_refusal : ℕ → Event → List Event → Bool
is_prompting_refusal w e past = is_prompting_by e (held_at w past e.call.moment)

unfoldable pub prompt_of : ℕ → List Event → Window
prompt_of w [] = None
prompt_of w (e ∷ past) =
    when is_accepted e then None
    else when is_prompting_refusal w e past then Some e.call.moment
    else prompt_of w past

unfoldable pub held_of : List Event → Window
held_of [] = None
held_of (e ∷ past) =
    when is_accepted e then Some e.call.moment
    else when is_spending e then None
    else held_of past

abbrev pub record_of : ℕ → List Event → Presence
record_of w h = record { w = w; prompt = prompt_of w h; touch = held_of h; last = last_moment h; asker = asker_of w h }

-- what sort of event it is, after its past
pub record Sorted (w : ℕ) (h : List Event) (e : Event) (moving accepted spending prompting : Bool) : Type 0 where
  pub moves : is_moving e ≡ moving
  pub accepts : is_accepted e ≡ accepted
  pub spends : is_spending e ≡ spending
  pub prompts : is_prompting_refusal w e h ≡ prompting

-- the five things that can come of a call
pub data Effect (w : ℕ) (h : List Event) (e : Event) : Type 0 where
  still : Sorted w h e false false false false → Effect w h e
  moved : Sorted w h e true false false false → last_moment h ≤ e.call.moment → Effect w h e
  touched : Sorted w h e true true false false → last_moment h ≤ e.call.moment → is_live (prompt_of w h) 10000 e.call.moment ≡ true → Effect w h e
  spent : Sorted w h e true false true false → last_moment h ≤ e.call.moment → is_live (held_of h) w e.call.moment ≡ true → asker_of w h ≡ side_of e.call.role → Effect w h e
  prompted : Sorted w h e true false false true → last_moment h ≤ e.call.moment → is_live (held_of h) w e.call.moment ≡ false → is_bad_side (side_of e.call.role) ≡ false → Effect w h e

-- each notion that the record has, one event further
module _ {e : Event} {m a s p : Bool} (h : List Event) (w : ℕ) (x : Sorted w h e m a s p) where
  pub last_next : last_moment (e ∷ h) ≡ (when m then e.call.moment else last_moment h)
  unfolding last_moment
  last_next = rw x.moves

  pub prompt_next : prompt_of w (e ∷ h) ≡ (when a then None else when p then Some e.call.moment else prompt_of w h)
  unfolding prompt_of
  prompt_next = rw (x.accepts, x.prompts)

  pub held_next : held_of (e ∷ h) ≡ (when a then Some e.call.moment else when s then None else held_of h)
  unfolding held_of
  held_next = rw (x.accepts, x.spends)

  pub latest_next : latest_prompt w (e ∷ h) ≡ (when p then some (marked (side_of e.call.role) e h) else latest_prompt w h)
  unfolding latest_prompt
  latest_next = rw x.prompts

  asked : (b : Bool) (n : Mark) (o : Option Mark) → side_asked (when b then some n else o) ≡ (when b then n.side else side_asked o)
  asked true n o = refl
  asked false n o = refl

  pub asker_next : asker_of w (e ∷ h) ≡ (when p then side_of e.call.role else asker_of w h)
  asker_next = ap side_asked latest_next ∙ asked p (marked (side_of e.call.role) e h) (latest_prompt w h)

  abbrev next_record : Presence
  next_record = record {
    w = w;
    prompt = when a then None else when p then Some e.call.moment else prompt_of w h;
    touch = when a then Some e.call.moment else when s then None else held_of h;
    last = when m then e.call.moment else last_moment h;
    asker = when p then side_of e.call.role else asker_of w h;
  }

  pub record_next : next_record ≡ record_of w (e ∷ h)
  record_next = rw (last_next, prompt_next, held_next, asker_next)

-- a moment that passes R1 is not before the last one
pub not_before : (last t : ℕ) → is_r1 last t ≡ false → last ≤ t
not_before last t e = ltb-false t last (right (leb (2 ^ 48) t) (ltb t last) e)
  where
    right : (a b : Bool) → a || b ≡ false → b ≡ false
    right true b e = absurd (true≢false e)
    right false b e = e

module _ (w : ℕ) (h : List Event) (t : ℕ) where
  abbrev at : Role → Outcome Bool → Event
  at k o = record { call = record { role = k; moment = t }; came = came_of k o }

  abbrev p : Presence
  p = record_of w h

  -- the record moves as the history does
  pub record Follows (k : Role) (s : Told) : Type 0 where
    pub effect : Effect w h (at k s.outcome)
    pub exact : s.presence ≡ record_of w (at k s.outcome ∷ h)

  -- an event whose sort is plain from its outcome
  abbrev Plain : Role → Outcome Bool → (m a s : Bool) → Type 0
  Plain k o m a s = Sorted w h (at k o) m a s false

  stays_refused : (k : Role) (n : ℕ) → Follows k (refused n p)
  stays_refused k n =
      let x : Plain k (R n) false false false = record { moves = refl; accepts = refl; spends = refl; prompts = refl } in
      record { effect = still x; exact = record_next h w x }

  module _ (passed : last_moment h ≤ t) where
    touching : (b : Bool) → is_live (prompt_of w h) 10000 t ≡ b → Follows Touching (gave (granted_of (moved_to p t) t))
    unfolding granted_of
    touching true e = rw e
        (let x : Plain Touching (Gives true) true true false = record { moves = refl; accepts = refl; spends = refl; prompts = refl } in
        record { effect = touched x passed e; exact = record_next h w x })
    touching false e = rw e
        (let x : Plain Touching (Gives false) true false false = record { moves = refl; accepts = refl; spends = refl; prompts = refl } in
        record { effect = moved x passed; exact = record_next h w x })

    asking : (b : Bool) → Follows Asking (record { outcome = Gives b; presence = p })
    asking true =
        let x : Plain Asking (Gives true) false false false = record { moves = refl; accepts = refl; spends = refl; prompts = refl } in
        record { effect = still x; exact = record_next h w x }
    asking false =
        let x : Plain Asking (Gives false) false false false = record { moves = refl; accepts = refl; spends = refl; prompts = refl } in
        record { effect = still x; exact = record_next h w x }

    settling : (s : ℕ) → Follows (Settling s) (record { outcome = Gives true; presence = moved_to p t })
    settling s =
        let x : Plain (Settling s) (Gives true) true false false = record { moves = refl; accepts = refl; spends = refl; prompts = refl } in
        record { effect = moved x passed; exact = record_next h w x }

    -- the touch window is live exactly when the history holds a touch
    module _ (agree : is_live (held_of h) w t ≡ is_any (held_at w h t)) (s : ℕ) (real : is_bad_side s ≡ false) where
      checking : (b c : Bool) → is_live (held_of h) w t ≡ b → eqb (asker_of w h) s ≡ c → Follows (Checking s) (gave (checked_of (moved_to p t) s t))
      unfolding checked_of
      checking false c e f = rw e
          (let x : Sorted w h (at (Checking s) (Gives false)) true false false true = record { moves = refl; accepts = refl; spends = refl; prompts = ap not (sym agree ∙ e) } in
          record { effect = prompted x passed e real; exact = record_next h w x })
      checking true false e f = rw (e, f)
          (let x : Plain (Checking s) (Gives false) true false false = record { moves = refl; accepts = refl; spends = refl; prompts = ap not (sym agree ∙ e) } in
          record { effect = moved x passed; exact = record_next h w x })
      checking true true e f = rw (e, f)
          (let x : Plain (Checking s) (Gives true) true false true = record { moves = refl; accepts = refl; spends = refl; prompts = refl } in
          record { effect = spent x passed e (eqb-true (asker_of w h) s f); exact = record_next h w x })

  module _ (within : is_r6 w ≡ false) (own : is_bad_side (asker_of w h) ≡ false) where
    -- of the two sides that R8 looks at, the record's is one of the two
    pub r8_is : (s : ℕ) (b : Bool) → is_bad_side s ≡ b → is_r8 s (asker_of w h) ≡ b
    r8_is s true e = rw e
    r8_is s false e = rw (e, own)

    pub settles_r8 : (s : ℕ) → is_bad_side s ≡ true → settle_of p s t ≡ R 8
    settles_r8 s n = sym (settle_r8 p s t (is_r6 w) (is_r8 s (asker_of w h)) refl within refl (r8_is s true n))

    pub settles_r1 : (s : ℕ) → is_bad_side s ≡ false → is_r1 (last_moment h) t ≡ true → settle_of p s t ≡ R 1
    settles_r1 s n e = sym (settle_r1 p s t (is_r6 w) (is_r8 s (asker_of w h)) (is_r1 (last_moment h) t) refl within refl (r8_is s false n) refl e)

    pub settles : (s : ℕ) → is_bad_side s ≡ false → is_r1 (last_moment h) t ≡ false → settle_of p s t ≡ Gives (moved_to p t)
    settles s n e = sym (settled p s t (is_r6 w) (is_r8 s (asker_of w h)) (is_r1 (last_moment h) t) refl within refl (r8_is s false n) refl e)

    -- a call that names a side settles as that side, any other as the record's own, which is one of the two
    pub real_as : (k : Role) → is_bad_side (side_of k) ≡ false → is_bad_side (settled_as p k) ≡ false
    real_as Touching n = own
    real_as (Checking s) n = n
    real_as Asking n = own
    real_as (Settling s) n = n
    real_as (TooShort s) n = n

    pub settles_as_r8 : (k : Role) → is_bad_side (side_of k) ≡ true → settle_of p (settled_as p k) t ≡ R 8
    settles_as_r8 Touching n = absurd (true≢false (sym n))
    settles_as_r8 (Checking s) n = settles_r8 s n
    settles_as_r8 Asking n = absurd (true≢false (sym n))
    settles_as_r8 (Settling s) n = settles_r8 s n
    settles_as_r8 (TooShort s) n = settles_r8 s n

    module _ (agree : last_moment h ≤ t → is_live (held_of h) w t ≡ is_any (held_at w h t)) where
      follows_settled : is_r1 (last_moment h) t ≡ false → last_moment h ≤ t → (k : Role) → is_bad_side (side_of k) ≡ false → Follows k (done_by k p t)
      follows_settled e late Touching n = rw (done_touching p t (moved_to p t) (settles (asker_of w h) own e)) (touching late (is_live (prompt_of w h) 10000 t) refl)
      follows_settled e late (Checking s) n = rw (done_checking p t (moved_to p t) s (settles s n e)) (checking late (agree late) s n (is_live (held_of h) w t) (eqb (asker_of w h) s) refl refl)
      follows_settled e late Asking n = rw (done_asking p t (moved_to p t) (settles (asker_of w h) own e)) (asking late (is_live (prompt_of w h) 10000 t))
      follows_settled e late (Settling s) n = rw (done_settling p t (moved_to p t) s (settles s n e)) (settling late s)
      follows_settled e late (TooShort s) n = rw (done_short p t (moved_to p t) s (settles s n e)) (stays_refused (TooShort s) 2)

      pub follows : (k : Role) → Follows k (done_by k p t)
      follows k = go (is_bad_side (side_of k)) refl (is_r1 (last_moment h) t) refl
        where
          go : (c : Bool) → is_bad_side (side_of k) ≡ c → (b : Bool) → is_r1 (last_moment h) t ≡ b → Follows k (done_by k p t)
          go true n b e = rw (done_refused p t 8 k (settles_as_r8 k n)) (stays_refused k 8)
          go false n true e = rw (done_refused p t 1 k (settles_r1 (settled_as p k) (real_as k n) e)) (stays_refused k 1)
          go false n false e = follows_settled e (not_before (last_moment h) t e) k n
