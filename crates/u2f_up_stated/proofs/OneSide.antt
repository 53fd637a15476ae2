-- From a fresh record, with one side throughout, a run is the base's. While nobody has asked both windows are closed; from the first
-- prompting refusal on, the asker is that side, and so every touch is its own.
use Prim.Native.Nat.{ℕ, ◌≤◌}
use mathlib.Core.Path.{◌≡◌, refl, sym, ap, ◌∙◌}
use mathlib.Core.Bool.{Bool, true, false, false≢true}
use mathlib.Core.List.{List, [], ◌∷◌}
use mathlib.Core.Logic.{◌⊎◌, inl, inr, ⊎_elim}
use native.Mathlib.Omega.{arith}
use borrow.Author.Tests.{le-ltb, eq-eqb}
use Rattle.outcome.specs.Outcome.{StatusWord, Outcome, R, Word, Gives}
use Rattle.outcome.proofs.Laws.{r_word, r_gives, word_gives}
use Rattle.u2f_up_stated.specs.Words.{Presence, None}
use Rattle.u2f_up_stated.specs.Moments.{Told, is_live, is_r6, is_r8, is_r1, moved_to, settle_of, granted_of, checked_of, gave, refused}
use Rattle.u2f_up_stated.specs.History.{Role, Touching, Checking, Asking, Settling, TooShort}
use Rattle.u2f_up_stated.specs.Runs.{Caller, Keeps, after, done_by}
use Rattle.u2f_up_stated.specs.OneSide.{base_settle_of, base_checked_of, base_by, KeepsToBase, sideless, NamesOnly, OnlySide}
use Rattle.u2f_up_stated.specs.Claims.{OneSideIsBase}
use Rattle.u2f_up_stated.proofs.Cases.{settle_r6, settle_r1, settled}
use Rattle.u2f_up_stated.proofs.Roles.{settled_as, done_refused, done_touching, done_checking, done_asking, done_settling, done_short}

-- the asker is this side, or nobody has asked yet
abbrev pub Mine : ℕ → Presence → Type 0
Mine s p = (p.asker ≡ s) ⊎ ((p.asker ≡ 0) × (p.prompt ≡ None) × (p.touch ≡ None))

-- ---- what the base's calls give, by what its settling gave
module _ (p : Presence) (t : ℕ) where
  pub base_refused : (n : ℕ) → base_settle_of p t ≡ R n → (k : Role) → base_by k p t ≡ refused n p
  unfolding base_by
  base_refused n e Touching = rw e
  base_refused n e (Checking s) = rw e
  base_refused n e Asking = rw e
  base_refused n e (Settling s) = rw e
  base_refused n e (TooShort s) = rw e

  base_r6 : is_r6 p.w ≡ true → base_settle_of p t ≡ R 6
  unfolding base_settle_of
  base_r6 e = rw e

  base_r1 : is_r6 p.w ≡ false → is_r1 p.last t ≡ true → base_settle_of p t ≡ R 1
  unfolding base_settle_of
  base_r1 e f = rw (e, f)

  base_moves : is_r6 p.w ≡ false → is_r1 p.last t ≡ false → base_settle_of p t ≡ Gives (moved_to p t)
  unfolding base_settle_of
  base_moves e f = rw (e, f)

  -- its settling gives no status word
  pub base_no_status : (w : StatusWord) → base_settle_of p t ≡ Word w → ⊥
  base_no_status w e = go (is_r6 p.w) refl (is_r1 p.last t) refl
    where
      go : (c : Bool) → is_r6 p.w ≡ c → (d : Bool) → is_r1 p.last t ≡ d → ⊥
      go true x d y = r_word _ _ (sym (base_r6 x) ∙ e)
      go false x true y = r_word _ _ (sym (base_r1 x y) ∙ e)
      go false x false y = word_gives _ _ (sym e ∙ base_moves x y)

module _ (s : ℕ) (one : s ≤ 1) (p : Presence) (mine : Mine s p) (t : ℕ) where
  -- the record of the base
  abbrev b : Presence
  b = sideless p

  -- a call does the same to both, but for the asker
  pub record Same (o u : Told) : Type 0 where
    pub outcome : o.outcome ≡ u.outcome
    pub presence : sideless o.presence ≡ u.presence
    pub still_mine : Mine s o.presence

  asker_small : p.asker ≤ 1
  asker_small = ⊎_elim (λ e. omega arith) (λ e. omega (arith, e.0)) mine

  named : (k : Role) → NamesOnly s k → settled_as p k ≤ 1
  named Touching n = asker_small
  named (Checking r) n = omega (arith, n)
  named Asking n = asker_small
  named (Settling r) n = omega (arith, n)
  named (TooShort r) n = omega (arith, n)

  no_r8 : (r : ℕ) → r ≤ 1 → is_r8 r p.asker ≡ false
  no_r8 r m = rw (le-ltb 1 r m, le-ltb 1 p.asker asker_small)

  refuses : (n : ℕ) → Same (refused n p) (refused n b)
  refuses n = record { outcome = refl; presence = refl; still_mine = mine }

  touches : (live : Bool) → is_live p.prompt 10000 t ≡ live → Same (gave (granted_of (moved_to p t) t)) (gave (granted_of (moved_to b t) t))
  unfolding granted_of
  touches true e = rw e (record { outcome = refl; presence = refl; still_mine = ⊎_elim (λ m. inl m) (λ m. absurd (false≢true (ap (λ x. is_live x 10000 t) (sym m.1) ∙ e))) mine })
  touches false e = rw e (record { outcome = refl; presence = refl; still_mine = mine })

  own : is_live p.touch p.w t ≡ true → p.asker ≡ s
  own e = ⊎_elim (λ m. m) (λ m. absurd (false≢true (ap (λ x. is_live x p.w t) (sym m.2) ∙ e))) mine

  -- both settle alike, as whichever side
  pub data SettledSame (r : ℕ) : Type 0 where
    refusing : (n : ℕ) → settle_of p r t ≡ R n → base_settle_of b t ≡ R n → SettledSame r
    moving : settle_of p r t ≡ Gives (moved_to p t) → base_settle_of b t ≡ Gives (moved_to b t) → SettledSame r

  pub settled_same : (r : ℕ) → r ≤ 1 → SettledSame r
  settled_same r m = go (is_r6 p.w) refl (is_r1 p.last t) refl
    where
      none : is_r8 r p.asker ≡ false
      none = no_r8 r m

      go : (c : Bool) → is_r6 p.w ≡ c → (d : Bool) → is_r1 p.last t ≡ d → SettledSame r
      go true e d f = refusing 6 (sym (settle_r6 p r t (is_r6 p.w) refl e)) (base_r6 b t e)
      go false e true f = refusing 1 (sym (settle_r1 p r t (is_r6 p.w) (is_r8 r p.asker) (is_r1 p.last t) refl e refl none refl f)) (base_r1 b t e f)
      go false e false f = moving (sym (settled p r t (is_r6 p.w) (is_r8 r p.asker) (is_r1 p.last t) refl e refl none refl f)) (base_moves b t e f)

  -- and the touch check then finds the same
  checks : (live : Bool) → is_live p.touch p.w t ≡ live → Same (gave (checked_of (moved_to p t) s t)) (gave (base_checked_of (moved_to b t) t))
  unfolding checked_of base_checked_of
  checks true e = rw (e, eq-eqb p.asker s (own e)) (record { outcome = refl; presence = refl; still_mine = inl (own e) })
  checks false e = rw e (record { outcome = refl; presence = refl; still_mine = inl refl })

  pub checked_same : ((checked_of (moved_to p t) s t).yes ≡ (base_checked_of (moved_to b t) t).yes) × (sideless (checked_of (moved_to p t) s t).presence ≡ (base_checked_of (moved_to b t) t).presence)
  checked_same = let x = checks (is_live p.touch p.w t) refl in (given x.outcome, x.presence)
    where
      given : {a c : Bool} → ◌≡◌ {A = Outcome Bool} (Gives a) (Gives c) → a ≡ c
      given e = cc

  does : settle_of p s t ≡ Gives (moved_to p t) → settle_of p p.asker t ≡ Gives (moved_to p t) → base_settle_of b t ≡ Gives (moved_to b t) → (k : Role) → NamesOnly s k → Same (done_by k p t) (base_by k b t)
  unfolding base_by
  does e own_e f Touching n = rw (done_touching p t (moved_to p t) own_e, f) (touches (is_live p.prompt 10000 t) refl)
  does e own_e f (Checking r) n = rw (n, done_checking p t (moved_to p t) s e, f) (checks (is_live p.touch p.w t) refl)
  does e own_e f Asking n = rw (done_asking p t (moved_to p t) own_e, f) (record { outcome = refl; presence = refl; still_mine = mine })
  does e own_e f (Settling r) n = rw (n, done_settling p t (moved_to p t) s e, f) (record { outcome = refl; presence = refl; still_mine = mine })
  does e own_e f (TooShort r) n = rw (n, done_short p t (moved_to p t) s e, f) (refuses 2)

  pub same : (k : Role) → NamesOnly s k → Same (done_by k p t) (base_by k b t)
  same k n = go (settled_same (settled_as p k) (named k n)) (settled_same s one) (settled_same p.asker asker_small)
    where
      apart : {m : ℕ} {q : Presence} → base_settle_of b t ≡ R m → base_settle_of b t ≡ Gives q → ⊥
      apart e f = r_gives _ _ (sym e ∙ f)

      go : SettledSame (settled_as p k) → SettledSame s → SettledSame p.asker → Same (done_by k p t) (base_by k b t)
      go (refusing m e f) x y = rw (done_refused p t m k e, base_refused b t m f k) (refuses m)
      go (moving e f) (refusing m g h) y = absurd (apart h f)
      go (moving e f) (moving g h) (refusing m i j) = absurd (apart j f)
      go (moving e f) (moving g h) (moving i j) = does g i f k n

-- ---- runs
module _ {D : Type 0} (𝒞 ℬ : Caller D) (keeping : Keeps 𝒞) (based : KeepsToBase ℬ) (alike : (d : D) → 𝒞.as_call d ≡ ℬ.as_call d) (w s : ℕ) (one : s ≤ 1) where
  step : (p q : Presence) → Mine s p → sideless p ≡ q → (d : D) → NamesOnly s (𝒞.as_call d).role
      → (sideless (𝒞.does p d).presence ≡ (ℬ.does q d).presence) × Mine s (𝒞.does p d).presence × ((𝒞.does p d).outcome ≡ (ℬ.does q d).outcome)
  step p q mine e d n =
      let x = same s one p mine (𝒞.as_call d).moment (𝒞.as_call d).role n in
      rw (keeping p d, based q d, ← e, ← alike d) (x.presence, x.still_mine, x.outcome)

  pub run : (ds : List D) → OnlySide 𝒞 s ds → (sideless (after 𝒞 w ds) ≡ after ℬ w ds) × Mine s (after 𝒞 w ds)
  unfolding after
  run [] only = (refl, inr (refl, refl, refl))
  run (d ∷ ds) only = let r = run ds only.1 in let x = step (after 𝒞 w ds) (after ℬ w ds) r.1 r.0 d only.0 in (x.0, x.1)

pub one_side : {D : Type 0} (𝒞 ℬ : Caller D) → Keeps 𝒞 → KeepsToBase ℬ → ((d : D) → 𝒞.as_call d ≡ ℬ.as_call d) → OneSideIsBase 𝒞 ℬ
one_side 𝒞 ℬ keeping based alike w least most s one ds only =
    let r = run 𝒞 ℬ keeping based alike w s one ds only in
    (r.0, λ d n. (step 𝒞 ℬ keeping based alike w s one (after 𝒞 w ds) (after ℬ w ds) r.1 r.0 d n).2)
