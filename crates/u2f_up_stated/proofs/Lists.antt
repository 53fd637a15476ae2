-- Laws on touches in a list: counting, what a test picks and what it leaves, and that what is old stays old.
use Prim.Native.Nat.{ℕ, ◌+◌, ◌≤◌}
use mathlib.Core.Path.{◌≡◌, refl}
use mathlib.Core.Bool.{Bool, true, false, not, ◌&&◌}
use mathlib.Core.List.{List, [], ◌∷◌, ◌++◌}
use native.Mathlib.Omega.{arith}
use lib.ListN.{length}
use borrow.Author.Tests.{ltb-true, ltb-false, lt-ltb}
use Rattle.outcome.specs.Notation.{when◌then◌else◌}
use Rattle.u2f_up_stated.specs.History.{Mark, those, is_young, is_of, is_found}

abbrev pub one : Bool → ℕ
one true = 1
one false = 0

module _ {A : Type 0} where
  abbrev pub count : (A → Bool) → List A → ℕ
  count picks [] = 0
  count picks (k ∷ ks) = one (picks k) + count picks ks

  pub count_next : (picks : A → Bool) (k : A) (ks : List A) (b : Bool) → picks k ≡ b → count picks (k ∷ ks) ≡ one b + count picks ks
  count_next picks k ks b q = rw q

  pub length_those : (picks : A → Bool) (ks : List A) → length (those picks ks) ≡ count picks ks
  length_those picks [] = refl
  length_those picks (k ∷ ks) = go (picks k) (length_those picks ks)
    where
      go : (b : Bool) → length (those picks ks) ≡ count picks ks → length (when b then k ∷ those picks ks else those picks ks) ≡ one b + count picks ks
      go true h = omega arith
      go false h = omega arith

  pub count_all : (ks : List A) → count (λ _. true) ks ≡ length ks
  count_all [] = refl
  count_all (k ∷ ks) = omega (arith, count_all ks)

  pub count_append : (picks : A → Bool) (js ks : List A) → count picks (js ++ ks) ≡ count picks js + count picks ks
  count_append picks [] ks = omega arith
  count_append picks (j ∷ js) ks = omega (arith, count_append picks js ks)

  -- what a test picks and what it leaves is the whole
  pub count_split : (picks also : A → Bool) (ks : List A) → count also ks ≡ count also (those picks ks) + count also (those (λ k. not (picks k)) ks)
  count_split picks also [] = refl
  count_split picks also (k ∷ ks) = go (picks k) (count_split picks also ks)
    where
      go : (b : Bool) → count also ks ≡ count also (those picks ks) + count also (those (λ k. not (picks k)) ks)
          → one (also k) + count also ks ≡ count also (when b then k ∷ those picks ks else those picks ks) + count also (when not b then k ∷ those (λ k. not (picks k)) ks else those (λ k. not (picks k)) ks)
      go true h = omega arith
      go false h = omega arith

-- none of the touches is young any more
abbrev pub AllOld : ℕ → ℕ → List Mark → Type 0
AllOld w t ks = those (is_young w t) ks ≡ []

-- what is old stays old
pub stay_old : (w t u : ℕ) → t ≤ u → (ks : List Mark) → AllOld w t ks → AllOld w u ks
stay_old w t u later [] h = refl
stay_old w t u later (k ∷ ks) h = go (is_young w t k) refl h (is_young w u k) refl (stay_old w t u later ks)
  where
    go : (b : Bool) → is_young w t k ≡ b → (when b then k ∷ those (is_young w t) ks else those (is_young w t) ks) ≡ []
        → (c : Bool) → is_young w u k ≡ c → (AllOld w t ks → AllOld w u ks) → (when c then k ∷ those (is_young w u) ks else those (is_young w u) ks) ≡ []
    go true e h c f ih = let z : ◌≡◌ {A = ℕ} 0 1 = cc in absurd (omega arith)
    go false e h true f ih = absurd (omega (arith, ltb-false t (k.moment + w) e, ltb-true u (k.moment + w) f))
    go false e h false f ih = ih h

-- of what is old, what a test picks is old
pub picks_old : (w t : ℕ) (picks : Mark → Bool) (ks : List Mark) → AllOld w t ks → AllOld w t (those picks ks)
picks_old w t picks [] h = refl
picks_old w t picks (k ∷ ks) h = go (is_young w t k) refl h (picks k) (picks_old w t picks ks)
  where
    go : (b : Bool) → is_young w t k ≡ b → (when b then k ∷ those (is_young w t) ks else those (is_young w t) ks) ≡ [] → (c : Bool)
        → (AllOld w t ks → AllOld w t (those picks ks)) → those (is_young w t) (when c then k ∷ those picks ks else those picks ks) ≡ []
    go true e h c ih = let z : ◌≡◌ {A = ℕ} 0 1 = cc in absurd (omega arith)
    go false e h true ih = rw e (ih h)
    go false e h false ih = ih h

-- and of what is old no side finds anything
pub finds_none : (w s t : ℕ) (ks : List Mark) → AllOld w t ks → those (is_found w s t) ks ≡ []
finds_none w s t [] h = refl
finds_none w s t (k ∷ ks) h = go (is_young w t k) refl h (finds_none w s t ks)
  where
    go : (b : Bool) → is_young w t k ≡ b → (when b then k ∷ those (is_young w t) ks else those (is_young w t) ks) ≡ []
        → (AllOld w t ks → those (is_found w s t) ks ≡ []) → (when b && is_of s k then k ∷ those (is_found w s t) ks else those (is_found w s t) ks) ≡ []
    go true e h ih = let z : ◌≡◌ {A = ℕ} 0 1 = cc in absurd (omega arith)
    go false e h ih = ih h

-- a touch that is young was young before
pub young_before : (w t u : ℕ) → t ≤ u → (k : Mark) → is_young w u k ≡ true → is_young w t k ≡ true
young_before w t u later k e = lt-ltb t (k.moment + w) (omega (arith, ltb-true u (k.moment + w) e))
