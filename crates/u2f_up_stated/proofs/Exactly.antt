-- 'Exactly when': what a foretold outcome says of the history, both ways.
use Prim.Native.Nat.{ℕ, ◌+◌, ◌^◌, ◌<◌, ◌≤◌}
use mathlib.Core.Path.{◌≡◌, refl, sym, ap, ◌∙◌}
use mathlib.Core.Bool.{Bool, true, false, ◌&&◌, ◌||◌, or-true, true≢false, false≢true}
use mathlib.Core.List.{List, [], ◌∷◌}
use mathlib.Core.Logic.{◌↔◌, inl, inr, ⊎_elim}
use mathlib.Core.Option.{Option, none, some}
use native.Mathlib.Omega.{arith}
use lib.Dec.{ltb, leb}
use lib.ListN.{length}
use borrow.Author.Tests.{ltb-true, leb-true, lt-ltb}
use Rattle.outcome.specs.Notation.{when◌then◌else◌}
use Rattle.u2f_up_stated.specs.Moments.{is_bad_side, is_r1}
use Rattle.u2f_up_stated.specs.History.{Role, Touching, Checking, Asking, Settling, TooShort, Came, RefusedBy, TouchAccepted, TouchIgnored, TouchFound, NoTouchFound, PromptStands, NoPromptStands, Event, Mark, side_of, is_any, held_for, last_moment, is_prompt_standing, latest_prompt, latest_touch, is_after, is_standing_by, unrefused, foretold}
use Rattle.u2f_up_stated.specs.Terms.{RefusedAt, NamesBadSide}
use Rattle.u2f_up_stated.proofs.Cases.{r1_beyond}

both : (a b : Bool) → a && b ≡ true → (a ≡ true) × (b ≡ true)
both true b e = (refl, e)
both false b e = absurd (false≢true e)

-- two cases, neither of them a refusal
module _ (y n : Came) (refusal_y : (m : ℕ) → RefusedBy m ≡ y → ⊥) (refusal_n : (m : ℕ) → RefusedBy m ≡ n → ⊥) (apart : n ≡ y → ⊥) where
  pub no_refusal : (m : ℕ) (b : Bool) → (when b then y else n) ≡ RefusedBy m → ⊥
  no_refusal m true e = refusal_y m (sym e)
  no_refusal m false e = refusal_n m (sym e)

  pub is_yes : (b : Bool) → (when b then y else n) ≡ y → b ≡ true
  is_yes true e = refl
  is_yes false e = absurd (apart e)

accepted_refusal : (m : ℕ) → RefusedBy m ≡ TouchAccepted → ⊥
accepted_refusal m e = let z : ◌≡◌ {A = ℕ} 0 1 = cc in omega arith

ignored_refusal : (m : ℕ) → RefusedBy m ≡ TouchIgnored → ⊥
ignored_refusal m e = let z : ◌≡◌ {A = ℕ} 0 1 = cc in omega arith

ignored_accepted : TouchIgnored ≡ TouchAccepted → ⊥
ignored_accepted e = let z : ◌≡◌ {A = ℕ} 0 1 = cc in omega arith

found_refusal : (m : ℕ) → RefusedBy m ≡ TouchFound → ⊥
found_refusal m e = let z : ◌≡◌ {A = ℕ} 0 1 = cc in omega arith

not_found_refusal : (m : ℕ) → RefusedBy m ≡ NoTouchFound → ⊥
not_found_refusal m e = let z : ◌≡◌ {A = ℕ} 0 1 = cc in omega arith

not_found_found : NoTouchFound ≡ TouchFound → ⊥
not_found_found e = let z : ◌≡◌ {A = ℕ} 0 1 = cc in omega arith

stands_refusal : (m : ℕ) → RefusedBy m ≡ PromptStands → ⊥
stands_refusal m e = let z : ◌≡◌ {A = ℕ} 0 1 = cc in omega arith

stands_not_refusal : (m : ℕ) → RefusedBy m ≡ NoPromptStands → ⊥
stands_not_refusal m e = let z : ◌≡◌ {A = ℕ} 0 1 = cc in omega arith

stands_not_stands : NoPromptStands ≡ PromptStands → ⊥
stands_not_stands e = let z : ◌≡◌ {A = ℕ} 0 1 = cc in omega arith

r1_back : (last t : ℕ) → t < last → is_r1 last t ≡ true
r1_back last t h = rw (lt-ltb t last h) (or-true (leb (2 ^ 48) t))

module _ (h : List Event) (t : ℕ) where
  r1_refused : is_r1 (last_moment h) t ≡ true → RefusedAt h t
  r1_refused = go (leb (2 ^ 48) t) (ltb t (last_moment h)) refl refl
    where
      go : (a b : Bool) → leb (2 ^ 48) t ≡ a → ltb t (last_moment h) ≡ b → a || b ≡ true → RefusedAt h t
      go true b p q e = inl (leb-true (2 ^ 48) t p)
      go false true p q e = inr (ltb-true t (last_moment h) q)
      go false false p q e = absurd (false≢true e)

  refused_r1 : RefusedAt h t → is_r1 (last_moment h) t ≡ true
  refused_r1 r = ⊎_elim (λ b. sym (r1_beyond (last_moment h) t b)) (r1_back (last_moment h) t) r

  passed : is_r1 (last_moment h) t ≡ false → RefusedAt h t → ⊥
  passed e r = true≢false (sym (refused_r1 r) ∙ e)

-- a side that is none
named_none : (n : ℕ) → is_bad_side n ≡ true → 1 < n
named_none n e = ltb-true 1 n e

none_named : (n : ℕ) → 1 < n → is_bad_side n ≡ true
none_named n h = lt-ltb 1 n h

named_one : (n : ℕ) → is_bad_side n ≡ false → 1 < n → ⊥
named_one n e h = true≢false (sym (none_named n h) ∙ e)

number_same : (n m : ℕ) → RefusedBy n ≡ RefusedBy m → n ≡ m
number_same n m e = cc

module _ (w : ℕ) (h : List Event) (t : ℕ) (k : Role) where
  -- once side and moment have passed, a refusal is R2
  unrefused_no_r : (n : ℕ) → (2 ≡ n → ⊥) → (j : Role) → unrefused w h j t ≡ RefusedBy n → ⊥
  unrefused_no_r n d Touching e = no_refusal TouchAccepted TouchIgnored accepted_refusal ignored_refusal ignored_accepted n (is_prompt_standing w h t) e
  unrefused_no_r n d (Checking s) e = no_refusal TouchFound NoTouchFound found_refusal not_found_refusal not_found_found n (is_any (held_for w h s t)) e
  unrefused_no_r n d Asking e = no_refusal PromptStands NoPromptStands stands_refusal stands_not_refusal stands_not_stands n (is_prompt_standing w h t) e
  unrefused_no_r n d (Settling s) e = let z : ◌≡◌ {A = ℕ} 0 1 = cc in omega arith
  unrefused_no_r n d (TooShort s) e = d (cc)

  -- what is foretold of a call: R8, R1, or what comes once both have passed
  data Way : Came → Type 0 where
    r8 : NamesBadSide k → Way (RefusedBy 8)
    r1 : (NamesBadSide k → ⊥) → RefusedAt h t → Way (RefusedBy 1)
    given : (NamesBadSide k → ⊥) → (RefusedAt h t → ⊥) → Way (unrefused w h k t)

  way : Way (foretold w h (record { role = k; moment = t }))
  unfolding foretold
  way = go (is_bad_side (side_of k)) refl (is_r1 (last_moment h) t) refl
    where
      go : (c : Bool) → is_bad_side (side_of k) ≡ c → (b : Bool) → is_r1 (last_moment h) t ≡ b → Way (when c then RefusedBy 8 else when b then RefusedBy 1 else unrefused w h k t)
      go true n b e = r8 (named_none (side_of k) n)
      go false n true e = r1 (named_one (side_of k) n) (r1_refused h t e)
      go false n false e = given (named_one (side_of k) n) (passed h t e)

  module _ (o : Came) (f : o ≡ foretold w h (record { role = k; moment = t })) where
    abbrev told : Came
    told = foretold w h (record { role = k; moment = t })

    pub refuses_side : (o ≡ RefusedBy 8) ↔ NamesBadSide k
    refuses_side = (λ q. due told way (sym f ∙ q), λ n. f ∙ back told way n)
      where
        due : (c : Came) → Way c → c ≡ RefusedBy 8 → NamesBadSide k
        due _ (r8 n) e = n
        due _ (r1 n r) e = absurd (omega (arith, number_same 1 8 e))
        due _ (given n p) e = absurd (unrefused_no_r 8 (omega arith) k e)

        back : (c : Came) → Way c → NamesBadSide k → c ≡ RefusedBy 8
        back _ (r8 n) m = refl
        back _ (r1 n r) m = absurd (n m)
        back _ (given n p) m = absurd (n m)

    pub refuses : (o ≡ RefusedBy 1) ↔ ((NamesBadSide k → ⊥) × RefusedAt h t)
    refuses = (λ q. due told way (sym f ∙ q), λ n. f ∙ back told way n)
      where
        due : (c : Came) → Way c → c ≡ RefusedBy 1 → (NamesBadSide k → ⊥) × RefusedAt h t
        due _ (r8 n) e = absurd (omega (arith, number_same 8 1 e))
        due _ (r1 n r) e = (n, r)
        due _ (given n p) e = absurd (unrefused_no_r 1 (omega arith) k e)

        back : (c : Came) → Way c → (NamesBadSide k → ⊥) × RefusedAt h t → c ≡ RefusedBy 1
        back _ (r8 n) m = absurd (m.0 n)
        back _ (r1 n r) m = refl
        back _ (given n p) m = absurd (p m.1)

    pub refuses_no_window : o ≡ RefusedBy 6 → ⊥
    refuses_no_window q = due told way (sym f ∙ q)
      where
        due : (c : Came) → Way c → c ≡ RefusedBy 6 → ⊥
        due _ (r8 n) e = omega (arith, number_same 8 6 e)
        due _ (r1 n r) e = omega (arith, number_same 1 6 e)
        due _ (given n p) e = unrefused_no_r 6 (omega arith) k e

    -- something else than a refusal: side and moment have passed, and it is what comes then
    passes : (y : Came) → ((m : ℕ) → RefusedBy m ≡ y → ⊥) → o ≡ y → (NamesBadSide k → ⊥) × (RefusedAt h t → ⊥) × (unrefused w h k t ≡ y)
    passes y ry q = due told way (sym f ∙ q)
      where
        due : (c : Came) → Way c → c ≡ y → (NamesBadSide k → ⊥) × (RefusedAt h t → ⊥) × (unrefused w h k t ≡ y)
        due _ (r8 n) e = absurd (ry 8 e)
        due _ (r1 n r) e = absurd (ry 1 e)
        due _ (given n p) e = (n, p, e)

    -- yes: side and moment pass, and what was asked is so
    yes : (b : Bool) (y n : Came) → ((m : ℕ) → RefusedBy m ≡ y → ⊥) → ((m : ℕ) → RefusedBy m ≡ n → ⊥) → (n ≡ y → ⊥) → unrefused w h k t ≡ (when b then y else n)
        → (o ≡ y) ↔ ((NamesBadSide k → ⊥) × (RefusedAt h t → ⊥) × (b ≡ true))
    yes b y n ry rn apart u = (λ q. let x = passes y ry q in (x.0, x.1, is_yes y n ry rn apart b (sym u ∙ x.2)), λ q. f ∙ back told way q)
      where
        back : (c : Came) → Way c → (NamesBadSide k → ⊥) × (RefusedAt h t → ⊥) × (b ≡ true) → c ≡ y
        back _ (r8 m) q = absurd (q.0 m)
        back _ (r1 m r) q = absurd (q.1 r)
        back _ (given m p) q = u ∙ ap (λ (c : Bool). when c then y else n) q.2

-- a standing prompt, in the document's words
abbrev Standing : ℕ → List Event → ℕ → Type 0
Standing w h t = (s : Mark) × (latest_prompt w h ≡ some s) × (is_after s (latest_touch w h) ≡ true) × (t < s.moment + 10000)

standing : (w : ℕ) (h : List Event) (t : ℕ) → (is_prompt_standing w h t ≡ true) ↔ Standing w h t
unfolding is_prompt_standing
standing w h t = (go (latest_prompt w h) refl, back)
  where
    go : (o : Option Mark) → latest_prompt w h ≡ o → is_standing_by o (latest_touch w h) t ≡ true → Standing w h t
    go none e q = absurd (false≢true q)
    go (some s) e q = let z = both (is_after s (latest_touch w h)) (ltb t (s.moment + 10000)) q in (s, e, z.0, ltb-true t (s.moment + 10000) z.1)

    back : Standing w h t → is_standing_by (latest_prompt w h) (latest_touch w h) t ≡ true
    back s = rw (s.1, s.2) (lt-ltb t (s.0.moment + 10000) s.3)

-- one touch held
only : (ks : List Mark) → length ks ≤ 1 → (is_any ks ≡ true) ↔ ((k : Mark) × (ks ≡ k ∷ []))
only [] b = (λ e. absurd (false≢true e), λ s. let z : ◌≡◌ {A = ℕ} 0 1 = omega (arith, ap length s.1) in absurd (omega arith))
only (k ∷ []) b = (λ e. (k, refl), λ s. refl)
only (k ∷ (j ∷ ks)) b = (λ e. absurd (omega arith), λ s. refl)

module _ (w : ℕ) (h : List Event) (t : ℕ) (o : Came) where
  -- a touch names no side
  nobody : NamesBadSide Touching → ⊥
  nobody n = omega arith

  pub accepts : o ≡ foretold w h (record { role = Touching; moment = t }) → (o ≡ TouchAccepted) ↔ ((RefusedAt h t → ⊥) × Standing w h t)
  accepts f = let y = yes w h t Touching o f (is_prompt_standing w h t) TouchAccepted TouchIgnored accepted_refusal ignored_refusal ignored_accepted refl in
      (λ q. ((y.0 q).1, (standing w h t).0 (y.0 q).2), λ s. y.1 (nobody, s.0, (standing w h t).1 s.1))

  pub finds : (s : ℕ) → (last_moment h ≤ t → length (held_for w h s t) ≤ 1) → o ≡ foretold w h (record { role = Checking s; moment = t })
      → (o ≡ TouchFound) ↔ ((NamesBadSide (Checking s) → ⊥) × (RefusedAt h t → ⊥) × ((k : Mark) × (held_for w h s t ≡ k ∷ [])))
  finds s one f = let y = yes w h t (Checking s) o f (is_any (held_for w h s t)) TouchFound NoTouchFound found_refusal not_found_refusal not_found_found refl in (
    λ q. ((y.0 q).0, (y.0 q).1, (only (held_for w h s t) (one (late (y.0 q).1))).0 (y.0 q).2),
    λ g. y.1 (g.0, g.1, (only (held_for w h s t) (one (late g.1))).1 g.2),
  )
    where
      late : (RefusedAt h t → ⊥) → last_moment h ≤ t
      late n = go (ltb t (last_moment h)) refl
        where
          go : (b : Bool) → ltb t (last_moment h) ≡ b → last_moment h ≤ t
          go true e = absurd (n (inr (ltb-true t (last_moment h) e)))
          go false e = borrow.Author.Tests.ltb-false t (last_moment h) e

  other : (k : Role) → o ≡ foretold w h (record { role = k; moment = t }) → (unrefused w h k t ≡ TouchFound → ⊥) → o ≡ TouchFound → ⊥
  other k f never q = never (passes w h t k o f TouchFound found_refusal q).2

  -- only a check finds a touch
  pub checks : (k : Role) → o ≡ foretold w h (record { role = k; moment = t }) → o ≡ TouchFound → (s : ℕ) × (k ≡ Checking s)
  checks (Checking s) f q = (s, refl)
  checks Touching f q = absurd (other Touching f (λ e. two (is_prompt_standing w h t) e) q)
    where
      two : (b : Bool) → (when b then TouchAccepted else TouchIgnored) ≡ TouchFound → ⊥
      two true e = let z : ◌≡◌ {A = ℕ} 0 1 = cc in omega arith
      two false e = let z : ◌≡◌ {A = ℕ} 0 1 = cc in omega arith
  checks Asking f q = absurd (other Asking f (λ e. two (is_prompt_standing w h t) e) q)
    where
      two : (b : Bool) → (when b then PromptStands else NoPromptStands) ≡ TouchFound → ⊥
      two true e = let z : ◌≡◌ {A = ℕ} 0 1 = cc in omega arith
      two false e = let z : ◌≡◌ {A = ℕ} 0 1 = cc in omega arith
  checks (Settling s) f q = absurd (other (Settling s) f (λ e. let z : ◌≡◌ {A = ℕ} 0 1 = cc in omega arith) q)
  checks (TooShort s) f q = absurd (other (TooShort s) f (found_refusal 2) q)
