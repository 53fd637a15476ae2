-- Every way through settling, and whether a window is live: the claims' conditions against the definitions' tests.
use Prim.Native.Nat.{ℕ, ◌+◌, ◌^◌, ◌<◌, ◌≤◌}
use mathlib.Core.Path.{◌≡◌, refl, sym, ◌∙◌}
use mathlib.Core.Bool.{Bool, true, false, or-true}
use mathlib.Core.Logic.{◌⊎◌, inl, inr, ⊎_elim}
use native.Mathlib.Omega.{arith}
use native.Mathlib.Decide.{ℕ_discrete, dec_lt, dec_le}
use lib.Dec.{leb, ltb, eqb}
use borrow.Author.Tests.{lt-ltb, le-ltb, le-leb, lt-leb, eq-eqb, ne_eqb}
use Rattle.outcome.proofs.Laws.{r_gives, r_word, word_gives}
use Rattle.u2f_up_stated.specs.Words.{StatusWord, Outcome, R, Word, Gives, Window, None, Some, Presence}
use Rattle.u2f_up_stated.specs.Moments.{Told, is_live, is_r6, is_r8, is_r1, moved_to, touch_closed, prompt_opened, settle_of, checked_of, on_settled}
use Rattle.u2f_up_stated.specs.Terms.{BadWindow, BadSide, BadMoment, NotRefused, HasPrompt, HasTouch, SettlesFirst}

-- ---- R6, R8 and R1
either : {A B : Type 0} → Dec A → Dec B → Dec (A ⊎ B)
either (yes a) b = yes (inl a)
either (no a) (yes b) = yes (inr b)
either (no a) (no b) = no (λ c. ⊎_elim a b c)

pub bad_window : (w : ℕ) → Dec (BadWindow w)
bad_window w = either (ℕ_discrete w 0) (dec_lt 60000 w)

pub bad_moment : (last t : ℕ) → Dec (BadMoment last t)
bad_moment last t = either (dec_le (2 ^ 48) t) (dec_lt t last)

pub is_r6_lem : (w : ℕ) → BadWindow w → is_r6 w ≡ true
is_r6_lem w = ⊎_elim (λ z. rw (eq-eqb w 0 z)) (λ z. rw (lt-ltb 60000 w z, or-true (eqb w 0)))

pub not_r6 : (w : ℕ) → (BadWindow w → ⊥) → is_r6 w ≡ false
not_r6 w h =
    let q : 60000 < w → ⊥ = λ z. h (inr z) in
    rw (ne_eqb w 0 (λ z. h (inl z)), le-ltb 60000 w (omega (arith, q)))

pub bad_side : (named asker : ℕ) → Dec (BadSide named asker)
bad_side named asker = either (dec_lt 1 named) (dec_lt 1 asker)

is_r8_lem : (named asker : ℕ) → BadSide named asker → is_r8 named asker ≡ true
is_r8_lem named asker = ⊎_elim (λ z. rw (lt-ltb 1 named z)) (λ z. rw (lt-ltb 1 asker z, or-true (ltb 1 named)))

not_r8 : (named asker : ℕ) → (BadSide named asker → ⊥) → is_r8 named asker ≡ false
not_r8 named asker h =
    let p : 1 < named → ⊥ = λ z. h (inl z) in
    let q : 1 < asker → ⊥ = λ z. h (inr z) in
    rw (le-ltb 1 named (omega (arith, p)), le-ltb 1 asker (omega (arith, q)))

pub is_r1_lem : (last t : ℕ) → BadMoment last t → is_r1 last t ≡ true
is_r1_lem last t = ⊎_elim (λ z. rw (le-leb (2 ^ 48) t z)) (λ z. rw (lt-ltb t last z, or-true (leb (2 ^ 48) t)))

pub not_r1 : (last t : ℕ) → (BadMoment last t → ⊥) → is_r1 last t ≡ false
not_r1 last t h =
    let p : 2 ^ 48 ≤ t → ⊥ = λ z. h (inl z) in
    let q : t < last → ⊥ = λ z. h (inr z) in
    rw (lt-leb (2 ^ 48) t (omega (arith, p)), le-ltb t last (omega (arith, q)))

-- ---- settling
module _ (p : Presence) (s t : ℕ) where
  pub settle_r6 : BadWindow p.w → settle_of p s t ≡ R 6
  unfolding settle_of
  settle_r6 b = rw (is_r6_lem p.w b)

  pub settle_r8 : (BadWindow p.w → ⊥) → BadSide s p.asker → settle_of p s t ≡ R 8
  unfolding settle_of
  settle_r8 g b = rw (not_r6 p.w g, is_r8_lem s p.asker b)

  pub settle_r1 : (BadWindow p.w → ⊥) → (BadSide s p.asker → ⊥) → BadMoment p.last t → settle_of p s t ≡ R 1
  unfolding settle_of
  settle_r1 g h b = rw (not_r6 p.w g, not_r8 s p.asker h, is_r1_lem p.last t b)

  pub settle_moves : NotRefused p s t → settle_of p s t ≡ Gives (moved_to p t)
  unfolding settle_of
  settle_moves ok = rw (not_r6 p.w ok.0, not_r8 s p.asker ok.1, not_r1 p.last t ok.2)

  pub data SettleWay : Outcome Presence → Type 0 where
    r6 : BadWindow p.w → SettleWay (R 6)
    r8 : (BadWindow p.w → ⊥) → BadSide s p.asker → SettleWay (R 8)
    r1 : (BadWindow p.w → ⊥) → (BadSide s p.asker → ⊥) → BadMoment p.last t → SettleWay (R 1)
    moves : NotRefused p s t → SettleWay (Gives (moved_to p t))

  pub settle_way : SettleWay (settle_of p s t)
  settle_way = by (bad_window p.w) (bad_side s p.asker) (bad_moment p.last t)
    where
      by : Dec (BadWindow p.w) → Dec (BadSide s p.asker) → Dec (BadMoment p.last t) → SettleWay (settle_of p s t)
      by (yes b) n m = rw (settle_r6 b) (r6 b)
      by (no g) (yes b) m = rw (settle_r8 g b) (r8 g b)
      by (no g) (no h) (yes b) = rw (settle_r1 g h b) (r1 g h b)
      by (no g) (no h) (no k) = rw (settle_moves (g, h, k)) (moves (g, h, k))

  -- settling gives no status word
  pub settle_no_status : (w : StatusWord) → settle_of p s t ≡ Word w → ⊥
  settle_no_status w e = by (settle_of p s t) settle_way e
    where
      by : (o : Outcome Presence) → SettleWay o → o ≡ Word w → ⊥
      by _ (r6 b) x = r_word _ _ x
      by _ (r8 g b) x = r_word _ _ x
      by _ (r1 g h b) x = r_word _ _ x
      by _ (moves ok) x = word_gives _ _ (sym x)

-- two refusals with different numbers are none
pub r_apart : {A : Type 0} (n m : ℕ) → (n ≡ m → ⊥) → ◌≡◌ {A = Outcome A} (R n) (R m) → ⊥
r_apart n m d e = d cc

-- ---- a call that settles first, for the side that it names, and then gives no refusal
module _ (named : Presence → ℕ) (go_on : Presence → ℕ → Presence → Told) (given : (p : Presence) (t : ℕ) (q : Presence) → (b : Bool) × ((go_on p t q).outcome ≡ Gives b)) where
  abbrev call : Presence → ℕ → Told
  call p t = on_settled p (settle_of p (named p) t) (go_on p t)

  abbrev said : Presence → ℕ → Outcome Presence → Outcome Bool
  said p t o = (on_settled p o (go_on p t)).outcome

  no_r : (p : Presence) (t n : ℕ) (q : Presence) → (go_on p t q).outcome ≡ R n → ⊥
  no_r p t n q e = r_gives _ _ (sym e ∙ (given p t q).1)

  pub settles_first : SettlesFirst named call
  settles_first = record {
    r6 = λ p t. (λ e. r6_due p t (settle_of p (named p) t) (settle_way p (named p) t) e, λ b. rw (settle_r6 p (named p) t b));
    r8 = λ p t. (λ e. r8_due p t (settle_of p (named p) t) (settle_way p (named p) t) e, λ b. rw (settle_r8 p (named p) t b.0 b.1));
    r1 = λ p t. (λ e. r1_due p t (settle_of p (named p) t) (settle_way p (named p) t) e, λ b. rw (settle_r1 p (named p) t b.0 b.1 b.2));
    keeps = λ p t n e. kept p t n (settle_of p (named p) t) (settle_way p (named p) t) e;
  }
    where
      r6_due : (p : Presence) (t : ℕ) (o : Outcome Presence) → SettleWay p (named p) t o → said p t o ≡ R 6 → BadWindow p.w
      r6_due p t _ (r6 b) e = b
      r6_due p t _ (r8 g b) e = absurd (r_apart 8 6 (omega arith) e)
      r6_due p t _ (r1 g h b) e = absurd (r_apart 1 6 (omega arith) e)
      r6_due p t _ (moves ok) e = absurd (no_r p t 6 _ e)

      r8_due : (p : Presence) (t : ℕ) (o : Outcome Presence) → SettleWay p (named p) t o → said p t o ≡ R 8 → (BadWindow p.w → ⊥) × BadSide (named p) p.asker
      r8_due p t _ (r6 b) e = absurd (r_apart 6 8 (omega arith) e)
      r8_due p t _ (r8 g b) e = (g, b)
      r8_due p t _ (r1 g h b) e = absurd (r_apart 1 8 (omega arith) e)
      r8_due p t _ (moves ok) e = absurd (no_r p t 8 _ e)

      r1_due : (p : Presence) (t : ℕ) (o : Outcome Presence) → SettleWay p (named p) t o → said p t o ≡ R 1 → (BadWindow p.w → ⊥) × (BadSide (named p) p.asker → ⊥) × BadMoment p.last t
      r1_due p t _ (r6 b) e = absurd (r_apart 6 1 (omega arith) e)
      r1_due p t _ (r8 g b) e = absurd (r_apart 8 1 (omega arith) e)
      r1_due p t _ (r1 g h b) e = (g, h, b)
      r1_due p t _ (moves ok) e = absurd (no_r p t 1 _ e)

      kept : (p : Presence) (t n : ℕ) (o : Outcome Presence) → SettleWay p (named p) t o → said p t o ≡ R n → (on_settled p o (go_on p t)).presence ≡ p
      kept p t n _ (r6 b) e = refl
      kept p t n _ (r8 g b) e = refl
      kept p t n _ (r1 g h b) e = refl
      kept p t n _ (moves ok) e = absurd (no_r p t n _ e)

-- ---- windows
module _ (x : Window) (d t : ℕ) where
  abbrev LiveAt : Type 0
  LiveAt = (m : ℕ) × (x ≡ Some m) × (t < m + d)

  pub window_live : LiveAt → is_live x d t ≡ true
  window_live (m, e, h) = rw (e, lt-ltb t (m + d) h)

  pub window_over : (LiveAt → ⊥) → is_live x d t ≡ false
  window_over n = by x refl
    where
      by : (y : Window) → x ≡ y → is_live y d t ≡ false
      by None e = refl
      by (Some m) e = let late : t < m + d → ⊥ = λ h. n (m, e, h) in le-ltb t (m + d) (omega (arith, late))

  pub window_is : Dec LiveAt
  window_is = by x refl
    where
      closed_open : (m : ℕ) → None ≡ Some m → ⊥
      closed_open m z = let w : ◌≡◌ {A = ℕ} 0 1 = cc in omega arith

      same : (m k : ℕ) → Some m ≡ Some k → k ≡ m
      same m k z = cc

      by : (y : Window) → x ≡ y → Dec LiveAt
      by None e = no (λ h. closed_open h.0 (sym e ∙ h.1))
      by (Some m) e = at (dec_lt t (m + d))
        where
          at : Dec (t < m + d) → Dec LiveAt
          at (yes h) = yes (m, e, h)
          at (no h) = no (λ z. h (rw (same m z.0 (sym e ∙ z.1)) at z.2))

pub has_touch : (p : Presence) (t : ℕ) → Dec (HasTouch p t)
has_touch p t = window_is p.touch p.w t

pub has_prompt : (p : Presence) (t : ℕ) → Dec (HasPrompt p t)
has_prompt p t = window_is p.prompt 10000 t

-- the touch check on a settled record
module _ (p : Presence) (s t : ℕ) where
  pub checked_own : HasTouch p t → p.asker ≡ s → checked_of (moved_to p t) s t ≡ record { yes = true; presence = touch_closed (moved_to p t) }
  unfolding checked_of
  checked_own h o = rw (window_live p.touch p.w t h, eq-eqb p.asker s o)

  pub checked_other : HasTouch p t → (p.asker ≡ s → ⊥) → checked_of (moved_to p t) s t ≡ record { yes = false; presence = moved_to p t }
  unfolding checked_of
  checked_other h o = rw (window_live p.touch p.w t h, ne_eqb p.asker s o)

  pub checked_dead : (HasTouch p t → ⊥) → checked_of (moved_to p t) s t ≡ record { yes = false; presence = prompt_opened (moved_to p t) s t }
  unfolding checked_of
  checked_dead h = rw (window_over p.touch p.w t h)
