-- The record lent as five numbers: the touch check and the touch on it, and that no two stand for the same. It mentions no function.
use Prim.Native.Nat.{ℕ, zero, suc, ◌+◌, ◌<◌, ◌^◌}
use mathlib.Core.Path.{◌≡◌, refl, ap, sym, ◌∙◌}
use mathlib.Core.Bool.{Bool, true, false, not}
use native.Mathlib.Omega.{arith}
use native.Mathlib.Decide.{dec_lt}
use mathlib.Core.Logic.{inl}
use borrow.Author.Tests.{eq-eqb, ne_eqb, not-true, not-false}
use Rattle.outcome.specs.Outcome.{Outcome, Gives}
use Rattle.outcome.proofs.Laws.{r_gives, gives_same}
use Rattle.u2f_up_stated.specs.Words.{Window, None, Some, Presence, PresenceRecord, Finding}
use Rattle.u2f_up_stated.specs.Moments.{is_live, moved_to, settle_of, checked_of, granted_of}
use Rattle.u2f_up_stated.specs.Terms.{BadMoment, LiveNumber}
use Rattle.u2f_up_stated.proofs.Ways.{SettleWay, settle_way, r6, r8, r1, moves, window_live, window_over, window_is}
use Rattle.u2f_up_stated.specs.Numbers.{window_of, presence_in, number_of, checked_in, granted_in}

-- ---- a window's number
pub closed_is : (n : ℕ) → n ≡ 0 → None ≡ window_of n
closed_is n e = rw e refl

closed_apart : (m : ℕ) → None ≡ Some m → ⊥
closed_apart m e = let z : ◌≡◌ {A = ℕ} 0 1 = cc in omega arith

opened_same : (m n : ℕ) → Some m ≡ Some n → m ≡ n
opened_same m n e = cc

pub opened_after : (n m : ℕ) → n ≡ m + 1 → window_of n ≡ Some m
opened_after n m e = let s : n ≡ suc m = omega (arith, e) in rw s

pub opened_back : (n m : ℕ) → window_of n ≡ Some m → n ≡ m + 1
opened_back zero m e = absurd (closed_apart m e)
opened_back (suc k) m e = let same : k ≡ m = opened_same k m e in omega (arith, same)

pub closed_back : (n : ℕ) → window_of n ≡ None → n ≡ 0
closed_back zero e = refl
closed_back (suc k) e = absurd (closed_apart k (sym e))

-- a live window's number
pub number_live : (n d t : ℕ) → LiveNumber n d t → is_live (window_of n) d t ≡ true
number_live n d t (m, e, h) = window_live (window_of n) d t (m, opened_after n m e, h)

pub number_over : (n d t : ℕ) → (LiveNumber n d t → ⊥) → is_live (window_of n) d t ≡ false
number_over n d t not = window_over (window_of n) d t (λ (m, e, h). not (m, opened_back n m e, h))

pub live_number : (n d t : ℕ) → Dec (LiveNumber n d t)
live_number n d t = by (window_is (window_of n) d t)
  where
    by : Dec ((m : ℕ) × (window_of n ≡ Some m) × (t < m + d)) → Dec (LiveNumber n d t)
    by (yes (m, e, h)) = yes (m, opened_back n m e, h)
    by (no not) = no (λ (m, e, h). not (m, opened_after n m e, h))

pub next_is : (t : ℕ) → (t ≡ 0xffffffffffffffff → ⊥) → t + 1 ≡ number_of t
next_is t n = rw (ne_eqb t 0xffffffffffffffff n)

-- ---- the touch check: its record, where the last moment has moved
module _ (s : PresenceRecord) (side t : ℕ) (live : Bool) (is_live_lem : live ≡ is_live (window_of s.touch) s.w t) where
  abbrev found : Finding
  found = checked_in (moved_to (presence_in s) t) side t

  pub prompts : (n : ℕ) → n ≡ number_of t → not live ≡ true → (false ≡ found.yes) × (presence_in (record s { prompt = n; last = t; asker = side }) ≡ found.presence)
  unfolding checked_in
  prompts n is_n b =
      let dead : is_live (window_of s.touch) s.w t ≡ false = sym is_live_lem ∙ not-true live b in
      (rw dead, rw (is_n, dead))

  module _ (b : not live ≡ false) where
    lives : is_live (window_of s.touch) s.w t ≡ true
    lives = sym is_live_lem ∙ not-false live b

    pub others : (s.asker ≡ side → ⊥) → (false ≡ found.yes) × (presence_in (record s { last = t }) ≡ found.presence)
    unfolding checked_in
    others n = (rw (lives, ne_eqb s.asker side n), rw (lives, ne_eqb s.asker side n))

    pub spends : s.asker ≡ side → (true ≡ found.yes) × (presence_in (record s { touch = 0; last = t }) ≡ found.presence)
    unfolding checked_in
    spends e = (rw (lives, eq-eqb s.asker side e), rw (lives, eq-eqb s.asker side e))

-- ---- the touch
module _ (s : PresenceRecord) (t : ℕ) (live : Bool) (is_prompting_lem : live ≡ is_live (window_of s.prompt) 10000 t) where
  abbrev granted : Finding
  granted = granted_in (moved_to (presence_in s) t) t

  pub not_granted : not live ≡ true → (false ≡ granted.yes) × (presence_in (record s { last = t }) ≡ granted.presence)
  unfolding granted_in
  not_granted b = let dead : is_live (window_of s.prompt) 10000 t ≡ false = sym is_prompting_lem ∙ not-true live b in (rw dead, rw dead)

  pub grants : (n : ℕ) → n ≡ number_of t → not live ≡ false → (true ≡ granted.yes) × (presence_in (record s { prompt = 0; touch = n; last = t }) ≡ granted.presence)
  unfolding granted_in
  grants n is_n b = let lives : is_live (window_of s.prompt) 10000 t ≡ true = sym is_prompting_lem ∙ not-false live b in (rw lives, rw (is_n, lives))

-- ---- at a moment that has a number after it they are the definitions of Moments.antt
opens_at : (t : ℕ) → (t ≡ 0xffffffffffffffff → ⊥) → window_of (number_of t) ≡ Some t
opens_at t n = rw (ne_eqb t 0xffffffffffffffff n) (opened_after (t + 1) t refl)

pub checked_not_greatest : (p : Presence) (side t : ℕ) → (t ≡ 0xffffffffffffffff → ⊥) → checked_in p side t ≡ checked_of p side t
unfolding checked_in checked_of
checked_not_greatest p side t n = rw (opens_at t n)

pub granted_not_greatest : (p : Presence) (t : ℕ) → (t ≡ 0xffffffffffffffff → ⊥) → granted_in p t ≡ granted_of p t
unfolding granted_in granted_of
granted_not_greatest p t n = rw (opens_at t n)

pub checked_below : (p : Presence) (side t : ℕ) → t < 2 ^ 48 → checked_in p side t ≡ checked_of p side t
checked_below p side t h = checked_not_greatest p side t (λ e. omega (arith, e, h))

pub granted_below : (p : Presence) (t : ℕ) → t < 2 ^ 48 → granted_in p t ≡ granted_of p t
granted_below p t h = granted_not_greatest p t (λ e. omega (arith, e, h))

-- ---- five numbers are the record that they stand for, and no others are
number_back : Window → ℕ
number_back None = 0
number_back (Some m) = suc m

number_back_lem : (n : ℕ) → number_back (window_of n) ≡ n
unfolding number_back
number_back_lem zero = refl
number_back_lem (suc m) = refl

numbers_back : Presence → PresenceRecord
numbers_back p = record { w = p.w; prompt = number_back p.prompt; touch = number_back p.touch; last = p.last; asker = p.asker }

numbers_back_lem : (a : PresenceRecord) → numbers_back (presence_in a) ≡ a
unfolding numbers_back
numbers_back_lem a = rw (number_back_lem a.prompt, number_back_lem a.touch)

pub five_apart : (a b : PresenceRecord) → presence_in a ≡ presence_in b → a ≡ b
five_apart a b e = sym (numbers_back_lem a) ∙ ap numbers_back e ∙ numbers_back_lem b

-- ---- a record that settles: its last moment moves, to one below 2^48
pub settles_moved : (p : Presence) (side t : ℕ) (q : Presence) → Gives q ≡ settle_of p side t → (q ≡ moved_to p t) × (t < 2 ^ 48)
settles_moved p side t q e = by (settle_of p side t) (settle_way p side t) e
  where
    by : (o : Outcome Presence) → SettleWay p side t o → Gives q ≡ o → (q ≡ moved_to p t) × (t < 2 ^ 48)
    by _ (r6 b) x = absurd (r_gives _ _ (sym x))
    by _ (r8 g b) x = absurd (r_gives _ _ (sym x))
    by _ (r1 g h b) x = absurd (r_gives _ _ (sym x))
    by _ (moves ok) x = (gives_same _ _ x, below (dec_lt t (2 ^ 48)) ok.2)
      where
        below : Dec (t < 2 ^ 48) → (BadMoment p.last t → ⊥) → t < 2 ^ 48
        below (yes h) n = h
        below (no h) n = absurd (n (inl (omega (arith, h))))
