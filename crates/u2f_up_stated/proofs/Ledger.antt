-- Counting: every accepted touch was spent or is unspent, and each call that spends takes one.
use Prim.Native.Nat.{ℕ, zero, suc, ◌+◌, ◌≤◌}
use mathlib.Core.Path.{◌≡◌, refl, sym, ap, ◌∙◌}
use mathlib.Core.Bool.{Bool, true, false}
use mathlib.Core.List.{List, [], ◌∷◌}
use native.Mathlib.Omega.{arith}
use lib.Dec.{eqb}
use lib.ListN.{length}
use borrow.Author.Tests.{eq-eqb, ltb-false}
use Rattle.u2f_up_stated.specs.Moments.{is_live, is_bad_side}
use Rattle.u2f_up_stated.specs.History.{Event, Mark, side_of, those, is_spending, is_spending_for, is_young, is_of, is_found, is_any, held_at, held_for, lapsed, last_moment, unspent, accepted, asker_of, served, spenders, spenders_of}
use Rattle.u2f_up_stated.proofs.Lists.{one, count, count_next, count_append, count_split, count_all, length_those}
use Rattle.u2f_up_stated.proofs.Runs.{held_of, Sorted, Effect, still, moved, touched, spent, prompted}
use Rattle.u2f_up_stated.proofs.Touches.{Inv, held_now, accepted_next, served_next, unspent_next, live_held, found_held, at_most_one, window_of}

-- spent or unspent
abbrev pub Balanced : ℕ → (Mark → Bool) → List Event → Type 0
Balanced w picks h = count picks (accepted w h) ≡ count picks (served w h) + count picks (unspent w h)

module _ (w : ℕ) (picks : Mark → Bool) where
  pub balanced_at_first : Balanced w picks []
  unfolding accepted served unspent
  balanced_at_first = refl

  module _ (h : List Event) (e : Event) (b : Balanced w picks h) where
    passes : {m p : Bool} → Sorted w h e m false false p → Balanced w picks (e ∷ h)
    passes x = rw (accepted_next h w x, served_next h w x, unspent_next h w x) b

    pub balanced_next : Effect w h e → Balanced w picks (e ∷ h)
    balanced_next (still x) = passes x
    balanced_next (moved x late) = passes x
    balanced_next (touched x late is_live_lem) = rw (accepted_next h w x, served_next h w x, unspent_next h w x) (omega arith)
    balanced_next (spent x late is_live_lem own) =
        rw (accepted_next h w x, served_next h w x, unspent_next h w x)
        (omega (arith, count_append picks (held_for w h (side_of e.call.role) e.call.moment) (served w h), count_split (is_found w (side_of e.call.role) e.call.moment) picks (unspent w h)))
    balanced_next (prompted x late not_live known) = passes x

-- what a call that spends takes: one touch, of its own side
one_held : (w : ℕ) (h : List Event) (t : ℕ) (i : Inv w h) → last_moment h ≤ t → is_live (held_of h) w t ≡ true → (k : Mark) × (held_for w h (asker_of w h) t ≡ k ∷ []) × (k.side ≡ asker_of w h)
one_held w h t i late is_live_lem =
    let now = held_now w h t late i in
    let one = only (held_at w h t) (at_most_one w (asker_of w h) t (unspent w h) (held_of h) now) (sym (live_held w h t i late) ∙ is_live_lem) in
    (one.0, found_held w h (asker_of w h) t i late ∙ rw (eq-eqb (asker_of w h) (asker_of w h) refl) one.1, (window_of w (asker_of w h) t (unspent w h) (held_of h) one.0 now one.1).1)
  where
    only : (ks : List Mark) → length ks ≤ 1 → is_any ks ≡ true → (k : Mark) × (ks ≡ k ∷ [])
    only [] b q = let z : ◌≡◌ {A = ℕ} 0 1 = cc in absurd (omega arith)
    only (k ∷ []) b q = (k, refl)
    only (k ∷ (j ∷ ks)) b q = absurd (omega arith)

-- one touch for each call that spends, and for each of a side one of that side
pub record OneEach (w : ℕ) (h : List Event) : Type 0 where
  pub each : length (served w h) ≡ spenders h
  pub of_side : (s : ℕ) → count (is_of s) (served w h) ≡ spenders_of s h

pub one_at_first : (w : ℕ) → OneEach w []
unfolding served
one_at_first w = record { each = refl; of_side = λ s. refl }

those_next : {A : Type 0} (picks : A → Bool) (a : A) (rest : List A) (b : Bool) → picks a ≡ b → length (those picks (a ∷ rest)) ≡ one b + length (those picks rest)
those_next picks a rest true q = rw q (omega arith)
those_next picks a rest false q = rw q (omega arith)

module _ (w : ℕ) (h : List Event) (e : Event) (i : Inv w h) (o : OneEach w h) where
  passes_one : {m a p : Bool} → Sorted w h e m a false p → OneEach w (e ∷ h)
  passes_one x = record {
    each = rw (served_next h w x) (omega (arith, o.each, those_next is_spending e h false x.spends));
    of_side = λ s. rw (served_next h w x) (omega (arith, o.of_side s, those_next (is_spending_for s) e h false (rw x.spends)));
  }

  spends_one : Sorted w h e true false true false → last_moment h ≤ e.call.moment → is_live (held_of h) w e.call.moment ≡ true → asker_of w h ≡ side_of e.call.role → OneEach w (e ∷ h)
  spends_one x late is_live_lem own =
      let k = one_held w h e.call.moment i late is_live_lem in
      let taken : held_for w h (side_of e.call.role) e.call.moment ≡ k.0 ∷ [] = rw own at k.1 in
      record {
        each = rw (served_next h w x, taken) (omega (arith, o.each, those_next is_spending e h true x.spends));
        of_side = λ s. rw (served_next h w x, taken) (counted s k.0 (k.2 ∙ own) (eqb (side_of e.call.role) s) refl);
      }
    where
      counted : (s : ℕ) (k : Mark) → k.side ≡ side_of e.call.role → (b : Bool) → eqb (side_of e.call.role) s ≡ b → count (is_of s) (k ∷ served w h) ≡ spenders_of s (e ∷ h)
      counted s k own b q =
          omega (arith, o.of_side s, count_next (is_of s) k (served w h) b (ap (λ (j : ℕ). eqb j s) own ∙ q), those_next (is_spending_for s) e h b (rw (x.spends, q)))

  pub one_next : Effect w h e → OneEach w (e ∷ h)
  one_next (still x) = passes_one x
  one_next (moved x late) = passes_one x
  one_next (touched x late is_live_lem) = passes_one x
  one_next (spent x late is_live_lem own) = spends_one x late is_live_lem own
  one_next (prompted x late not_live known) = passes_one x

-- every touch is of one of the two sides
abbrev pub TwoSides : ℕ → List Event → Type 0
TwoSides w h = length (accepted w h) ≡ count (is_of 0) (accepted w h) + count (is_of 1) (accepted w h)

pub two_at_first : (w : ℕ) → TwoSides w []
unfolding accepted
two_at_first w = refl

module _ (w : ℕ) (h : List Event) (e : Event) (i : Inv w h) (two : TwoSides w h) where
  passes_two : {m s p : Bool} → Sorted w h e m false s p → TwoSides w (e ∷ h)
  passes_two x = rw (accepted_next h w x) two

  one_of : (a : ℕ) → is_bad_side a ≡ false → (ks : List Mark) (n : ℕ) → length ks ≡ count (is_of 0) ks + count (is_of 1) ks
      → suc (length ks) ≡ count (is_of 0) (record { number = n; moment = e.call.moment; side = a } ∷ ks) + count (is_of 1) (record { number = n; moment = e.call.moment; side = a } ∷ ks)
  one_of zero real ks n q = omega arith
  one_of (suc zero) real ks n q = omega arith
  one_of (suc (suc a)) real ks n q = absurd (omega (arith, ltb-false 1 (suc (suc a)) real))

  pub two_next : Effect w h e → TwoSides w (e ∷ h)
  two_next (still x) = passes_two x
  two_next (moved x late) = passes_two x
  two_next (touched x late is_live_lem) = rw (accepted_next h w x) (one_of (asker_of w h) i.real (accepted w h) (length h) two)
  two_next (spent x late is_live_lem own) = passes_two x
  two_next (prompted x late not_live known) = passes_two x

-- spent, lapsed or live
pub accounted : (w : ℕ) (picks : Mark → Bool) (h : List Event) → Balanced w picks h
    → length (those picks (accepted w h)) ≡ length (those picks (served w h)) + length (those picks (lapsed w h)) + length (those picks (held_at w h (last_moment h)))
accounted w picks h b =
    omega (arith, length_those picks (accepted w h), length_those picks (served w h), length_those picks (lapsed w h), length_those picks (held_at w h (last_moment h)), count_split (is_young w (last_moment h)) picks (unspent w h))

pub totals : (w : ℕ) (h : List Event) → Balanced w (λ _. true) h → OneEach w h
    → length (accepted w h) ≡ spenders h + length (lapsed w h) + length (held_at w h (last_moment h))
totals w h b o =
    omega (arith, o.each, count_all (accepted w h), count_all (served w h), count_all (lapsed w h), count_all (held_at w h (last_moment h)), count_split (is_young w (last_moment h)) (λ _. true) (unspent w h))

pub side_totals : (w : ℕ) (h : List Event) (s : ℕ) → Balanced w (is_of s) h → OneEach w h
    → length (those (is_of s) (accepted w h)) ≡ spenders_of s h + length (those (is_of s) (lapsed w h)) + length (those (is_of s) (held_at w h (last_moment h)))
side_totals w h s b o = omega (arith, o.of_side s, accounted w (is_of s) h b, length_those (is_of s) (served w h))

pub two_sides : (w : ℕ) (h : List Event) → TwoSides w h → length (accepted w h) ≡ length (those (is_of 0) (accepted w h)) + length (those (is_of 1) (accepted w h))
two_sides w h t = omega (arith, length_those (is_of 0) (accepted w h), length_those (is_of 1) (accepted w h))
