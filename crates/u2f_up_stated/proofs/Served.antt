-- Which touch served a call: while the touch window of a history is open, its touch is the latest accepted one, it leads the
-- unspent ones, and it has served nobody.
use Prim.Native.Nat.{ℕ, suc, ◌<◌, ◌≤◌}
use mathlib.Core.Path.{◌≡◌, refl, sym, ap, ◌∙◌}
use mathlib.Core.Bool.{Bool, true, false, true≢false}
use mathlib.Core.List.{List, [], ◌∷◌, ◌++◌}
use mathlib.Core.Option.{Option, some}
use native.Mathlib.Omega.{arith}
use lib.Dec.{eqb}
use lib.ListN.{length}
use borrow.Author.Tests.{eqb-true, eq-eqb}
use Rattle.outcome.specs.Notation.{when◌then◌else◌}
use Rattle.u2f_up_stated.specs.Words.{Window, None, Some}
use Rattle.u2f_up_stated.specs.Moments.{is_live}
use Rattle.u2f_up_stated.specs.Terms.{ServesOnce}
use Rattle.u2f_up_stated.specs.History.{Event, Mark, touch_mark, side_of, is_spending, unspent, held_at, asker_of, server_of, servers, is_named}
use Rattle.u2f_up_stated.specs.Runs.{Caller, comes_to, history}
use Rattle.u2f_up_stated.proofs.Lists.{count, length_those}
use Rattle.u2f_up_stated.proofs.Runs.{held_of, Sorted, Effect, still, moved, touched, spent, prompted, held_next}
use Rattle.u2f_up_stated.proofs.Touches.{Inv, Held, unspent_next, touch_next, held_now, window_young, window_of}

closed_open : (m : ℕ) → None ≡ Some m → ⊥
closed_open m x = let z : ◌≡◌ {A = ℕ} 0 1 = cc in omega arith

pub servers_next : (w : ℕ) (e : Event) (h : List Event) (s : Bool) → is_spending e ≡ s → servers w (e ∷ h) ≡ (when s then server_of w h ∷ servers w h else servers w h)
unfolding servers
servers_next w e h s q = rw q

module _ (w : ℕ) where
  abbrev Own : List Event → ℕ → Type 0
  Own h m = (k : Mark) × (rest : List Mark) × (server_of w h ≡ some k) × (unspent w h ≡ k ∷ rest) × (k.number < length h) × (count (is_named k.number) (servers w h) ≡ 0)

  pub record Owned (h : List Event) : Type 0 where
    pub beyond : (n : ℕ) → length h ≤ n → count (is_named n) (servers w h) ≡ 0
    pub once : (n : ℕ) → count (is_named n) (servers w h) ≤ 1
    pub own : (m : ℕ) → held_of h ≡ Some m → Own h m

  pub owned_at_first : Owned []
  unfolding servers held_of
  owned_at_first = record { beyond = λ n b. refl; once = λ n. omega arith; own = λ m e. absurd (closed_open m e) }

  module _ (h : List Event) (e : Event) (o : Owned h) where
    passes : {m p : Bool} → Sorted w h e m false false p → Owned (e ∷ h)
    passes x =
        let s = servers_next w e h false x.spends in
        record {
          beyond = λ n b. rw s (o.beyond n (omega arith));
          once = λ n. rw s (o.once n);
          own = λ m q. let k = o.own m (sym (held_next h w x) ∙ q) in
              (k.0, k.1, touch_next h w x ∙ k.2, unspent_next h w x ∙ k.3, omega (arith, k.4), rw s k.5);
        }

    accepts : {m : Bool} → Sorted w h e m true false false → Owned (e ∷ h)
    accepts x =
        let s = servers_next w e h false x.spends in
        record {
          beyond = λ n b. rw s (o.beyond n (omega arith));
          once = λ n. rw s (o.once n);
          own = λ m q. (touch_mark w e h, unspent w h, touch_next h w x, unspent_next h w x, omega arith, rw s (o.beyond (length h) (omega arith)));
        }

    spends : {m : Bool} → Sorted w h e m false true false → is_live (held_of h) w e.call.moment ≡ true → Owned (e ∷ h)
    spends x is_live_lem = by (held_of h) refl is_live_lem
      where
        named : (k : Mark) → k.number < length h → count (is_named k.number) (servers w h) ≡ 0 → (n : ℕ)
            → (suc (length h) ≤ n → count (is_named n) (some k ∷ servers w h) ≡ 0) × (count (is_named n) (some k ∷ servers w h) ≤ 1)
        named k low unnamed n = go (eqb k.number n) refl
          where
            go : (b : Bool) → eqb k.number n ≡ b → (suc (length h) ≤ n → count (is_named n) (some k ∷ servers w h) ≡ 0) × (count (is_named n) (some k ∷ servers w h) ≤ 1)
            go true q = let z = eqb-true k.number n q in (λ b. absurd (omega arith), rw q (omega (arith, ap (λ (j : ℕ). count (is_named j) (servers w h)) z)))
            go false q = (λ b. rw q (omega (arith, o.beyond n (omega arith))), rw q (omega (arith, o.once n)))

        by : (y : Window) → held_of h ≡ y → is_live y w e.call.moment ≡ true → Owned (e ∷ h)
        by None q l = absurd (true≢false (sym l))
        by (Some m) q l =
            let k = o.own m q in
            let s = servers_next w e h true x.spends ∙ ap (λ (j : Option Mark). j ∷ servers w h) k.2 in
            record {
              beyond = λ n b. rw s ((named k.0 k.4 k.5 n).0 b);
              once = λ n. rw s (named k.0 k.4 k.5 n).1;
              own = λ m r. absurd (closed_open m (sym (held_next h w x) ∙ r));
            }

    pub owned_next : Effect w h e → Owned (e ∷ h)
    owned_next (still x) = passes x
    owned_next (moved x late) = passes x
    owned_next (touched x late is_live_lem) = accepts x
    owned_next (spent x late is_live_lem own) = spends x is_live_lem
    owned_next (prompted x late not_live known) = passes x

    -- the touch that served a call that spends is the one that was held then, and its side is the call's
    pub serves : Inv w h → Effect w h e → is_spending e ≡ true → (k : Mark) × (server_of w h ≡ some k) × (held_at w h e.call.moment ≡ k ∷ []) × (k.side ≡ side_of e.call.role)
    serves i (spent x late is_live_lem own) s = by (held_of h) refl is_live_lem (held_now w h e.call.moment late i)
      where
        by : (y : Window) → held_of h ≡ y → is_live y w e.call.moment ≡ true → Held w (asker_of w h) e.call.moment (unspent w h) y
            → (k : Mark) × (server_of w h ≡ some k) × (held_at w h e.call.moment ≡ k ∷ []) × (k.side ≡ side_of e.call.role)
        by None q l held = absurd (true≢false (sym l))
        by (Some m) q l held =
            let k = o.own m q in
            let same : held.0 ≡ k.0 = front (sym held.2 ∙ k.3) in
            let one : held_at w h e.call.moment ≡ k.0 ∷ [] = window_young w (asker_of w h) e.call.moment (unspent w h) m held ∙ rw l (ap (λ (j : Mark). j ∷ []) same) in
            let side : k.0.side ≡ asker_of w h = (window_of w (asker_of w h) e.call.moment (unspent w h) (Some m) k.0 held one).1 in
            (k.0, k.2, one, side ∙ own)
          where
            front : {a b : Mark} {js ks : List Mark} → a ∷ js ≡ b ∷ ks → a ≡ b
            front r = cc
    serves i (still x) s = absurd (true≢false (sym s ∙ x.spends))
    serves i (moved x late) s = absurd (true≢false (sym s ∙ x.spends))
    serves i (touched x late is_live_lem) s = absurd (true≢false (sym s ∙ x.spends))
    serves i (prompted x late not_live known) s = absurd (true≢false (sym s ∙ x.spends))

pub serves_once : (w : ℕ) (h : List Event) → Owned w h → ServesOnce w h
serves_once w h o n = omega (arith, length_those (is_named n) (servers w h), o.once n)

-- whatever is named after some calls is named after more of them
pub named_later : {D : Type 0} (𝒞 : Caller D) (w n : ℕ) (later ds : List D) → count (is_named n) (servers w (history 𝒞 w ds)) ≤ count (is_named n) (servers w (history 𝒞 w (later ++ ds)))
unfolding history servers
named_later 𝒞 w n [] ds = omega arith
named_later 𝒞 w n (d ∷ later) ds = go (is_spending (record { call = 𝒞.as_call d; came = comes_to 𝒞 w (later ++ ds) d })) (named_later 𝒞 w n later ds)
  where
    go : (s : Bool) → count (is_named n) (servers w (history 𝒞 w ds)) ≤ count (is_named n) (servers w (history 𝒞 w (later ++ ds)))
        → count (is_named n) (servers w (history 𝒞 w ds)) ≤ count (is_named n) (when s then server_of w (history 𝒞 w (later ++ ds)) ∷ servers w (history 𝒞 w (later ++ ds)) else servers w (history 𝒞 w (later ++ ds)))
    go true more = omega arith
    go false more = more

-- a touch that is named counts
pub named_counts : (n : ℕ) (k : Mark) (rest : List (Option Mark)) → k.number ≡ n → count (is_named n) rest < count (is_named n) (some k ∷ rest)
named_counts n k rest e = rw (eq-eqb k.number n e) (omega arith)
