-- How many parts go out where nothing stands against a C0 and each takes L bytes at a time.
use Prim.Native.Nat.{ℕ, zero, suc, ◌+◌, ◌-◌, ◌*◌, ◌<◌, ◌≤◌}
use mathlib.Core.Path.{◌≡◌, refl, ap, ◌∙◌}
use mathlib.Core.List.{List, [], ◌∷◌}
use native.Mathlib.Omega.{arith}
use native.Mathlib.Nat.{zero-mul, suc-mul}
use lib.ListN.{length}
use Rattle.response_stated.specs.declared.Remainder.{Remainder}
use Rattle.response_stated.specs.Parts.{part_length, rest_after}
use Rattle.response_stated.specs.Fetching.{RoundsUp, one, up}
use Rattle.response_stated.proofs.Laws.{PartWay, whole, cut, last, part_way, rest_end}
use Rattle.ctap1_stated.specs.Words.{DecisionResult}
use Rattle.ctap1_stated.specs.Path.{frame_limit}
use Rattle.ctap1_stated.specs.Decision.{decision_of}
use Rattle.ctap1_stated.specs.Session.{remainder_left, part_left}
use Rattle.ctap1_stated.specs.Terms.{Fetching}
use Rattle.ctap1_stated.proofs.Laws.{served, nothing_left, comes_c0}
use Rattle.session_stated.specs.Sessions.{Visit, lent_in, part_count, decided_in, left_in, parts_over, Each, also, Serves}

-- so many parts take c bytes, L at a time; none where c is 0
pub data Need (c L : ℕ) : ℕ → Type 0 where
  done : c ≡ 0 → Need c L 0
  more : (k : ℕ) → k * L < c → c ≤ k * L + L → Need c L (suc k)

module _ (L : ℕ) (some : 1 ≤ L) where
  -- how long a part is
  part_cut : (c : ℕ) → L < c → part_length L c ≡ L
  part_cut c h = go (part_way L c)
    where
      go : {n : ℕ} → PartWay L c n → n ≡ L
      go (whole z) = absurd (omega arith)
      go (cut s g) = refl
      go (last s g) = absurd (omega arith)

  part_last : (c : ℕ) → c ≤ L → part_length L c ≡ c
  part_last c h = go (part_way L c)
    where
      go : {n : ℕ} → PartWay L c n → n ≡ c
      go (whole z) = refl
      go (cut s g) = absurd (omega arith)
      go (last s g) = refl

  -- what is needed after a part
  need_next : (c k : ℕ) → k * L < c → c ≤ k * L + L → Need (c - part_length L c) L k
  need_next c zero low high =
      let is : part_length L c ≡ c = part_last c (omega (arith, high, zero-mul L)) in done (omega (arith, is))
  need_next c (suc k) low high =
      let is : part_length L c ≡ L = part_cut c (omega (arith, low, suc-mul k L, some)) in
      more k (omega (arith, low, is, suc-mul k L)) (omega (arith, high, is, suc-mul k L))

  module _ (body : List ℕ) where
    counted : (r : Remainder) (visits : List Visit) (j : ℕ) → r.place + r.count ≤ length body → Need r.count L j → Each (Serves frame_limit L) visits → j ≤ length visits
        → parts_over decision_of remainder_left part_left body r visits ≡ j
    counted r [] _ h (done z) e low = refl
    counted r [] _ h (more k a b) e low = absurd (omega arith)
    counted r (v ∷ visits) _ h (done z) (also (ok, c, l, room) e) low =
        let is = nothing_left v.presence v.moment (lent_in body r v) ok c z in
        let none_sent : part_count (decided_in decision_of remainder_left part_left body r v).answer ≡ 0 = ap (λ (x : DecisionResult). part_count x.answer) is in
        let kept : left_in decision_of remainder_left part_left body r v ≡ r = ap (λ (x : DecisionResult). remainder_left (lent_in body r v) x) is ∙ rw (comes_c0 v.lent c) in
        omega (arith, none_sent, ap (λ (k : Remainder). parts_over decision_of remainder_left part_left body k visits) kept, counted r visits 0 h (done z) e (omega arith))
    counted r (v ∷ visits) _ h (more k a b) (also (ok, c, l, room) e) low =
        let x : Fetching v.presence v.moment (lent_in body r v) = (ok, c, omega arith) in
        let most : part_length (frame_limit v.lent.frame) r.count + 2 ≤ length v.buffer = fits in
        let is = served v.presence v.moment (lent_in body r v) x h most in
        let sent : part_count (decided_in decision_of remainder_left part_left body r v).answer ≡ 1 = ap (λ (y : DecisionResult). part_count y.answer) is in
        let kept : left_in decision_of remainder_left part_left body r v ≡ rest_after r L = ap (λ (y : DecisionResult). remainder_left (lent_in body r v) y) is ∙ ap (rest_after r) l in
        omega (
          arith,
          sent,
          ap (λ (q : Remainder). parts_over decision_of remainder_left part_left body q visits) kept,
          counted (rest_after r L) visits k (omega (arith, rest_end r L)) (need_next r.count k a b) e (omega arith),
        )
      where
        long : part_length L r.count ≤ L
        long = go (part_way L r.count)
          where
            go : {n : ℕ} → PartWay L r.count n → n ≤ L
            go (whole z) = absurd (omega arith)
            go (cut s g) = omega arith
            go (last s g) = omega arith

        fits : part_length (frame_limit v.lent.frame) r.count + 2 ≤ length v.buffer
        fits = omega (arith, ap (λ (k : ℕ). part_length k r.count) l, long, room)

    pub exact : (r : Remainder) (visits : List Visit) (j : ℕ) → r.place + r.count ≤ length body → Need r.count L j → Each (Serves frame_limit L) visits → j ≤ length visits
        → parts_over decision_of remainder_left part_left body r visits ≡ j
    exact = counted

  -- a first part and the rest, rounded up
  pub need_first : (n k : ℕ) → RoundsUp n L k → (j : ℕ) × (k ≡ suc j) × Need (n - part_length L n) L j
  need_first n _ (one z) = (0, refl, done (omega (arith, part_last n (omega (arith, z)))))
  need_first n _ (up k low high) = (k, omega arith, need_next n k low high)
