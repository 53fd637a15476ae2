-- One visit with a frame that asks: nothing goes out and all remains, or the next part goes out as `next` sends it. And what follows for all of them.
use Prim.Native.Nat.{ℕ, ◌+◌, ◌<◌, ◌≤◌}
use mathlib.Core.Path.{◌≡◌, refl, ap, sym, subst, ◌∙◌}
use mathlib.Core.Bool.{Bool, true}
use mathlib.Core.List.{List, [], ◌∷◌, ◌++◌, append_assoc}
use native.Mathlib.Omega.{arith}
use lib.ListN.{length}
use Rattle.outcome.specs.Notation.{when◌then◌else◌}
use Rattle.outcome.specs.Outcome.{Outcome, SW}
use Rattle.apdu_stated.specs.Reading.{read_of}
use Rattle.response_stated.specs.declared.Remainder.{Remainder}
use Rattle.response_stated.specs.Words.{rest}
use Rattle.response_stated.specs.declared.Sent.{Sent}
use Rattle.response_stated.specs.Responses.{response_body_of}
use Rattle.response_stated.specs.Parts.{part_length, rest_after, part_response, part_laid}
use Rattle.response_stated.specs.Terms.{sending_of}
use Rattle.response_stated.specs.Fetching.{Fetch, got, left, remaining, called}
use Rattle.response_stated.proofs.Laws.{next_given, step_within, step_joins, part_some, part_most}
use Rattle.u2f_up_stated.specs.declared.Presence.{Presence}
use Rattle.ctap1_stated.specs.Words.{Inputs, DecisionGives, DecisionResult}
use Rattle.ctap1_stated.specs.Path.{frame_limit}
use Rattle.ctap1_stated.specs.Decision.{decision_of}
use Rattle.ctap1_stated.specs.Session.{is_get_response, remainder_after, remainder_left, part_left}
use Rattle.ctap1_stated.specs.Terms.{Decider, HasInsC0}
use Rattle.ctap1_stated.proofs.Laws.{Asked, is_refused, is_word, is_part, asked}
use Rattle.session_stated.specs.Sessions.{Visit, lent_in, sent_with, part_count, decided_in, sent_in, left_in, joined_over, left_over, parts_over, Each, also, IsFetch}

-- the call of `next` that a visit comes to
abbrev pub fetch : Visit → Fetch
fetch v = record { limit = frame_limit v.lent.frame; buffer = v.buffer }

asks_so : (a : Inputs) → HasInsC0 a → is_get_response (read_of a.frame) ≡ true
asks_so a x = rw (x.1, x.2)

module _ (body : List ℕ) where
  module _ (r : Remainder) (v : Visit) where
    -- what goes out, what is left, how many parts
    pub data Step : List ℕ → Remainder → ℕ → Type 0 where
      keeps : Step [] r 0
      sends : 0 < r.count → r.place + r.count ≤ length body → part_length (frame_limit v.lent.frame) r.count + 2 ≤ length v.buffer
          → Step (got (called sending_of body r (fetch v))) (left r (called sending_of body r (fetch v)).0) 1

    abbrev Came : DecisionResult → Type 0
    Came x = Step (sent_with x.answer (part_left (lent_in body r v) x body v.buffer)) (remainder_left (lent_in body r v) x) (part_count x.answer)

    pub step : IsFetch v → Step (sent_in decision_of remainder_left part_left body r v) (left_in decision_of remainder_left part_left body r v) (part_count (decided_in decision_of remainder_left part_left body r v).answer)
    step asks = by (decided_in decision_of remainder_left part_left body r v) (asked v.presence v.moment (lent_in body r v) asks)
      where
        by : (x : DecisionResult) → Asked v.presence v.moment (lent_in body r v) x → Came x
        by _ (is_refused n) = keeps
        by _ (is_word w q) = rw (asks_so v.lent asks) keeps
        by _ (is_part some within room) =
            subst (λ (o : Outcome Sent). Step (got (o, part_laid o (part_response body r (frame_limit v.lent.frame)) v.buffer)) (left r o) 1)
            (sym (next_given (length body) r (frame_limit v.lent.frame) (length v.buffer) within room)) (sends some within room)

  -- ---- joined
  step_in : (r : Remainder) (v : Visit) {s : List ℕ} {k : Remainder} {n : ℕ} → Step r v s k n → r.place + r.count ≤ length body → k.place + k.count ≤ length body
  step_in r v keeps h = h
  step_in r v (sends some within room) h = step_within body r (fetch v) within

  step_on : (r : Remainder) (v : Visit) {s : List ℕ} {k : Remainder} {n : ℕ} → Step r v s k n → response_body_of s ++ remaining body k ≡ remaining body r
  step_on r v keeps = refl
  step_on r v (sends some within room) = step_joins body r (fetch v) within

  pub within_over : (r : Remainder) (visits : List Visit) → Each IsFetch visits → r.place + r.count ≤ length body
      → (left_over decision_of remainder_left part_left body r visits).place + (left_over decision_of remainder_left part_left body r visits).count ≤ length body
  within_over r [] e h = h
  within_over r (v ∷ visits) (also x e) h = within_over (left_in decision_of remainder_left part_left body r v) visits e (step_in r v (step r v x) h)

  pub joins_over : (r : Remainder) (visits : List Visit) → Each IsFetch visits
      → joined_over decision_of remainder_left part_left body r visits ++ remaining body (left_over decision_of remainder_left part_left body r visits) ≡ remaining body r
  joins_over r [] e = refl
  joins_over r (v ∷ visits) (also x e) =
      append_assoc (response_body_of (sent_in decision_of remainder_left part_left body r v)) _ _
      ∙ ap (λ (l : List ℕ). response_body_of (sent_in decision_of remainder_left part_left body r v) ++ l) (joins_over (left_in decision_of remainder_left part_left body r v) visits e)
      ∙ step_on r v (step r v x)

  -- ---- how many: each part takes a byte at least
  step_takes : (r : Remainder) (v : Visit) {s : List ℕ} {k : Remainder} {n : ℕ} → Step r v s k n → n + k.count ≤ r.count
  step_takes r v keeps = omega arith
  step_takes r v (sends some within room) =
      let limit = frame_limit v.lent.frame in
      let is : (left r (called sending_of body r (fetch v)).0).count ≡ (rest_after r limit).count = ap (λ (o : Outcome Sent). (left r o).count) (sym (next_given (length body) r limit (length v.buffer) within room)) in
      omega (arith, is, part_some limit r.count some, part_most limit r.count)

  pub parts_over_lem : (r : Remainder) (visits : List Visit) → Each IsFetch visits → parts_over decision_of remainder_left part_left body r visits ≤ r.count
  parts_over_lem r [] e = omega arith
  parts_over_lem r (v ∷ visits) (also x e) =
      omega (arith, step_takes r v (step r v x), parts_over_lem (left_in decision_of remainder_left part_left body r v) visits e)

-- ---- with a decision that refuses every C0, nothing goes out and all remains
module _ (decide : Decider) (refuses : (p : Presence) (t : ℕ) (a : Inputs) → HasInsC0 a → (decide p t a).answer ≡ SW 0x6985) (body : List ℕ) where
  module _ (r : Remainder) (v : Visit) (asks : IsFetch v) where
    answer : (decided_in decide remainder_left part_left body r v).answer ≡ SW 0x6985
    answer = refuses v.presence v.moment (lent_in body r v) asks

    none_sent : sent_in decide remainder_left part_left body r v ≡ []
    none_sent = ap (λ (o : Outcome DecisionGives). sent_with o (part_left (lent_in body r v) (decided_in decide remainder_left part_left body r v) body v.buffer)) answer

    all_left : left_in decide remainder_left part_left body r v ≡ r
    all_left = ap (λ (o : Outcome DecisionGives). remainder_after o (is_get_response (read_of v.lent.frame)) r) answer ∙ ap (λ (c : Bool). when c then r else rest 0 0) (asks_so v.lent asks)

  pub refused_over : (r : Remainder) (visits : List Visit) → Each IsFetch visits
      → (joined_over decide remainder_left part_left body r visits ≡ []) × (left_over decide remainder_left part_left body r visits ≡ r)
  refused_over r [] e = (refl, refl)
  refused_over r (v ∷ visits) (also x e) =
      let after = refused_over (left_in decide remainder_left part_left body r v) visits e in (
        ap (λ (s : List ℕ). response_body_of s ++ joined_over decide remainder_left part_left body (left_in decide remainder_left part_left body r v) visits) (none_sent r v x) ∙ after.0,
        after.1 ∙ all_left r v x,
      )
