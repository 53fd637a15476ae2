-- A law for each `return` of the session's functions, with the facts as the code has them. It mentions no function.
use Prim.Native.Nat.{ℕ, ◌+◌}
use mathlib.Core.Path.{◌≡◌, refl, ap, sym, ◌∙◌}
use mathlib.Core.Bool.{Bool, true, false}
use mathlib.Core.List.{List}
use borrow.Author.Tests.{eq-eqb, ne_eqb}
use lib.Dec.{ltb}
use lib.ListN.{length}
use Rattle.outcome.specs.Notation.{when◌then◌else◌}
use Rattle.outcome.specs.Outcome.{Outcome, R, Word, SW, Gives, refusal_no}
use Rattle.outcome.specs.declared.Refusal.{Refusal}
use Rattle.outcome.proofs.Laws.{r_gives}
use Rattle.response_stated.specs.Words.{part_sent}
use Rattle.response_stated.specs.declared.Sent.{Sent}
use Rattle.response_stated.specs.Parts.{part_length, rest_after, next_part_of, part_response, part_laid}
use Rattle.response_stated.specs.declared.Remainder.{Remainder}
use Rattle.response_stated.specs.Words.{NextPart}
use Rattle.std.specs.Prelude.{Ok, Err}
use Rattle.signing_stated.specs.declared.Head.{Head}
use Rattle.signing_stated.specs.Words.{head_of}
use Rattle.signing_stated.specs.Orders.{blank_order}
use Rattle.u2f_up_stated.specs.declared.Presence.{Presence}
use Rattle.ctap1_stated.specs.Words.{DecisionGives, Part, DecisionResult, DecisionHanded, handed_of}
use Rattle.ctap1_stated.proofs.Laws.{alone, handed, with_record, with_head}
use Rattle.ctap1_stated.specs.Path.{sent_path, fetch_path}
use Rattle.ctap1_stated.specs.Decision.{refusal_result, status_result, along, blank_alone}
use Rattle.ctap1_stated.specs.Session.{part_after}

-- ---- a GET RESPONSE that comes so far
never_other : (body_room : ℕ) (k : Remainder) (limit room n : ℕ) → R n ≡ next_part_of body_room k limit room → n ≡ 2
unfolding next_part_of
never_other body_room k limit room n e = by (ltb body_room (k.place + k.count)) (ltb room (part_length limit k.count + 2)) e
  where
    by : (b c : Bool) → ◌≡◌ {A = Outcome Sent} (R n) (when b then R 2 else when c then R 2 else Gives (record { length = part_length limit k.count + 2; remainder = rest_after k limit })) → n ≡ 2
    by true c x = cc
    by false true x = cc
    by false false x = absurd (r_gives _ _ x)

module _ (kept settled : Presence) (k : Remainder) (limit : ℕ) (body old : List ℕ) where
  abbrev fetched : DecisionResult
  fetched = along (fetch_path (length body) k limit (length old)) kept settled 0 0

  abbrev Fetched : DecisionHanded → Type 0
  Fetched r = r ≡ handed_of fetched

  abbrev Laid : List ℕ → Type 0
  Laid new = new ≡ part_after fetched.answer (part_response body k limit) old

  module _ (none : k.count ≡ 0) where
    nothing_is : status_result 0x6985 settled ≡ fetched
    unfolding fetch_path
    nothing_is = rw (eq-eqb k.count 0 none)

    pub nothing_left : (said : Outcome DecisionGives) (top : Head) (used : Bool) (q : Presence) → alone said top used ≡ blank_alone (SW 0x6985) → q ≡ settled → Fetched (handed said top used q)
    nothing_left said top used q e f = with_record said top used _ q settled e f ∙ ap handed_of nothing_is

    pub nothing_kept : Laid old
    nothing_kept = ap (λ (x : DecisionResult). part_after x.answer (part_response body k limit) old) nothing_is

  module _ (more : k.count ≡ 0 → ⊥) (next : NextPart) (is_next : part_sent next ≡ next_part_of (length body) k limit (length old)) where
    sent_is : (n : NextPart) → next ≡ n → along (sent_path (part_sent n)) kept settled 0 0 ≡ fetched
    unfolding fetch_path
    sent_is n z = ap (λ (x : NextPart). along (sent_path (part_sent x)) kept settled 0 0) (sym z) ∙ rw (ne_eqb k.count 0 more, ← is_next)

    pub next_refused : (why : Refusal) (said : Outcome DecisionGives) (top : Head) (used : Bool) → next ≡ Err why → alone said top used ≡ blank_alone (R (refusal_no why))
        → Fetched (handed said top used kept)
    next_refused why said top used z e =
        let two : refusal_no why ≡ 2 = never_other (length body) k limit (length old) (refusal_no why) (ap part_sent (sym z) ∙ is_next) in
        with_record said top used _ kept kept e refl ∙ ap (λ (n : ℕ). handed_of (refusal_result n kept)) two ∙ ap handed_of (sent_is (Err why) z)

    pub next_part : (sent : Sent) (head : Head) (q : Presence) → next ≡ Ok sent → head ≡ head_of blank_order → q ≡ settled
        → Fetched (handed (Gives (Part sent.length sent.remainder)) head false q)
    next_part sent head q z is f =
        let part : Outcome DecisionGives = Gives (Part sent.length sent.remainder) in
        with_record part head false part q settled (with_head part head (head_of blank_order) false is) f ∙ ap handed_of (sent_is (Ok sent) z)

    pub next_laid : (new : List ℕ) → new ≡ part_laid (next_part_of (length body) k limit (length old)) (part_response body k limit) old → Laid new
    unfolding fetch_path
    next_laid new is = is ∙ by (next_part_of (length body) k limit (length old)) ∙ rw (ne_eqb k.count 0 more)
      where
        by : (o : Outcome Sent) → part_laid o (part_response body k limit) old ≡ part_after (along (sent_path o) kept settled 0 0).answer (part_response body k limit) old
        by (R n) = refl
        by (Word s) = refl
        by (Gives sent) = refl
