-- Demand 3, of every way of calling that does to the record only what its roles say.
use Prim.Native.Nat.{ℕ, ◌<◌, ◌≤◌}
use mathlib.Core.Path.{◌≡◌, refl, sym, ap, ◌∙◌}
use mathlib.Core.Bool.{true, false}
use mathlib.Core.List.{List, [], ◌∷◌, ◌++◌}
use mathlib.Core.Logic.{◌↔◌}
use mathlib.Core.Option.{some}
use native.Mathlib.Omega.{arith}
use lib.ListN.{length}
use borrow.Author.Tests.{le-ltb}
use Rattle.u2f_up_stated.specs.Words.{Some, Presence}
use Rattle.u2f_up_stated.specs.Moments.{is_r6}
use Rattle.u2f_up_stated.specs.History.{Role, Touching, Checking, TouchFound, Event, Mark, side_of, is_of, last_moment, held_at, held_for, server_of, foretold}
use Rattle.u2f_up_stated.specs.Terms.{RefusedAt, NamesBadSide}
use Rattle.u2f_up_stated.specs.Runs.{Caller, Keeps, after, comes_to, history}
use Rattle.u2f_up_stated.specs.FreshRuns.{RunOf}
use Rattle.u2f_up_stated.specs.Claims.{Demand3}
use Rattle.u2f_up_stated.proofs.Cases.{r6_above}
use Rattle.u2f_up_stated.proofs.Demand as Demand
use Rattle.u2f_up_stated.proofs.Exactly as Exactly
use Rattle.u2f_up_stated.proofs.Ledger as Ledger
use Rattle.u2f_up_stated.proofs.Served as Served

module _ {D : Type 0} (𝒞 : Caller D) (keeping : Keeps 𝒞) (w : ℕ) (within : is_r6 w ≡ false) (ds : List D) where
  abbrev past : List Event
  past = history 𝒞 w ds

  abbrev moment : D → ℕ
  moment d = (𝒞.as_call d).moment

  -- what is foretold of a call of a given role
  foretold_as : (d : D) (k : Role) → (𝒞.as_call d).role ≡ k → comes_to 𝒞 w ds d ≡ foretold w past (record { role = k; moment = moment d })
  foretold_as d k e = Demand.foretells 𝒞 keeping w within ds d ∙ ap (λ j. foretold w past (record { role = j; moment = moment d })) e

  foretold_own : (d : D) → comes_to 𝒞 w ds d ≡ foretold w past (record { role = (𝒞.as_call d).role; moment = moment d })
  foretold_own d = foretold_as d (𝒞.as_call d).role refl

  finds : (d : D) (s : ℕ) (k : Role) → (𝒞.as_call d).role ≡ k → k ≡ Checking s → (comes_to 𝒞 w ds d ≡ TouchFound)
      ↔ ((NamesBadSide k → ⊥) × (RefusedAt past (moment d) → ⊥) × ((m : Mark) × (held_for w past s (moment d) ≡ m ∷ [])))
  finds d s k e f =
      let g = Exactly.finds w past (moment d) (comes_to 𝒞 w ds d) s (Demand.one_found_at 𝒞 keeping w within ds s (moment d)) (foretold_as d (Checking s) (e ∙ f)) in
      rw f g

  serves : (d : D) → comes_to 𝒞 w ds d ≡ TouchFound
      → (k : Mark) × (server_of w past ≡ some k) × (held_at w past (moment d) ≡ k ∷ []) × ((𝒞.as_call d).role ≡ Checking k.side)
  serves d y =
      let k = Demand.served_by 𝒞 keeping w within ds d y in
      let s = Exactly.checks w past (moment d) (comes_to 𝒞 w ds d) (𝒞.as_call d).role (foretold_own d) y in
      let own : k.0.side ≡ s.0 = k.3 ∙ ap side_of s.1 in
      (k.0, k.1, k.2, s.1 ∙ ap Checking (sym own))

  holds : (k : Mark) (t : ℕ) → last_moment past ≤ t → held_at w past t ≡ k ∷ []
      → (later earlier : List D) → ds ≡ later ++ earlier → k.number < length earlier → (after 𝒞 w earlier).touch ≡ Some k.moment
  holds k t late l later earlier e n = Demand.holds 𝒞 keeping w within later earlier k t (rw e at late) (rw e at l) n

  met : RunOf 𝒞 w ds
  met = record {
    foretells = Demand.foretells 𝒞 keeping w within ds;
    refuses_side = λ d. Exactly.refuses_side w past (moment d) (𝒞.as_call d).role (comes_to 𝒞 w ds d) (foretold_own d);
    refuses = λ d. Exactly.refuses w past (moment d) (𝒞.as_call d).role (comes_to 𝒞 w ds d) (foretold_own d);
    refuses_no_window = λ d. Exactly.refuses_no_window w past (moment d) (𝒞.as_call d).role (comes_to 𝒞 w ds d) (foretold_own d);
    accepts = λ d e. Exactly.accepts w past (moment d) (comes_to 𝒞 w ds d) (foretold_as d Touching e);
    finds = λ d s e. finds d s (𝒞.as_call d).role refl e;
    holds = holds;
    asker = ap (λ (q : Presence). q.asker) (Demand.exact 𝒞 keeping w within ds);
    serves = serves;
    once = Served.serves_once w past (Demand.owned 𝒞 keeping w within ds);
    side_totals = λ s. Ledger.side_totals w past s (Demand.balanced 𝒞 keeping w within (is_of s) ds) (Demand.one_each 𝒞 keeping w within ds);
    two_sides = Ledger.two_sides w past (Demand.two_sided 𝒞 keeping w within ds);
    totals = Ledger.totals w past (Demand.balanced 𝒞 keeping w within (λ _. true) ds) (Demand.one_each 𝒞 keeping w within ds);
    one_held = Demand.one_held_at 𝒞 keeping w within ds (last_moment past) (omega arith);
  }

pub within : (w : ℕ) → 0 < w → w ≤ 60000 → is_r6 w ≡ false
within w least most = sym (r6_above w (omega arith)) ∙ le-ltb 60000 w most

pub demand_3 : {D : Type 0} (𝒞 : Caller D) → Keeps 𝒞 → Demand3 𝒞
demand_3 𝒞 keeping w least most ds = met 𝒞 keeping w (within w least most) ds
