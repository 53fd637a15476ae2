-- Only the definition meets each claim.
use Prim.Native.Nat.{ℕ, zero, suc, ◌<◌, ◌≤◌}
use mathlib.Core.Path.{◌≡◌, refl, sym, ap, ◌∙◌}
use mathlib.Core.List.{List}
use mathlib.Core.Logic.{⊎_elim}
use native.Mathlib.Omega.{arith}
use native.Mathlib.Decide.{ℕ_discrete, dec_le}
use lib.ListN.{length}
use Rattle.outcome.specs.Notation.{Determines, Determines3}
use Rattle.outcome.specs.Outcome.{StatusWord, Outcome, R, Word, Gives}
use Rattle.outcome.proofs.Laws.{r_gives, word_gives}
use Rattle.apdu_stated.specs.Answers.{Says}
use Rattle.apdu_stated.specs.Reading.{read_of}
use Rattle.u2f_up_stated.specs.declared.Presence.{Presence}
use Rattle.ctap1_stated.specs.Words.{Remainder, Inputs, DecisionGives, Body, Ordered, Part, Hardware, DecisionResult}
use Rattle.ctap1_stated.specs.Decision.{decision_of}
use Rattle.ctap1_stated.specs.Session.{remainder_left}
use Rattle.ctap1_stated.specs.Calls.{PanelCall, calls_with}
use Rattle.ctap1_stated.specs.OneSide.{sideless_result}
use Rattle.ctap1_stated.specs.Terms.{Decider, on_side}
use Rattle.u2f_up_stated.specs.OneSide.{OnlySide}
use Rattle.u2f_up_stated.specs.Runs.{after}
use Rattle.ctap1_stated.specs.declared.DecisionAnswer.TheVariants as DecisionAnswer'
use Rattle.ctap1_stated.specs.Claims
use Rattle.ctap1_stated.proofs.Ways.{sound}
use Rattle.ctap1_stated.proofs.Orders.{part_body, part_order}
use Rattle.ctap1_stated.proofs.Theorems.{only_remainder}

pub DecidesExactly : Determines3 Claims.DecidesExactly
DecidesExactly f g F G p t a = sym (sound p t a (f p t a) (F p t a)) ∙ sound p t a (g p t a) (G p t a)

-- the base's decision, where it can be asked: on records of side 0
pub BaseDecidesExactly : (f g : Decider) → Claims.BaseDecidesExactly f → Claims.BaseDecidesExactly g → (p : Presence) (t : ℕ) (a : Inputs) → p.asker ≡ 0 → f p t a ≡ g p t a
BaseDecidesExactly f g F G p t a e =
    let b = on_side 0 a in
    sym (F.any_side p t a 0) ∙ sym (sound p t b (f p t b) (F.row p t b e refl)) ∙ sound p t b (g p t b) (G.row p t b e refl) ∙ G.any_side p t a 0

-- on runs with one side, two decisions that are the base's give the same
pub OneSideIsBase : (f g base : Decider) → Claims.OneSideIsBase f base → Claims.OneSideIsBase g base → (w : ℕ) → 0 < w → w ≤ 60000 → (s : ℕ) → s ≤ 1
    → (earlier : List PanelCall) → OnlySide (calls_with f) s earlier → OnlySide (calls_with g) s earlier → (t : ℕ) (a : Inputs) → a.side ≡ s
    → sideless_result (f (after (calls_with f) w earlier) t a) ≡ sideless_result (g (after (calls_with g) w earlier) t a)
OneSideIsBase f g base F G w least most s one earlier only also t a e = F.decisions w least most s one earlier only t a e ∙ sym (G.decisions w least most s one earlier also t a e)

-- what a buffer of the decision's room holds afterwards
pub RepliesExactly : (decide : Decider) (f g : DecisionResult → List ℕ → List ℕ) → Claims.RepliesExactly decide f → Claims.RepliesExactly decide g
    → (p : Presence) (t : ℕ) (a : Inputs) (old : List ℕ) → length old ≡ a.room → f (decide p t a) old ≡ g (decide p t a) old
RepliesExactly decide f g F G p t a old long =
    ⊎_elim
    (λ x. ⊎_elim (λ y. x.2 ∙ sym y.2) (λ y. absurd (y.0 6 x.0)) (G p t a old long))
    (λ x. ⊎_elim (λ y. absurd (x.0 6 y.0)) (λ y. x.1 ∙ sym y.1) (G p t a old long))
    (F p t a old long)

-- ---- a body in parts
pub LimitsExactly : Determines Claims.LimitsExactly
LimitsExactly f g p q frame = by (read_of frame) refl
  where
    shaped : (said : Says) → read_of frame ≡ Gives said → Dec (said.shape ≤ 4) → Dec (said.le ≡ 0) → f frame ≡ g frame
    shaped said r (yes s) (yes e) = p.absent frame said r s e ∙ sym (q.absent frame said r s e)
    shaped said r (yes s) (no e) = p.given frame said r s e ∙ sym (q.given frame said r s e)
    shaped said r (no s) e = p.extended frame said r (omega arith) ∙ sym (q.extended frame said r (omega arith))

    none : (o : Outcome Says) → read_of frame ≡ o → ((said : Says) → o ≡ Gives said → ⊥) → f frame ≡ g frame
    none o r x = p.no_shape frame (λ said e. x said (sym r ∙ e)) ∙ sym (q.no_shape frame (λ said e. x said (sym r ∙ e)))

    by : (o : Outcome Says) → read_of frame ≡ o → f frame ≡ g frame
    by (R n) r = none (R n) r (λ said e. r_gives _ _ e)
    by (Word s) r = none (Word s) r (λ said e. word_gives _ _ e)
    by (Gives said) r = shaped said r (dec_le said.shape 4) (ℕ_discrete said.le 0)

-- of every decision that the definition makes
pub RemainderExactly : (f g : Inputs → DecisionResult → Remainder) → Claims.RemainderExactly decision_of f → Claims.RemainderExactly decision_of g
    → (p : Presence) (t : ℕ) (a : Inputs) → f a (decision_of p t a) ≡ g a (decision_of p t a)
RemainderExactly f g F G p t a = sym (same f F) ∙ same g G
  where
    same : (h : Inputs → DecisionResult → Remainder) → Claims.RemainderExactly decision_of h → remainder_left a (decision_of p t a) ≡ h a (decision_of p t a)
    same h H = only_remainder h H p t a

pub PartsExactly : (limit : List ℕ → ℕ) (f g : Inputs → DecisionResult → (body old : List ℕ) → List ℕ) → Claims.PartsExactly decision_of limit f → Claims.PartsExactly decision_of limit g
    → (p : Presence) (t : ℕ) (a : Inputs) (body old : List ℕ) → f a (decision_of p t a) body old ≡ g a (decision_of p t a) body old
PartsExactly limit f g F G p t a body old = by (decision_of p t a).answer refl
  where
    other : ((n : ℕ) (after : Remainder) → (decision_of p t a).answer ≡ Gives (Part n after) → ⊥) → f a (decision_of p t a) body old ≡ g a (decision_of p t a) body old
    other n = F.other p t a body old n ∙ sym (G.other p t a body old n)

    by : (o : Outcome DecisionGives) → (decision_of p t a).answer ≡ o → f a (decision_of p t a) body old ≡ g a (decision_of p t a) body old
    by (R n) e = other (λ m after x. r_gives _ _ (sym e ∙ x))
    by (Word s) e = other (λ m after x. word_gives _ _ (sym e ∙ x))
    by (Gives (Body n)) e = other (λ m after x. part_body _ _ _ (sym x ∙ e))
    by (Gives Ordered) e = other (λ m after x. part_order _ _ (sym x ∙ e))
    by (Gives (Part n after)) e = F.part p t a body old n after e ∙ sym (G.part p t a body old n after e)

-- ---- the hardware's answers by their numbers
pub AllowedNumbers : Determines Claims.AllowedNumbers
AllowedNumbers f g p q zero = p.refused ∙ sym q.refused
AllowedNumbers f g p q (suc zero) = p.granted ∙ sym q.granted
AllowedNumbers f g p q (suc (suc n)) = p.failed (suc (suc n)) (omega arith) ∙ sym (q.failed (suc (suc n)) (omega arith))

pub AttestationNumbers : Determines Claims.AttestationNumbers
AttestationNumbers f g p q zero = p.missing ∙ sym q.missing
AttestationNumbers f g p q (suc zero) = p.present ∙ sym q.present
AttestationNumbers f g p q (suc (suc n)) = p.failed (suc (suc n)) (omega arith) ∙ sym (q.failed (suc (suc n)) (omega arith))

pub YesNumbers : Determines Claims.YesNumbers
YesNumbers f g p q n = by_number (ℕ_discrete n 1)
  where
    by_number : Dec (n ≡ 1) → f n ≡ g n
    by_number (yes e) = ap f e ∙ p.granted ∙ sym q.granted ∙ sym (ap g e)
    by_number (no e) = p.other n e ∙ sym (q.other n e)

hardware_equal : (a b : Hardware) → a.allowed ≡ b.allowed → a.stored ≡ b.stored → a.attestation ≡ b.attestation → a.good ≡ b.good
    → a.counter ≡ b.counter → a ≡ b
hardware_equal a b l s t g c = λ d. record { allowed = l d; stored = s d; attestation = t d; good = g d; counter = c d }

pub HardwareNumbers : Determines Claims.HardwareNumbers
HardwareNumbers f g p q n =
    hardware_equal (f n) (g n) (p.allowed n ∙ sym (q.allowed n)) (by_stored (ℕ_discrete n.stored 1)) (p.attestation n ∙ sym (q.attestation n)) (by_good (ℕ_discrete n.good 1)) (by_counted (ℕ_discrete n.counted 1))
  where
    by_stored : Dec (n.stored ≡ 1) → (f n).stored ≡ (g n).stored
    by_stored (yes e) = p.stored n e ∙ sym (q.stored n e)
    by_stored (no e) = p.not_stored n e ∙ sym (q.not_stored n e)

    by_good : Dec (n.good ≡ 1) → (f n).good ≡ (g n).good
    by_good (yes e) = p.good n e ∙ sym (q.good n e)
    by_good (no e) = p.not_good n e ∙ sym (q.not_good n e)

    by_counted : Dec (n.counted ≡ 1) → (f n).counter ≡ (g n).counter
    by_counted (yes e) = p.offered n e ∙ sym (q.offered n e)
    by_counted (no e) = p.failed n e ∙ sym (q.failed n e)

-- what the answer says
pub SaidExactly : Determines Claims.SaidExactly
SaidExactly f g F G (DecisionAnswer'.Refused why) = (F.refused _ why).1 refl ∙ sym ((G.refused _ why).1 refl)
SaidExactly f g F G (DecisionAnswer'.Status number kind place) =
    let w : StatusWord = record { number = number; kind = kind; place = place } in
    (F.status (DecisionAnswer'.Status number kind place) w).1 refl ∙ sym ((G.status (DecisionAnswer'.Status number kind place) w).1 refl)
SaidExactly f g F G (DecisionAnswer'.Body n) = (F.body _ n).1 refl ∙ sym ((G.body _ n).1 refl)
SaidExactly f g F G DecisionAnswer'.Order = (F.ordered _).1 refl ∙ sym ((G.ordered _).1 refl)
SaidExactly f g F G (DecisionAnswer'.Part n after) = (F.part (DecisionAnswer'.Part n after) n after).1 refl ∙ sym ((G.part (DecisionAnswer'.Part n after) n after).1 refl)
