-- The claims of specs/Claims.antt, each under its own name.
use Prim.Native.Nat.{ℕ}
use mathlib.Core.Path.{◌≡◌, refl, sym, ap, ap₂, subst, ◌∙◌}
use mathlib.Core.Bool.{Bool}
use native.Mathlib.Omega.{arith}
use borrow.Author.Tests.{eq-eqb, ne_eqb}
use Rattle.outcome.specs.Notation.{when◌then◌else◌}
use Rattle.outcome.proofs.Laws.{r_gives, both_are}
use Rattle.u2f_up_stated.specs.Words.{Outcome, R, Word, Gives, Presence, PresenceRecord}
use Rattle.u2f_up_stated.specs.Answers.{Answer, Step, ready_of, outcome_of, told_of}
use Rattle.u2f_up_stated.specs.Moments.{is_r6, fresh, is_prompting, new_of, moved_to, settle_of, granted_of, checked_of, gave, on_settled, touch_of, check_of, ask_of}
use Rattle.u2f_up_stated.specs.Numbers.{presence_in, number_of, checked_in, granted_in}
use Rattle.u2f_up_stated.specs.History.{Checking}
use Rattle.u2f_up_stated.specs.Runs.{own}
use Rattle.u2f_up_stated.specs.OneSide.{base, base_by, base_settle_of, base_checked_of}
use Rattle.u2f_up_stated.specs.Terms.{BadWindow, BadSide, BadMoment}
use Rattle.u2f_up_stated.specs.Claims
use Rattle.u2f_up_stated.proofs.Ways.{bad_window, is_r6_lem, not_r6, is_r1_lem, not_r1, settle_r6, settle_r8, settle_r1, settle_moves, SettleWay, settle_way, settles_first, r_apart, window_live, window_over}
use Rattle.u2f_up_stated.proofs.Ways
use Rattle.u2f_up_stated.proofs.Numbers.{ready_apart, answer_apart, step_apart}
use Rattle.u2f_up_stated.proofs.OnNumbers.{closed_is, closed_back, opened_after, opened_back, next_is, number_live, number_over, checked_not_greatest, granted_not_greatest, five_apart}
use Rattle.u2f_up_stated.proofs.Keepers.{demand_3}
use Rattle.u2f_up_stated.proofs.OneSide.{one_side}

-- ---- each call
pub MakesExactly : Claims.MakesExactly new_of
unfolding new_of
MakesExactly = record {
  r6 = λ w. (λ e. due w (bad_window w) e, λ b. rw (is_r6_lem w b));
  makes = λ w g. rw (not_r6 w g);
}
  where
    due : (w : ℕ) → Dec (BadWindow w) → (when is_r6 w then R 6 else Gives (fresh w)) ≡ R 6 → BadWindow w
    due w (yes b) e = b
    due w (no g) e = absurd (r_gives 6 (fresh w) (sym e ∙ rw (not_r6 w g)))

pub SettlesExactly : Claims.SettlesExactly settle_of
SettlesExactly = record {
  r6 = λ p s t. (λ e. r6_due p s t (settle_of p s t) (settle_way p s t) e, settle_r6 p s t);
  r8 = λ p s t. (λ e. r8_due p s t (settle_of p s t) (settle_way p s t) e, λ b. settle_r8 p s t b.0 b.1);
  r1 = λ p s t. (λ e. r1_due p s t (settle_of p s t) (settle_way p s t) e, λ b. settle_r1 p s t b.0 b.1 b.2);
  moves = settle_moves;
}
  where
    r6_due : (p : Presence) (s t : ℕ) (o : Outcome Presence) → SettleWay p s t o → o ≡ R 6 → BadWindow p.w
    r6_due p s t _ (Ways.r6 b) e = b
    r6_due p s t _ (Ways.r8 g b) e = absurd (r_apart 8 6 (omega arith) e)
    r6_due p s t _ (Ways.r1 g h b) e = absurd (r_apart 1 6 (omega arith) e)
    r6_due p s t _ (Ways.moves ok) e = absurd (r_gives _ _ (sym e))

    r8_due : (p : Presence) (s t : ℕ) (o : Outcome Presence) → SettleWay p s t o → o ≡ R 8 → (BadWindow p.w → ⊥) × BadSide s p.asker
    r8_due p s t _ (Ways.r6 b) e = absurd (r_apart 6 8 (omega arith) e)
    r8_due p s t _ (Ways.r8 g b) e = (g, b)
    r8_due p s t _ (Ways.r1 g h b) e = absurd (r_apart 1 8 (omega arith) e)
    r8_due p s t _ (Ways.moves ok) e = absurd (r_gives _ _ (sym e))

    r1_due : (p : Presence) (s t : ℕ) (o : Outcome Presence) → SettleWay p s t o → o ≡ R 1 → (BadWindow p.w → ⊥) × (BadSide s p.asker → ⊥) × BadMoment p.last t
    r1_due p s t _ (Ways.r6 b) e = absurd (r_apart 6 1 (omega arith) e)
    r1_due p s t _ (Ways.r8 g b) e = absurd (r_apart 8 1 (omega arith) e)
    r1_due p s t _ (Ways.r1 g h b) e = (g, h, b)
    r1_due p s t _ (Ways.moves ok) e = absurd (r_gives _ _ (sym e))

pub TouchesExactly : Claims.TouchesExactly touch_of
unfolding touch_of granted_of
TouchesExactly = record {
  settles = settles_first (λ p. p.asker) (λ p t q. gave (granted_of q t)) (λ p t q. ((granted_of q t).yes, refl));
  accepts = λ p t ok h. rw (settle_moves p p.asker t ok, window_live p.prompt 10000 t h);
  otherwise = λ p t ok h. rw (settle_moves p p.asker t ok, window_over p.prompt 10000 t h);
}

pub ChecksExactly : Claims.ChecksExactly check_of
unfolding check_of checked_of
ChecksExactly = record {
  settles = λ s. settles_first (λ p. s) (λ p t q. gave (checked_of q s t)) (λ p t q. ((checked_of q s t).yes, refl));
  finds = λ p s t ok h o. rw (settle_moves p s t ok, window_live p.touch p.w t h, eq-eqb p.asker s o);
  other = λ p s t ok h o. rw (settle_moves p s t ok, window_live p.touch p.w t h, ne_eqb p.asker s o);
  prompts = λ p s t ok h. rw (settle_moves p s t ok, window_over p.touch p.w t h);
}

pub FindsExactly : Claims.FindsExactly checked_of
unfolding checked_of
FindsExactly = record {
  finds = λ p s t h o. rw (window_live p.touch p.w t h, eq-eqb p.asker s o);
  other = λ p s t h o. rw (window_live p.touch p.w t h, ne_eqb p.asker s o);
  prompts = λ p s t h. rw (window_over p.touch p.w t h);
}

pub AsksExactly : Claims.AsksExactly ask_of
unfolding ask_of
AsksExactly = record {
  settles = settles_first (λ p. p.asker) (λ p t q. record { outcome = Gives (is_prompting p t); presence = p }) (λ p t q. (is_prompting p t, refl));
  live = λ p t ok h. rw (settle_moves p p.asker t ok, window_live p.prompt 10000 t h);
  not_live = λ p t ok h. rw (settle_moves p p.asker t ok, window_over p.prompt 10000 t h);
}

-- ---- the record lent as five numbers
pub StandsExactly : Claims.StandsExactly presence_in
StandsExactly = record {
  w = λ n. refl;
  prompt_closed = λ n. (closed_back n.prompt, λ e. sym (closed_is n.prompt e));
  prompt_opened = λ n m. (opened_back n.prompt m, opened_after n.prompt m);
  touch_closed = λ n. (closed_back n.touch, λ e. sym (closed_is n.touch e));
  touch_opened = λ n m. (opened_back n.touch m, opened_after n.touch m);
  last = λ n. refl;
  asker = λ n. refl;
}

pub NumbersExactly : Claims.NumbersExactly number_of
NumbersExactly = record { next = λ t n. sym (next_is t n); greatest = refl }

pub MovesNumbers : Claims.MovesNumbers (λ n t. moved_to (presence_in n) t)
MovesNumbers n t = refl

pub ChecksNumbers : Claims.ChecksNumbers (λ n s t. checked_in (moved_to (presence_in n) t) s t)
unfolding checked_in
ChecksNumbers = record {
  finds = λ n t h. rw (number_live n.touch n.w t h, eq-eqb n.asker n.asker refl);
  other = λ n s t h o. rw (number_live n.touch n.w t h, ne_eqb n.asker s o);
  prompts = λ n s t h. rw (number_over n.touch n.w t h);
}

pub TouchesNumbers : Claims.TouchesNumbers (λ n t. granted_in (moved_to (presence_in n) t) t)
unfolding granted_in
TouchesNumbers = record {
  accepts = λ n t h. rw (number_live n.prompt 10000 t h);
  otherwise = λ n t h. rw (number_over n.prompt 10000 t h);
}

pub AsOnRecords : Claims.AsOnRecords checked_in granted_in
unfolding checked_in checked_of granted_in granted_of
AsOnRecords = record {
  check = checked_not_greatest;
  check_live = λ p s t h. rw (window_live p.touch p.w t h);
  check_greatest = λ p s h. rw (window_over p.touch p.w 0xffffffffffffffff h);
  touch = granted_not_greatest;
  touch_not_live = λ p t h. rw (window_over p.prompt 10000 t h);
  touch_greatest = λ p h. rw (window_live p.prompt 10000 0xffffffffffffffff h);
}

-- ---- demand 3
pub Demand3 : Claims.Demand3 own
Demand3 = demand_3 own (λ p c. refl)

-- ---- one side
pub BaseExactly : Claims.BaseExactly base_settle_of base_checked_of
unfolding base_settle_of base_checked_of
BaseExactly = record {
  r6 = λ p t b. rw (is_r6_lem p.w b);
  r1 = λ p t g b. rw (not_r6 p.w g, is_r1_lem p.last t b);
  moves = λ p t g h. rw (not_r6 p.w g, not_r1 p.last t h);
  finds = λ p t h. rw (window_live p.touch p.w t h);
  prompts = λ p t h. rw (window_over p.touch p.w t h);
}

pub OneSideIsBase : Claims.OneSideIsBase own base
OneSideIsBase = one_side own base (λ p c. refl) (λ p c. refl) (λ c. refl)

pub LentRecordDiffers : Claims.LentRecordDiffers check_of (base_by (Checking 1))
unfolding check_of settle_of checked_of base_by base_settle_of base_checked_of
LentRecordDiffers = record { sided = refl; base = refl }

-- ---- what the answers say
pub AnswerExactly : Claims.AnswerExactly outcome_of
AnswerExactly = record {
  refused = λ a why. (answer_apart _ _, ap outcome_of);
  yes = λ a. (answer_apart _ _, ap outcome_of);
  no = λ a. (answer_apart _ _, ap outcome_of);
}

pub ReadyExactly : Claims.ReadyExactly ready_of
ReadyExactly = record {
  refused = λ r why. (ready_apart _ _, ap ready_of);
  made = λ r p. (ready_apart _ _, ap ready_of);
}

pub StepExactly : Claims.StepExactly told_of
StepExactly = record { answer = λ p. AnswerExactly; after = λ s. refl }

-- ---- the contracts: a function that gives what a definition gives, input by input, is that definition
ask_keeps : (p : Presence) (t : ℕ) → (ask_of p t).presence ≡ p
unfolding ask_of
ask_keeps p t = go (settle_of p p.asker t)
  where
    go : (o : Outcome Presence) → (on_settled p o (λ q. record { outcome = Gives (is_prompting p t); presence = p })).presence ≡ p
    go (R n) = refl
    go (Word s) = refl
    go (Gives q) = refl

pub ContractsAsClaimed : Claims.ContractsAsClaimed
ContractsAsClaimed = record {
  new = λ f is. subst Claims.MakesExactly (λ d w. sym (is w) d) MakesExactly;
  settle = λ f is. subst Claims.SettlesExactly (λ d p s t. sym (is p s t) d) SettlesExactly;
  touch_check = λ f is. subst Claims.FindsExactly (λ d p s t. sym (is p s t) d) FindsExactly;
  grant_up = λ f is. subst Claims.TouchesExactly (λ d p t. sym (is p t) d) TouchesExactly;
  consume_up = λ f is. subst Claims.ChecksExactly (λ d p s t. sym (is p s t) d) ChecksExactly;
  is_up_needed = λ f is. subst Claims.AsksExactly (λ d p t. record { outcome = sym (is p t) d; presence = ask_keeps p t d }) AsksExactly;
  grant_up_lent = λ f is. subst Claims.TouchesExactly (λ d p t. sym (is p t) d) TouchesExactly;
  consume_up_lent = λ f is. subst Claims.ChecksExactly (λ d p s t. sym (is p s t) d) ChecksExactly;
  is_up_needed_lent = λ f is. subst Claims.AsksExactly (λ d p t. record { outcome = sym (is p t).0 d; presence = (ask_keeps p t ∙ sym (is p t).1) d }) AsksExactly;
  record_lent = λ f is. subst Claims.StandsExactly (λ d n. sym (is n) d) StandsExactly;
  moved = λ f is. subst Claims.MovesNumbers (λ d n t. sym (is n t) d) MovesNumbers;
  touch_checked = λ f is. subst Claims.ChecksNumbers (λ d n s t. record { yes = sym (is n s t).0 d; presence = sym (is n s t).1 d }) ChecksNumbers;
  touch_granted = λ f is. subst Claims.TouchesNumbers (λ d n t. record { yes = sym (is n t).0 d; presence = sym (is n t).1 d }) TouchesNumbers;
}

-- ---- two results are equal
pub ReadyOneToOne : Claims.ReadyOneToOne
ReadyOneToOne = ready_apart

pub AnswerOneToOne : Claims.AnswerOneToOne
AnswerOneToOne = answer_apart

pub StepOneToOne : Claims.StepOneToOne
StepOneToOne = step_apart

-- answer and record at exit, from the step that they make
same_lent : (a b : Answer × Presence) → a.0 ≡ b.0 → a.1 ≡ b.1 → a ≡ b
same_lent a b e f = ap₂ (λ (x : Answer) (q : Presence). (x, q)) e f

lent : (a b : Answer × Presence) → ◌≡◌ {A = Step} (record { answer = a.0; presence = a.1 }) (record { answer = b.0; presence = b.1 }) → a ≡ b
lent a b e = same_lent a b (ap (λ (s : Step). s.answer) e) (ap (λ (s : Step). s.presence) e)

-- what is found, and the numbers at exit
found_and_five : (a b : Bool × PresenceRecord) → a.0 ≡ b.0 → a.1 ≡ b.1 → a ≡ b
found_and_five a b e f = ap₂ (λ (x : Bool) (n : PresenceRecord). (x, n)) e f

pub ResultsDetermined : Claims.ResultsDetermined
ResultsDetermined = record {
  new = λ w a b ha hb. ready_apart a b (both_are _ _ ha hb);
  settle = λ p s t a b ha hb. ready_apart a b (both_are _ _ ha hb);
  touch_check = λ p s t a b. both_are a b;
  grant_up = λ p t a b ha hb. step_apart a b (both_are _ _ ha hb);
  consume_up = λ p s t a b ha hb. step_apart a b (both_are _ _ ha hb);
  is_up_needed = λ p t a b ha hb. answer_apart a b (both_are _ _ ha hb);
  grant_up_lent = λ p t a b ha hb. lent a b (step_apart _ _ (both_are _ _ ha hb));
  consume_up_lent = λ p s t a b ha hb. lent a b (step_apart _ _ (both_are _ _ ha hb));
  is_up_needed_lent = λ p t a b ha hb. same_lent a b (answer_apart a.0 b.0 (both_are _ _ ha.0 hb.0)) (both_are _ _ ha.1 hb.1);
  record_lent = λ n a b. both_are a b;
  moved = λ n t a b ha hb. five_apart a b (both_are _ _ ha hb);
  touch_checked = λ n s t a b ha hb. found_and_five a b (both_are _ _ ha.0 hb.0) (five_apart a.1 b.1 (both_are _ _ ha.1 hb.1));
  touch_granted = λ n t a b ha hb. found_and_five a b (both_are _ _ ha.0 hb.0) (five_apart a.1 b.1 (both_are _ _ ha.1 hb.1));
}
