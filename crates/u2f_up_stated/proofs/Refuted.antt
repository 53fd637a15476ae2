-- Each wrong program of specs/Wrong.antt, and the claim that is false of it, at one input or at a run of a few calls.
use Prim.Native.Nat.{ℕ, ◌^◌, ◌<◌, ◌≤◌}
use mathlib.Core.Path.{◌≡◌, refl, sym, ap}
use mathlib.Core.Bool.{Bool, true, false, true≢false, false≢true}
use mathlib.Core.List.{[], ◌∷◌}
use mathlib.Core.Logic.{inl, inr, ⊎_elim}
use native.Mathlib.Omega.{arith}
use Rattle.outcome.proofs.Laws.{r_gives, gives_same}
use Rattle.outcome.specs.declared.Refusal.TheVariants as Refusal'
use Rattle.u2f_up_stated.specs.Words.{Outcome, R, Gives, None, Some, Presence, Finding}
use Rattle.u2f_up_stated.specs.Moments.{Told, fresh, settle_of, granted_of, checked_of, check_of}
use Rattle.u2f_up_stated.specs.Numbers.{checked_in, granted_in}
use Rattle.u2f_up_stated.specs.History.{Touching, Checking, TooShort, RefusedBy, TouchAccepted, TouchIgnored, TouchFound, NoTouchFound, Call, last_moment, latest_prompt, latest_touch, is_prompt_standing, accepted, unspent, servers, foretold}
use Rattle.u2f_up_stated.specs.Runs.{after, history, done_by}
use Rattle.u2f_up_stated.specs.OneSide.{base, base_by, base_settle_of, base_checked_of}
use Rattle.u2f_up_stated.specs.Terms.{BadWindow, BadSide, BadMoment, NotRefused, HasTouch, HasPrompt, ServesOnce, LiveNumber}
use Rattle.std.specs.Prelude.{Ok, Err}
use Rattle.u2f_up_stated.specs.Claims
use Rattle.u2f_up_stated.specs.Wrong

-- ---- makers
pub refuses_everything : Claims.MakesExactly Wrong.refuses_everything → ⊥
refuses_everything d = r_gives 6 _ (d.makes 1 (⊎_elim (λ z. omega arith) (λ z. omega arith)))

pub takes_zero : Claims.MakesExactly Wrong.takes_zero → ⊥
takes_zero d = r_gives 6 _ (sym ((d.r6 0).1 (inl refl)))

pub takes60001 : Claims.MakesExactly Wrong.takes60001 → ⊥
takes60001 d = r_gives 6 _ (sym ((d.r6 60001).1 (inr (omega arith))))

pub refuses60000 : Claims.MakesExactly Wrong.refuses60000 → ⊥
refuses60000 d = r_gives 6 _ (d.makes 60000 (⊎_elim (λ z. omega arith) (λ z. omega arith)))

pub fresh_side1 : Claims.MakesExactly Wrong.fresh_side1 → ⊥
fresh_side1 d = let z : ◌≡◌ {A = ℕ} 1 0 = ap asker_or0 (d.makes 1 (⊎_elim (λ z. omega arith) (λ z. omega arith))) in omega arith
  where
    asker_or0 : Outcome Presence → ℕ
    asker_or0 (R n) = 0
    asker_or0 (Outcome.Word w) = 0
    asker_or0 (Gives p) = p.asker

-- ---- settlings
r_same : {A : Type 0} {n m : ℕ} → ◌≡◌ {A = Outcome A} (R n) (R m) → n ≡ m
r_same e = cc

-- neither W nor side nor moment is right; then W is
abbrev no_window : Presence
no_window = record { w = 0; prompt = None; touch = None; last = 1; asker = 2 }

abbrev no_side : Presence
no_side = record { w = 100; prompt = None; touch = None; last = 1; asker = 2 }

within : (w : ℕ) → 0 < w → w ≤ 60000 → BadWindow w → ⊥
within w least most = ⊎_elim (λ z. omega arith) (λ z. omega arith)

sided : (s a : ℕ) → s ≤ 1 → a ≤ 1 → BadSide s a → ⊥
sided s a p q = ⊎_elim (λ z. omega arith) (λ z. omega arith)

timely : (last t : ℕ) → last ≤ t → t < 2 ^ 48 → BadMoment last t → ⊥
timely last t late least = ⊎_elim (λ z. omega arith) (λ z. omega arith)

in_range : BadWindow 100 → ⊥
in_range = within 100 (omega arith) (omega arith)

pub r1_first : Claims.SettlesExactly Wrong.r1_first → ⊥
r1_first d = omega (arith, r_same ((d.r6 no_window 0 0).1 (inl refl)))

pub r8_first : Claims.SettlesExactly Wrong.r8_first → ⊥
r8_first d = omega (arith, r_same ((d.r6 no_window 0 0).1 (inl refl)))

pub r8_after_r1 : Claims.SettlesExactly Wrong.r8_after_r1 → ⊥
r8_after_r1 d = omega (arith, r_same ((d.r8 no_side 0 0).1 (in_range, inr (omega arith))))

pub takes_side2 : Claims.SettlesExactly Wrong.takes_side2 → ⊥
takes_side2 d = r_gives 8 _ (sym ((d.r8 (fresh 100) 2 7).1 (in_range, inl (omega arith))))

pub named_side_taken : Claims.SettlesExactly Wrong.named_side_taken → ⊥
named_side_taken d = r_gives 8 _ (sym ((d.r8 (fresh 100) 4294967295 7).1 (in_range, inl (omega arith))))

pub record_side_taken : Claims.SettlesExactly Wrong.record_side_taken → ⊥
record_side_taken d = r_gives 8 _ (sym ((d.r8 no_side 1 7).1 (in_range, inr (omega arith))))

pub takes2to48 : Claims.SettlesExactly Wrong.takes2to48 → ⊥
takes2to48 d = r_gives 1 _ (sym ((d.r1 (fresh 100) 0 (2 ^ 48)).1 (in_range, sided 0 0 (omega arith) (omega arith), inl (omega arith))))

pub refuses_last : Claims.SettlesExactly Wrong.refuses_last → ⊥
refuses_last d = r_gives 1 _ (d.moves (fresh 100) 0 281474976710655 (in_range, sided 0 0 (omega arith) (omega arith), timely 0 281474976710655 (omega arith) (omega arith)))

abbrev later : Presence
later = record { w = 100; prompt = None; touch = None; last = 1; asker = 0 }

pub goes_back : Claims.SettlesExactly Wrong.goes_back → ⊥
goes_back d = r_gives 1 _ (sym ((d.r1 later 0 0).1 (in_range, sided 0 0 (omega arith) (omega arith), inr (omega arith))))

-- ---- touches
passes : (p : Presence) (s t : ℕ) → p.w ≡ 100 → s ≤ 1 → p.asker ≤ 1 → p.last ≤ t → t < 2 ^ 48 → NotRefused p s t
passes p s t w a b c d = (within p.w (omega (arith, w)) (omega (arith, w)), sided s p.asker a b, timely p.last t c d)

yes_same : {a b : Bool} → ◌≡◌ {A = Outcome Bool} (Gives a) (Gives b) → a ≡ b
yes_same e = cc

opened_same : {m n : ℕ} → Some m ≡ Some n → m ≡ n
opened_same e = cc

-- both windows live
abbrev both_live : Presence
both_live = record { w = 100; prompt = Some 5; touch = Some 3; last = 5; asker = 0 }

pub leaves_older : Claims.TouchesExactly Wrong.leaves_older → ⊥
unfolding settle_of
leaves_older d = let z = opened_same (ap (λ (s : Told). s.presence.touch) (d.accepts both_live 7 (passes both_live 0 7 refl (omega arith) (omega arith) (omega arith) (omega arith)) (5, refl, omega arith))) in omega arith

abbrev asked : Presence
asked = record { w = 100; prompt = Some 0; touch = None; last = 0; asker = 0 }

pub window9999 : Claims.TouchesExactly Wrong.window9999 → ⊥
unfolding settle_of
window9999 d = false≢true (yes_same (ap (λ (s : Told). s.outcome) (d.accepts asked 9999 (passes asked 0 9999 refl (omega arith) (omega arith) (omega arith) (omega arith)) (0, refl, omega arith))))

over : (t : ℕ) → 10000 ≤ t → HasPrompt asked t → ⊥
over t late (m, e, h) = let z = opened_same e in omega arith

pub window10001 : Claims.TouchesExactly Wrong.window10001 → ⊥
unfolding settle_of
window10001 d = true≢false (yes_same (ap (λ (s : Told). s.outcome) (d.otherwise asked 10000 (passes asked 0 10000 refl (omega arith) (omega arith) (omega arith) (omega arith)) (over 10000 (omega arith)))))

pub leaves_the_moment : Claims.TouchesExactly Wrong.leaves_the_moment → ⊥
unfolding settle_of granted_of
leaves_the_moment d = let z : ◌≡◌ {A = ℕ} 0 10000 = ap (λ (s : Told). s.presence.last) (d.otherwise asked 10000 (passes asked 0 10000 refl (omega arith) (omega arith) (omega arith) (omega arith)) (over 10000 (omega arith))) in omega arith

closed_open : (m : ℕ) → None ≡ Some m → ⊥
closed_open m x = let z : ◌≡◌ {A = ℕ} 0 1 = cc in omega arith

pub refusal_closes : Claims.TouchesExactly Wrong.refusal_closes → ⊥
unfolding settle_of
refusal_closes d = closed_open 0 (ap (λ (p : Presence). p.prompt) (d.settles.keeps asked (2 ^ 48) 1 refl))

-- side 1 has asked
abbrev asked1 : Presence
asked1 = record { w = 100; prompt = Some 0; touch = None; last = 0; asker = 1 }

pub touch_to0 : Claims.TouchesExactly Wrong.touch_to0 → ⊥
unfolding settle_of
touch_to0 d =
    let z : ◌≡◌ {A = ℕ} 0 1 = ap (λ (s : Told). s.presence.asker) (d.accepts asked1 7 (passes asked1 1 7 refl (omega arith) (omega arith) (omega arith) (omega arith)) (0, refl, omega arith)) in
    omega arith

-- ---- checks
abbrev held : Presence
held = record { w = 100; prompt = None; touch = Some 0; last = 0; asker = 0 }

pub check_keeps : Claims.ChecksExactly Wrong.check_keeps → ⊥
unfolding settle_of
check_keeps d = closed_open 0 (sym (ap (λ (s : Told). s.presence.touch) (d.finds held 0 7 (passes held 0 7 refl (omega arith) (omega arith) (omega arith) (omega arith)) (0, refl, omega arith) refl)))

lapsed : HasTouch held 100 → ⊥
lapsed (m, e, h) = let z = opened_same e in omega arith

pub live_at_the_end : Claims.ChecksExactly Wrong.live_at_the_end → ⊥
unfolding settle_of
live_at_the_end d = true≢false (yes_same (ap (λ (s : Told). s.outcome) (d.prompts held 0 100 (passes held 0 100 refl (omega arith) (omega arith) (omega arith) (omega arith)) lapsed)))

untouched : (t : ℕ) → HasTouch asked t → ⊥
untouched t (m, e, h) = closed_open m e

pub keeps_older_prompt : Claims.ChecksExactly Wrong.keeps_older_prompt → ⊥
unfolding settle_of
keeps_older_prompt d = let z = opened_same (ap (λ (s : Told). s.presence.prompt) (d.prompts asked 0 7 (passes asked 0 7 refl (omega arith) (omega arith) (omega arith) (omega arith)) (untouched 7))) in omega arith

-- side 1 checks beside the live touch of side 0
beside : (check : Presence → (side t : ℕ) → Told) → Claims.ChecksExactly check
    → check held 1 7 ≡ record { outcome = Gives false; presence = record { w = 100; prompt = None; touch = Some 0; last = 7; asker = 0 } }
beside check d = d.other held 1 7 (passes held 1 7 refl (omega arith) (omega arith) (omega arith) (omega arith)) (0, refl, omega arith) (λ e. omega arith)

pub check_serves_other : Claims.ChecksExactly Wrong.check_serves_other → ⊥
unfolding settle_of
check_serves_other d = true≢false (yes_same (ap (λ (s : Told). s.outcome) (beside Wrong.check_serves_other d)))

pub check_prompts_other : Claims.ChecksExactly Wrong.check_prompts_other → ⊥
unfolding settle_of
check_prompts_other d = closed_open 7 (sym (ap (λ (s : Told). s.presence.prompt) (beside Wrong.check_prompts_other d)))

pub check_gives_touch : Claims.ChecksExactly Wrong.check_gives_touch → ⊥
unfolding settle_of
check_gives_touch d = let z : ◌≡◌ {A = ℕ} 1 0 = ap (λ (s : Told). s.presence.asker) (beside Wrong.check_gives_touch d) in omega arith

-- side 1 asks after side 0
pub check_keeps_asker : Claims.ChecksExactly Wrong.check_keeps_asker → ⊥
unfolding settle_of
check_keeps_asker d =
    let z : ◌≡◌ {A = ℕ} 0 1 = ap (λ (s : Told). s.presence.asker) (d.prompts asked 1 7 (passes asked 1 7 refl (omega arith) (omega arith) (omega arith) (omega arith)) (untouched 7)) in
    omega arith

pub moves_again : Claims.FindsExactly Wrong.moves_again → ⊥
unfolding checked_of
moves_again d = let z : ◌≡◌ {A = ℕ} 7 0 = ap (λ (f : Finding). f.presence.last) (d.finds held 0 7 (0, refl, omega arith) refl) in omega arith

-- ---- ask
pub ask_moves : Claims.AsksExactly Wrong.ask_moves → ⊥
unfolding settle_of
ask_moves d = let z : ◌≡◌ {A = ℕ} 7 0 = ap (λ (s : Told). s.presence.last) (d.live asked 7 (passes asked 0 7 refl (omega arith) (omega arith) (omega arith) (omega arith)) (0, refl, omega arith)) in omega arith

-- ---- the record lent as five numbers
pub moment_itself : Claims.StandsExactly Wrong.moment_itself → ⊥
moment_itself d = let z = opened_same ((d.prompt_opened (record { w = 100; prompt = 1; touch = 0; last = 0; asker = 0 }) 0).1 refl) in omega arith

pub asker_of_8_bits : Claims.StandsExactly Wrong.asker_of_8_bits → ⊥
asker_of_8_bits d = let z : ◌≡◌ {A = ℕ} 0 256 = d.asker (record { w = 100; prompt = 0; touch = 0; last = 0; asker = 256 }) in omega arith

pub exchanged : Claims.StandsExactly Wrong.exchanged → ⊥
exchanged d = closed_open 0 ((d.prompt_opened (record { w = 100; prompt = 1; touch = 0; last = 0; asker = 0 }) 0).1 refl)

pub wraps : Claims.NumbersExactly Wrong.wraps → ⊥
wraps d = omega (arith, d.greatest)

pub no_one_more : Claims.NumbersExactly Wrong.no_one_more → ⊥
no_one_more d = let z = d.next 0 (λ e. omega (arith, e)) in omega arith

pub moment_left : Claims.MovesNumbers Wrong.moment_left → ⊥
moment_left d = let z : ◌≡◌ {A = ℕ} 0 7 = ap (λ (p : Presence). p.last) (d (record { w = 100; prompt = 0; touch = 0; last = 0; asker = 0 }) 7) in omega arith

no_number : (w t : ℕ) → LiveNumber 0 w t → ⊥
no_number w t (m, e, h) = omega (arith, e)

-- both windows closed, side 1 checks at 7
pub opens_no_prompt : Claims.ChecksNumbers Wrong.opens_no_prompt → ⊥
opens_no_prompt d = closed_open 7 (ap (λ (f : Finding). f.presence.prompt) (d.prompts (record { w = 100; prompt = 0; touch = 0; last = 0; asker = 0 }) 1 7 (no_number 100 7)))

pub prompts_for_asker : Claims.ChecksNumbers Wrong.prompts_for_asker → ⊥
unfolding checked_in
prompts_for_asker d = let z : ◌≡◌ {A = ℕ} 0 1 = ap (λ (f : Finding). f.presence.asker) (d.prompts (record { w = 100; prompt = 0; touch = 0; last = 0; asker = 0 }) 1 7 (no_number 100 7)) in omega arith

-- beside a touch of side 0, accepted at 0
pub spends_others : Claims.ChecksNumbers Wrong.spends_others → ⊥
spends_others d = true≢false (ap (λ (f : Finding). f.yes) (d.other (record { w = 100; prompt = 0; touch = 1; last = 0; asker = 0 }) 1 7 (0, refl, omega arith) (λ e. omega (arith, e))))

pub leaves_open : Claims.ChecksNumbers Wrong.leaves_open → ⊥
leaves_open d = closed_open 0 (sym (ap (λ (f : Finding). f.presence.touch) (d.finds (record { w = 100; prompt = 0; touch = 1; last = 0; asker = 0 }) 7 (0, refl, omega arith))))

pub check_moves_nothing : Claims.ChecksNumbers Wrong.check_moves_nothing → ⊥
unfolding checked_in
check_moves_nothing d = let z : ◌≡◌ {A = ℕ} 0 7 = ap (λ (f : Finding). f.presence.last) (d.finds (record { w = 100; prompt = 0; touch = 1; last = 0; asker = 0 }) 7 (0, refl, omega arith)) in omega arith

-- a prompt opened at 0, touched at 7
pub leaves_prompt : Claims.TouchesNumbers Wrong.leaves_prompt → ⊥
leaves_prompt d = closed_open 0 (sym (ap (λ (f : Finding). f.presence.prompt) (d.accepts (record { w = 100; prompt = 1; touch = 0; last = 0; asker = 0 }) 7 (0, refl, omega arith))))

pub touch_at_prompt : Claims.TouchesNumbers Wrong.touch_at_prompt → ⊥
touch_at_prompt d = let z = opened_same (ap (λ (f : Finding). f.presence.touch) (d.accepts (record { w = 100; prompt = 1; touch = 0; last = 0; asker = 0 }) 7 (0, refl, omega arith))) in omega arith

pub never_before : Claims.AsOnRecords Wrong.never_before granted_in → ⊥
unfolding checked_of
never_before d = let z = opened_same (ap (λ (f : Finding). f.presence.prompt) (d.check_greatest (fresh 100) 0 (λ (m, e, h). closed_open m e))) in omega arith

-- ---- runs, newest call first
found_not : TouchFound ≡ NoTouchFound → ⊥
found_not e = let z : ◌≡◌ {A = ℕ} 0 1 = cc in omega arith

accepted_not : TouchAccepted ≡ TouchIgnored → ⊥
accepted_not e = let z : ◌≡◌ {A = ℕ} 0 1 = cc in omega arith

abbrev touch : ℕ → Call
touch t = record { role = Touching; moment = t }

abbrev check_on : (side t : ℕ) → Call
check_on s t = record { role = Checking s; moment = t }

abbrev check : ℕ → Call
check t = check_on 0 t

-- one touch, two checks within W: it is named twice
pub keeps_spent : Claims.Demand3 Wrong.keeps_spent → ⊥
unfolding after history servers latest_prompt latest_touch granted_of settle_of
keeps_spent d = let z : 2 ≤ 1 = (d 100 (omega arith) (omega arith) (check 3 ∷ check 2 ∷ touch 1 ∷ check 0 ∷ [])).once 1 in omega arith

-- the check after an accepted touch finds nothing
pub opens_nothing : Claims.Demand3 Wrong.opens_nothing → ⊥
unfolding after history foretold unspent last_moment checked_of settle_of
opens_nothing d = found_not (sym ((d 100 (omega arith) (omega arith) (touch 1 ∷ check 0 ∷ [])).foretells (check 2)))

-- the second touch after one prompt is accepted
pub keeps_prompt : Claims.Demand3 Wrong.keeps_prompt → ⊥
unfolding after history foretold is_prompt_standing latest_prompt latest_touch last_moment checked_of settle_of
keeps_prompt d = accepted_not (((d 100 (omega arith) (omega arith) (touch 1 ∷ check 0 ∷ [])).foretells (touch 2)))

-- the touch at 5 is held, and the window says 0
pub opens_at_prompt : Claims.Demand3 Wrong.opens_at_prompt → ⊥
unfolding after history unspent last_moment checked_of settle_of
opens_at_prompt d =
    let z = opened_same ((d 100 (omega arith) (omega arith) (touch 5 ∷ check 0 ∷ [])).holds (record { number = 1; moment = 5; side = 0 }) 6 (omega arith) refl [] (touch 5 ∷ check 0 ∷ []) refl (omega arith)) in
    omega arith

-- the first touch is found, the second is accepted and not found
pub first_only : Claims.Demand3 Wrong.first_only → ⊥
unfolding after history foretold unspent last_moment settle_of
first_only d = found_not (sym ((d 100 (omega arith) (omega arith) (touch 4 ∷ check 3 ∷ check 2 ∷ touch 1 ∷ check 0 ∷ [])).foretells (check 5)))

-- wireless (1) asks, a finger touches, and a check of USB (0) spends it
pub other_served : Claims.Demand3 Wrong.other_served → ⊥
unfolding after history foretold unspent last_moment granted_of settle_of
other_served d = found_not ((d 100 (omega arith) (omega arith) (touch 1 ∷ check_on 1 0 ∷ [])).foretells (check 2))

-- and USB, for which no touch was accepted, has spent one
pub other_served_totals : Claims.Demand3 Wrong.other_served → ⊥
unfolding after history accepted unspent last_moment latest_prompt granted_of settle_of
other_served_totals d = let z : ◌≡◌ {A = ℕ} 0 1 = (d 100 (omega arith) (omega arith) (check 2 ∷ touch 1 ∷ check_on 1 0 ∷ [])).side_totals 0 in omega arith

-- side 2 asks, and the touch is of neither side
pub asks2 : Claims.Demand3 Wrong.asks2 → ⊥
unfolding after history accepted last_moment latest_prompt unspent granted_of checked_of
asks2 d = let z : ◌≡◌ {A = ℕ} 1 0 = (d 100 (omega arith) (omega arith) (touch 1 ∷ check_on 2 0 ∷ [])).two_sides in omega arith

-- a touch is lost, and another accepted: the history holds two
pub opens_nothing_holds : Claims.Demand3 Wrong.opens_nothing → ⊥
unfolding after history unspent last_moment latest_prompt checked_of settle_of
opens_nothing_holds d = let z : 2 ≤ 1 = (d 100 (omega arith) (omega arith) (touch 3 ∷ check 2 ∷ touch 1 ∷ check 0 ∷ [])).one_held in omega arith

-- the 6985 of USB beside that touch opens a prompt: one more touch is accepted
pub other_prompts : Claims.Demand3 Wrong.other_prompts → ⊥
unfolding after history foretold is_prompt_standing latest_prompt latest_touch last_moment granted_of settle_of
other_prompts d = accepted_not ((d 100 (omega arith) (omega arith) (check 2 ∷ touch 1 ∷ check_on 1 0 ∷ [])).foretells (touch 3))

-- or it gives USB the touch
pub given_to_checker : Claims.Demand3 Wrong.given_to_checker → ⊥
unfolding after history foretold unspent last_moment granted_of settle_of
given_to_checker d = found_not ((d 100 (omega arith) (omega arith) (check 2 ∷ touch 1 ∷ check_on 1 0 ∷ [])).foretells (check 3))

-- wireless asks and is not the asker: the touch is not its own
pub asker_kept : Claims.Demand3 Wrong.asker_kept → ⊥
unfolding after history foretold unspent last_moment granted_of settle_of
asker_kept d = found_not (sym ((d 100 (omega arith) (omega arith) (touch 1 ∷ check_on 1 0 ∷ [])).foretells (check_on 1 2)))

-- nor is it on a run of its own
pub asker_kept_alone : Claims.OneSideIsBase Wrong.asker_kept base → ⊥
unfolding after granted_of settle_of base_by base_settle_of base_checked_of
asker_kept_alone d =
    let z : ◌≡◌ {A = Outcome Bool} (Gives false) (Gives true) = (d 100 (omega arith) (omega arith) 1 (omega arith) (touch 1 ∷ check_on 1 0 ∷ []) (tt, (refl, tt))).1 (check_on 1 2) refl in
    false≢true (yes_same z)

-- a check of side 2 at 0, after one at 7
pub r8_last : Claims.Demand3 Wrong.r8_last → ⊥
unfolding after history foretold last_moment checked_of settle_of
r8_last d = omega (arith, number_same ((d 100 (omega arith) (omega arith) (check 7 ∷ [])).foretells (check_on 2 0)))
  where
    number_same : {n m : ℕ} → RefusedBy n ≡ RefusedBy m → n ≡ m
    number_same e = cc

-- what stands for the base: a live touch that is not side 0's, a record with side 2
pub base_asks_whose : Claims.BaseExactly base_settle_of Wrong.base_asks_whose → ⊥
unfolding checked_of
base_asks_whose d = false≢true (ap (λ (f : Finding). f.yes) (d.finds (record { w = 100; prompt = None; touch = Some 0; last = 0; asker = 1 }) 7 (0, refl, omega arith)))

pub base_looks_at_side : Claims.BaseExactly Wrong.base_looks_at_side base_checked_of → ⊥
unfolding settle_of
base_looks_at_side d = r_gives 8 _ (d.moves no_side 7 in_range (timely 1 7 (omega arith) (omega arith)))

-- a check that serves the other side is the base's on a lent record too
pub lent_record_served : Claims.LentRecordDiffers Wrong.check_serves_other (base_by (Checking 1)) → ⊥
unfolding settle_of
lent_record_served d = true≢false (yes_same d.sided)

pub refuses_all : Claims.Demand3 Wrong.refuses_all → ⊥
unfolding after history last_moment
refuses_all d = ⊎_elim (λ z. omega arith) (λ z. omega arith) (((d 100 (omega arith) (omega arith) []).refuses (check 0)).0 refl).1

-- R2 at 7, and then R1 at 3
pub short_moves : Claims.Demand3 Wrong.short_moves → ⊥
unfolding after history last_moment done_by check_of settle_of
short_moves d = ⊎_elim (λ z. omega arith) (λ z. omega arith) (((d 100 (omega arith) (omega arith) (record { role = TooShort 0; moment = 7 } ∷ [])).refuses (check 3)).0 refl).1

-- a history that no program here made
pub served_twice : ServesOnce 100 Wrong.served_twice → ⊥
unfolding servers latest_prompt latest_touch
served_twice once = let z : 2 ≤ 1 = once 1 in omega arith

-- views
pub yes_for_no : Claims.AnswerExactly Wrong.yes_for_no → ⊥
yes_for_no v = false≢true (yes_same ((v.yes (Ok true)).1 refl))

pub always_r1 : Claims.AnswerExactly Wrong.always_r1 → ⊥
always_r1 v = let z : ◌≡◌ {A = ℕ} 1 6 = r_same ((v.refused (Err Refusal'.R6) Refusal'.R6).1 refl) in omega arith

pub record_at_zero : Claims.ReadyExactly Wrong.record_at_zero → ⊥
record_at_zero v = let z : ◌≡◌ {A = ℕ} 0 7 = ap (λ (p : Presence). p.last) (gives_same _ _ ((v.made (Ok (record { w = 100; prompt = None; touch = None; last = 7; asker = 0 })) _).1 refl)) in omega arith

pub step_yes_for_no : Claims.StepExactly Wrong.step_yes_for_no → ⊥
step_yes_for_no v = false≢true (yes_same (((v.answer (fresh 100)).yes (Ok true)).1 refl))

pub step_forgets : Claims.StepExactly Wrong.step_forgets → ⊥
step_forgets v =
    let z : ◌≡◌ {A = ℕ} 0 7 = ap (λ (p : Presence). p.last) (v.after (record { answer = Ok true; presence = record { w = 100; prompt = None; touch = None; last = 7; asker = 0 } })) in
    omega arith
