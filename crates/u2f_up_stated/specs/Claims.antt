-- What is promised of presence beyond the functions' own promises: open this file first. Proved in proofs/Theorems.antt under the
-- same names; proofs/Only.antt shows that no other function meets them, proofs/Refuted.antt that wrong ones do not.
use Rattle.std.specs.Prelude.{List, ◌↔◌, ◌+◌, ◌<◌, ◌≤◌, ◌≡◌}
use Rattle.u2f_up_stated.specs.Words.{ℕ, Bool, true, false, R, Gives, AtMostOne, None, Some, Outcome, Refusal, refusal_no, Presence, PresenceRecord, Finding}
use Rattle.u2f_up_stated.specs.Moments.{Told, checked_of, granted_of}
use Rattle.u2f_up_stated.specs.Numbers.{presence_in, number_of}
use Rattle.u2f_up_stated.specs.Answers.{Ready, Answer, Step, ready_of, outcome_of, told_of, lent_step}
use Rattle.std.specs.Prelude.{Ok, Err}
use Rattle.u2f_up_stated.specs.Promises.{New, Settle, TouchCheck, GrantUp, ConsumeUp, IsUpNeeded, GrantUpLent, ConsumeUpLent, IsUpNeededLent, RecordLent, Moved, TouchChecked, TouchGranted}
use Rattle.u2f_up_stated.specs.Runs.{Caller, after, next}
use Rattle.u2f_up_stated.specs.OneSide.{sideless, NamesOnly, OnlySide}
use Rattle.u2f_up_stated.specs.Terms.{BadWindow, BadSide, BadMoment, NotRefused, HasPrompt, HasTouch, SettlesFirst, LiveNumber}
use Rattle.u2f_up_stated.specs.FreshRuns.{RunOf}

-- ---- each call, on any record

-- Making a record. 01, Moments and touches: "A fresh record is made with a touch window W of 1..60,000, both windows closed and last
-- moment 0"; Refusal numbers, R6: "W is 0 or above 60,000"; 02, E7: the asking side is "0 when fresh". A maker that takes 60,001 (Wrong
-- `takes60001`) or refuses 60,000 (`refuses60000`) fails it there, one whose record has side 1 (`fresh_side1`) at every W.
pub record MakesExactly (new : ℕ → Outcome Presence) : Type 0 where
  pub r6 : (w : ℕ) → (new w ≡ R 6) ↔ BadWindow w
  pub makes : (w : ℕ) → (BadWindow w → ⊥) → new w ≡ Gives (record { w = w; prompt = None; touch = None; last = 0; asker = 0 })

-- Settling the moment, for a call that names a side. 01, Moments and touches: "R6, then R1, before all else"; 02, E7: "R8 for a side other
-- than 0 or 1, named or in the record, after R6 and before R1"; Refusal numbers: "each touch, direct check and decision sets the last
-- moment to t". A settling that gives R1 first (`r1_first`) fails it where R6 is due too, one that gives R8 after R1 (`r8_after_r1`) or
-- before R6 (`r8_first`) where both are; one that takes side 2 (`takes_side2`) fails it there, and one that does not look at the named
-- side (`named_side_taken`) or at the record's (`record_side_taken`); one that takes 2^48 (`takes2to48`) or refuses the moment before it (`refuses_last`) fails it there.
pub record SettlesExactly (settle : Presence → (side t : ℕ) → Outcome Presence) : Type 0 where
  pub r6 : (p : Presence) (s t : ℕ) → (settle p s t ≡ R 6) ↔ BadWindow p.w
  pub r8 : (p : Presence) (s t : ℕ) → (settle p s t ≡ R 8) ↔ ((BadWindow p.w → ⊥) × BadSide s p.asker)
  pub r1 : (p : Presence) (s t : ℕ) → (settle p s t ≡ R 1) ↔ ((BadWindow p.w → ⊥) × (BadSide s p.asker → ⊥) × BadMoment p.last t)
  pub moves : (p : Presence) (s t : ℕ) → NotRefused p s t → settle p s t ≡ Gives (record { w = p.w; prompt = p.prompt; touch = p.touch; last = t; asker = p.asker })

-- Touch. 01, Moments and touches: "Touch (`grant_up`) is accepted when the prompt is live; then the prompt closes and a touch window
-- opens. Otherwise nothing but the last moment moves." 02, E7: "An accepted touch belongs to the asker", so the asker stays. It names no
-- side: R8 is for the record's. The window opens at the touch's moment on every record: a touch that leaves an older live one
-- (`leaves_older`) fails it at a record with both windows live. A prompt window of 9,999 or 10,001 (`window9999`, `window10001`) fails
-- it a moment before and at the end; a touch that is given to side 0 whoever asked (`touch_to0`) fails it where side 1 did.
pub record TouchesExactly (touch : Presence → ℕ → Told) : Type 0 where
  pub settles : SettlesFirst (λ p. p.asker) touch
  pub accepts : (p : Presence) (t : ℕ) → NotRefused p p.asker t → HasPrompt p t
      → touch p t ≡ record { outcome = Gives true; presence = record { w = p.w; prompt = None; touch = Some t; last = t; asker = p.asker } }
  pub otherwise : (p : Presence) (t : ℕ) → NotRefused p p.asker t → (HasPrompt p t → ⊥)
      → touch p t ≡ record { outcome = Gives false; presence = record { w = p.w; prompt = p.prompt; touch = p.touch; last = t; asker = p.asker } }

-- The touch check. 01, Moments and touches: "The touch check (`consume_up`): with a live touch, it is spent; without, a prompt window
-- opens at t, replacing an older one." 02, E7: "A prompting refusal makes its side the asker, in place of any earlier"; "If the other side
-- reaches the touch check while a touch is live, it gets 6985, nothing is opened or spent". A check that keeps the spent touch
-- (`check_keeps`) fails it at any live touch of its side; one that finds a touch at the window's end (`live_at_the_end`) fails it there; one
-- that keeps an older prompt (`keeps_older_prompt`) fails it where both are due; and so do one that serves the other side (`check_serves_other`),
-- one whose 6985 to the other side opens a prompt (`check_prompts_other`) or gives it the touch (`check_gives_touch`), and one that keeps the older asker
-- (`check_keeps_asker`).
pub record ChecksExactly (check : Presence → (side t : ℕ) → Told) : Type 0 where
  pub settles : (s : ℕ) → SettlesFirst (λ p. s) (λ p t. check p s t)
  pub finds : (p : Presence) (s t : ℕ) → NotRefused p s t → HasTouch p t → p.asker ≡ s
      → check p s t ≡ record { outcome = Gives true; presence = record { w = p.w; prompt = p.prompt; touch = None; last = t; asker = p.asker } }
  pub other : (p : Presence) (s t : ℕ) → NotRefused p s t → HasTouch p t → (p.asker ≡ s → ⊥)
      → check p s t ≡ record { outcome = Gives false; presence = record { w = p.w; prompt = p.prompt; touch = p.touch; last = t; asker = p.asker } }
  pub prompts : (p : Presence) (s t : ℕ) → NotRefused p s t → (HasTouch p t → ⊥)
      → check p s t ≡ record { outcome = Gives false; presence = record { w = p.w; prompt = Some t; touch = p.touch; last = t; asker = s } }

-- The same check by itself, on any record, for callers that have settled the moment: no refusal, and the last moment stays.
-- A check that moves the last moment by itself (`moves_again`) fails it.
pub record FindsExactly (checked : Presence → (side t : ℕ) → Finding) : Type 0 where
  pub finds : (p : Presence) (s t : ℕ) → HasTouch p t → p.asker ≡ s
      → checked p s t ≡ record { yes = true; presence = record { w = p.w; prompt = p.prompt; touch = None; last = p.last; asker = p.asker } }
  pub other : (p : Presence) (s t : ℕ) → HasTouch p t → (p.asker ≡ s → ⊥) → checked p s t ≡ record { yes = false; presence = p }
  pub prompts : (p : Presence) (s t : ℕ) → (HasTouch p t → ⊥)
      → checked p s t ≡ record { yes = false; presence = record { w = p.w; prompt = Some t; touch = p.touch; last = p.last; asker = s } }

-- Ask. 01, Moments and touches: "Asking whether a prompt is live changes nothing, not even the last moment." It names no side. An ask
-- that moves the last moment (`ask_moves`) fails it at any later moment.
pub record AsksExactly (ask : Presence → ℕ → Told) : Type 0 where
  pub settles : SettlesFirst (λ p. p.asker) ask
  pub live : (p : Presence) (t : ℕ) → NotRefused p p.asker t → HasPrompt p t → ask p t ≡ record { outcome = Gives true; presence = p }
  pub not_live : (p : Presence) (t : ℕ) → NotRefused p p.asker t → (HasPrompt p t → ⊥) → ask p t ≡ record { outcome = Gives false; presence = p }

-- ---- the record lent as five numbers

-- Ours: which number is what. By name W, prompt, touch, last moment, asker, each in full width; a window's number is 0 where it is closed and m + 1
-- where it was opened at m. A window whose number is its moment (`moment_itself`) fails it at 1, an asker cut to 8 bits (`asker_of_8_bits`) at 256, and
-- prompt and touch in each other's place (`exchanged`) where one is open.
pub record StandsExactly (stands : PresenceRecord → Presence) : Type 0 where
  pub w : (n : PresenceRecord) → (stands n).w ≡ n.w
  pub prompt_closed : (n : PresenceRecord) → ((stands n).prompt ≡ None) ↔ (n.prompt ≡ 0)
  pub prompt_opened : (n : PresenceRecord) (m : ℕ) → ((stands n).prompt ≡ Some m) ↔ (n.prompt ≡ m + 1)
  pub touch_closed : (n : PresenceRecord) → ((stands n).touch ≡ None) ↔ (n.touch ≡ 0)
  pub touch_opened : (n : PresenceRecord) (m : ℕ) → ((stands n).touch ≡ Some m) ↔ (n.touch ≡ m + 1)
  pub last : (n : PresenceRecord) → (stands n).last ≡ n.last
  pub asker : (n : PresenceRecord) → (stands n).asker ≡ n.asker

-- Ours: the number of a window that opens at t is t + 1; at 2^64 - 1, which has none after it in 64 bits, it is that itself, and says the moment before. No
-- moment that settles comes near. A sum that wraps (`wraps`) fails it there: the window would be closed; the moment itself (`no_one_more`) fails it at 0.
pub record NumbersExactly (number : ℕ → ℕ) : Type 0 where
  pub next : (t : ℕ) → (t ≡ 0xffffffffffffffff → ⊥) → number t ≡ t + 1
  pub greatest : number 0xffffffffffffffff ≡ 0xffffffffffffffff

-- Moving the last moment. 01, Refusal numbers: "each touch, direct check and decision sets the last moment to t", and of the five numbers that alone. One that
-- leaves it (`moment_left`) fails it.
abbrev pub MovesNumbers : (PresenceRecord → (t : ℕ) → Presence) → Type 0
MovesNumbers moves = (n : PresenceRecord) (t : ℕ) → moves n t ≡ presence_in (record n { last = t })

-- The touch check on five numbers, the moment settled: what it finds, and which numbers the record then is. 01, Moments and touches: "with a live touch, it is
-- spent; without, a prompt window opens at t"; 02, E7, as in `ChecksExactly`. One that opens no prompt (`opens_no_prompt`) fails it at numbers with both windows
-- closed; so do one that opens it for the record's own side (`prompts_for_asker`), at another one's check, one that spends the other side's touch (`spends_others`),
-- one that leaves the touch open (`leaves_open`), and one that does not move the last moment (`check_moves_nothing`).
pub record ChecksNumbers (check : PresenceRecord → (side t : ℕ) → Finding) : Type 0 where
  pub finds : (n : PresenceRecord) (t : ℕ) → LiveNumber n.touch n.w t
      → check n n.asker t ≡ record { yes = true; presence = presence_in (record n { touch = 0; last = t }) }
  pub other : (n : PresenceRecord) (s t : ℕ) → LiveNumber n.touch n.w t → (n.asker ≡ s → ⊥)
      → check n s t ≡ record { yes = false; presence = presence_in (record n { last = t }) }
  pub prompts : (n : PresenceRecord) (s t : ℕ) → (LiveNumber n.touch n.w t → ⊥)
      → check n s t ≡ record { yes = false; presence = presence_in (record n { prompt = number_of t; last = t; asker = s }) }

-- The touch on five numbers, the moment settled. 01, Moments and touches: "accepted when the prompt is live; then the prompt closes and a touch window opens.
-- Otherwise nothing but the last moment moves." One that leaves the prompt open (`leaves_prompt`) fails it, and one whose touch window opens at the prompt's
-- moment (`touch_at_prompt`), where the moments differ.
pub record TouchesNumbers (touch : PresenceRecord → (t : ℕ) → Finding) : Type 0 where
  pub accepts : (n : PresenceRecord) (t : ℕ) → LiveNumber n.prompt 10000 t
      → touch n t ≡ record { yes = true; presence = presence_in (record n { prompt = 0; touch = number_of t; last = t }) }
  pub otherwise : (n : PresenceRecord) (t : ℕ) → (LiveNumber n.prompt 10000 t → ⊥)
      → touch n t ≡ record { yes = false; presence = presence_in (record n { last = t }) }

-- Ours: at every moment but 2^64 - 1 touch check and touch on numbers are those of the record. At that one, where a check without a live touch opens a prompt,
-- and an accepted touch its window, the window says the moment before; every other answer is the record's. A check that is so at every moment (`never_before`)
-- fails it there.
pub record AsOnRecords (checked : Presence → (side t : ℕ) → Finding) (granted : Presence → (t : ℕ) → Finding) : Type 0 where
  pub check : (p : Presence) (s t : ℕ) → (t ≡ 0xffffffffffffffff → ⊥) → checked p s t ≡ checked_of p s t
  pub check_live : (p : Presence) (s t : ℕ) → HasTouch p t → checked p s t ≡ checked_of p s t
  pub check_greatest : (p : Presence) (s : ℕ) → (HasTouch p 0xffffffffffffffff → ⊥)
      → checked p s 0xffffffffffffffff ≡ record { yes = false; presence = record { w = p.w; prompt = Some 0xfffffffffffffffe; touch = p.touch; last = p.last; asker = s } }
  pub touch : (p : Presence) (t : ℕ) → (t ≡ 0xffffffffffffffff → ⊥) → granted p t ≡ granted_of p t
  pub touch_not_live : (p : Presence) (t : ℕ) → (HasPrompt p t → ⊥) → granted p t ≡ granted_of p t
  pub touch_greatest : (p : Presence) → HasPrompt p 0xffffffffffffffff
      → granted p 0xffffffffffffffff ≡ record { yes = true; presence = record { w = p.w; prompt = None; touch = Some 0xfffffffffffffffe; last = p.last; asker = p.asker } }

-- ---- demand 3

-- Of any way of calling: every W that a record is made with, every run, every call. The sentences stand in specs/Demand.antt. It
-- is proved of the calls of this crate, and of every way of calling that does to the record only what its roles say
-- (proofs/Laws.antt): decisions join in the crate that has them.
abbrev pub Demand3 : {D : Type 0} → Caller D → Type 0
Demand3 {D} 𝒞 = (w : ℕ) → 0 < w → w ≤ 60000 → (ds : List D) → RunOf 𝒞 w ds

-- ---- runs with one side only

-- What stands for document 01 before sides were: its sentences on R6 and R1 and on the touch check, of the two definitions of
-- specs/OneSide.antt. A base that asks whose the touch is (`base_asks_whose`) fails it, and one that looks at the record's side
-- (`base_looks_at_side`).
pub record BaseExactly (settle : Presence → ℕ → Outcome Presence) (checked : Presence → ℕ → Finding) : Type 0 where
  pub r6 : (p : Presence) (t : ℕ) → BadWindow p.w → settle p t ≡ R 6
  pub r1 : (p : Presence) (t : ℕ) → (BadWindow p.w → ⊥) → BadMoment p.last t → settle p t ≡ R 1
  pub moves : (p : Presence) (t : ℕ) → (BadWindow p.w → ⊥) → (BadMoment p.last t → ⊥)
      → settle p t ≡ Gives (record { w = p.w; prompt = p.prompt; touch = p.touch; last = t; asker = p.asker })
  pub finds : (p : Presence) (t : ℕ) → HasTouch p t
      → checked p t ≡ record { yes = true; presence = record { w = p.w; prompt = p.prompt; touch = None; last = p.last; asker = p.asker } }
  pub prompts : (p : Presence) (t : ℕ) → (HasTouch p t → ⊥)
      → checked p t ≡ record { yes = false; presence = record { w = p.w; prompt = Some t; touch = p.touch; last = p.last; asker = p.asker } }

-- Ours: from a fresh record, with one side throughout (0 or 1), answers and windows are those of the base. 𝒞 is a way of calling
-- with sides, ℬ the base's. A way of calling whose prompting refusal keeps the earlier asker (`asker_kept`) fails it with side 1
-- throughout: its own touch is the other's.
abbrev pub OneSideIsBase : {D : Type 0} → Caller D → Caller D → Type 0
OneSideIsBase {D} 𝒞 ℬ =
    (w : ℕ) → 0 < w → w ≤ 60000 → (s : ℕ) → s ≤ 1 → (ds : List D) → OnlySide 𝒞 s ds
    → (sideless (after 𝒞 w ds) ≡ after ℬ w ds) × ((d : D) → NamesOnly s (𝒞.as_call d).role → next 𝒞 w ds d ≡ next ℬ w ds d)

-- On a lent record it need not be so: asker 0, live touch, side 1 gets 6985, where the base found the touch. A check that serves
-- the other side (`check_serves_other`) fails it.
pub record LentRecordDiffers (check : Presence → (side t : ℕ) → Told) (base_check : Presence → ℕ → Told) : Type 0 where
  pub sided : (check (record { w = 100; prompt = None; touch = Some 0; last = 0; asker = 0 }) 1 7).outcome ≡ Gives false
  pub base : (base_check (record { w = 100; prompt = None; touch = Some 0; last = 0; asker = 0 }) 7).outcome ≡ Gives true

-- ---- what the answers say

-- 01, Forms to follow: "a definition gives this paper's number and values for each of its cases". Each case has its value, and no other has it. A view with
-- Yes and No in each other's place (`yes_for_no`) fails it, and one that says R1 for every refusal (`always_r1`).
pub record AnswerExactly (said : Answer → Outcome Bool) : Type 0 where
  pub refused : (a : Answer) (why : Refusal) → (said a ≡ R (refusal_no why)) ↔ (a ≡ Err why)
  pub yes : (a : Answer) → (said a ≡ Gives true) ↔ (a ≡ Ok true)
  pub no : (a : Answer) → (said a ≡ Gives false) ↔ (a ≡ Ok false)

-- A record, as it is, or why there is none. A view that hands out its last moment as 0 (`record_at_zero`) fails it.
pub record ReadyExactly (said : Ready → Outcome Presence) : Type 0 where
  pub refused : (r : Ready) (why : Refusal) → (said r ≡ R (refusal_no why)) ↔ (r ≡ Err why)
  pub made : (r : Ready) (p : Presence) → (said r ≡ Gives p) ↔ (r ≡ Ok p)

-- An answer, and the record after it as it is. `step_yes_for_no` fails it, and a view with a fresh record in place of the one after the call (`step_forgets`).
pub record StepExactly (said : Step → Told) : Type 0 where
  pub answer : (p : Presence) → AnswerExactly (λ (a : Answer). (said (record { answer = a; presence = p })).outcome)
  pub after : (s : Step) → (said s).presence ≡ s.presence

-- ---- the contracts and the claims

-- Whatever meets a function's contract meets the claim on it: the contracts say what is claimed, of the same record, side and moment. It holds of the functions
-- that no call from C comes to as well. A contract of `consume_up_lent` that checks for the record's own side, whichever is named, fails it, with code to match.
pub record ContractsAsClaimed : Type 0 where
  pub new : (f : ℕ → Ready) → ((w : ℕ) → New w (f w)) → MakesExactly (λ w. ready_of (f w))
  pub settle : (f : Presence → (side t : ℕ) → Ready) → ((p : Presence) (s t : ℕ) → Settle p s t (f p s t)) → SettlesExactly (λ p s t. ready_of (f p s t))
  pub touch_check : (f : Presence → (side t : ℕ) → Finding) → ((p : Presence) (s t : ℕ) → TouchCheck p s t (f p s t)) → FindsExactly f
  pub grant_up : (f : Presence → ℕ → Step) → ((p : Presence) (t : ℕ) → GrantUp p t (f p t)) → TouchesExactly (λ p t. told_of (f p t))
  pub consume_up : (f : Presence → (side t : ℕ) → Step) → ((p : Presence) (s t : ℕ) → ConsumeUp p s t (f p s t)) → ChecksExactly (λ p s t. told_of (f p s t))
  pub is_up_needed : (f : Presence → ℕ → Answer) → ((p : Presence) (t : ℕ) → IsUpNeeded p t (f p t)) → AsksExactly (λ p t. told_of (lent_step (f p t, p)))
  pub grant_up_lent : (f : Presence → ℕ → Answer × Presence) → ((p : Presence) (t : ℕ) → GrantUpLent p t (f p t).0 (f p t).1)
      → TouchesExactly (λ p t. told_of (lent_step (f p t)))
  pub consume_up_lent : (f : Presence → (side t : ℕ) → Answer × Presence) → ((p : Presence) (s t : ℕ) → ConsumeUpLent p s t (f p s t).0 (f p s t).1)
      → ChecksExactly (λ p s t. told_of (lent_step (f p s t)))
  pub is_up_needed_lent : (f : Presence → ℕ → Answer × Presence) → ((p : Presence) (t : ℕ) → IsUpNeededLent p t (f p t).0 (f p t).1)
      → AsksExactly (λ p t. told_of (lent_step (f p t)))
  pub record_lent : (f : PresenceRecord → Presence) → ((n : PresenceRecord) → RecordLent n (f n)) → StandsExactly f
  pub moved : (f : PresenceRecord → ℕ → PresenceRecord) → ((n : PresenceRecord) (t : ℕ) → Moved n t (f n t)) → MovesNumbers (λ n t. presence_in (f n t))
  pub touch_checked : (f : PresenceRecord → (side t : ℕ) → Bool × PresenceRecord) → ((n : PresenceRecord) (s t : ℕ) → TouchChecked n s t (f n s t).0 (f n s t).1)
      → ChecksNumbers (λ n s t. record { yes = (f n s t).0; presence = presence_in (f n s t).1 })
  pub touch_granted : (f : PresenceRecord → ℕ → Bool × PresenceRecord) → ((n : PresenceRecord) (t : ℕ) → TouchGranted n t (f n t).0 (f n t).1)
      → TouchesNumbers (λ n t. record { yes = (f n t).0; presence = presence_in (f n t).1 })

-- ---- two results that satisfy a contract are equal

-- Each answer has document 01's numbers, and no two answers have the same. A view that gave R1 and R6 one number fails it.
abbrev pub ReadyOneToOne : Type 0
ReadyOneToOne = (a b : Ready) → ready_of a ≡ ready_of b → a ≡ b

abbrev pub AnswerOneToOne : Type 0
AnswerOneToOne = (a b : Answer) → outcome_of a ≡ outcome_of b → a ≡ b

abbrev pub StepOneToOne : Type 0
StepOneToOne = (a b : Step) → told_of a ≡ told_of b → a ≡ b

-- 01, What each statement has to say: "two results satisfying it are equal", on every input; the result holds the record, and with
-- a lent record the record at exit counts. A promise that is silent on the record after an unaccepted touch fails it.
pub record ResultsDetermined : Type 0 where
  pub new : (w : ℕ) → AtMostOne (New w)
  pub settle : (p : Presence) (s t : ℕ) → AtMostOne (Settle p s t)
  pub touch_check : (p : Presence) (s t : ℕ) → AtMostOne (TouchCheck p s t)
  pub grant_up : (p : Presence) (t : ℕ) → AtMostOne (GrantUp p t)
  pub consume_up : (p : Presence) (s t : ℕ) → AtMostOne (ConsumeUp p s t)
  pub is_up_needed : (p : Presence) (t : ℕ) → AtMostOne (IsUpNeeded p t)
  pub grant_up_lent : (p : Presence) (t : ℕ) → AtMostOne (λ (o : Answer × Presence). GrantUpLent p t o.0 o.1)
  pub consume_up_lent : (p : Presence) (s t : ℕ) → AtMostOne (λ (o : Answer × Presence). ConsumeUpLent p s t o.0 o.1)
  pub is_up_needed_lent : (p : Presence) (t : ℕ) → AtMostOne (λ (o : Answer × Presence). IsUpNeededLent p t o.0 o.1)
  pub record_lent : (n : PresenceRecord) → AtMostOne (RecordLent n)
  pub moved : (n : PresenceRecord) (t : ℕ) → AtMostOne (Moved n t)
  pub touch_checked : (n : PresenceRecord) (s t : ℕ) → AtMostOne (λ (o : Bool × PresenceRecord). TouchChecked n s t o.0 o.1)
  pub touch_granted : (n : PresenceRecord) (t : ℕ) → AtMostOne (λ (o : Bool × PresenceRecord). TouchGranted n t o.0 o.1)
