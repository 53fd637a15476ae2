-- Wrong programs, each with one fault. proofs/Refuted.antt shows of each that a claim is false of it.
use Rattle.std.specs.Prelude.{◌%◌, List, [], ◌∷◌, ◌+◌, ◌^◌, ◌&&◌, ◌||◌}
use Rattle.u2f_up_stated.specs.Words.{ℕ, zero, suc, Bool, true, false, not, eqb, ltb, leb, when◌then◌else◌, Outcome, R, Gives, refusal_no, Window, None, Some, Presence, PresenceRecord, Finding}
use Rattle.u2f_up_stated.specs.Moments.{fresh, Told, is_live, is_prompting, is_r6, is_bad_side, is_r8, is_r1, moved_to, settle_of, gave, refused, touch_opened, touch_closed, prompt_opened, on_settled, granted_of, checked_of}
use Rattle.u2f_up_stated.specs.Numbers.{window_of, presence_in, number_of, checked_in}
use Rattle.u2f_up_stated.specs.Answers.{Ready, Answer, Step, outcome_of}
use Rattle.std.specs.Prelude.{Ok, Err}
use Rattle.u2f_up_stated.specs.History.{Role, Touching, Checking, Asking, Settling, TooShort, Call, Event, TouchAccepted, TouchFound, NoTouchFound}
use Rattle.u2f_up_stated.specs.Runs.{Caller, done_by}
use Rattle.u2f_up_stated.specs.OneSide.{base_settle_of, base_checked_of}

-- ---- makers of records: "a touch window W of 1..60,000"
abbrev pub refuses_everything : ℕ → Outcome Presence
refuses_everything w = R 6

abbrev pub takes_zero : ℕ → Outcome Presence
takes_zero w = when ltb 60000 w then R 6 else Gives (fresh w)

abbrev pub takes60001 : ℕ → Outcome Presence
takes60001 w = when eqb w 0 then R 6 else when ltb 60001 w then R 6 else Gives (fresh w)

abbrev pub refuses60000 : ℕ → Outcome Presence
refuses60000 w = when eqb w 0 then R 6 else when ltb 59999 w then R 6 else Gives (fresh w)

-- "0 when fresh": side 1
abbrev pub fresh_side1 : ℕ → Outcome Presence
fresh_side1 w = when is_r6 w then R 6 else Gives (record { w = w; prompt = None; touch = None; last = 0; asker = 1 })

-- ---- settlings, by the tests that they make in turn: R6's, R8's of the named side and the record's, R1's of the last moment
abbrev settling : (ℕ → Bool) → (ℕ → ℕ → Bool) → (ℕ → ℕ → Bool) → Presence → (side t : ℕ) → Outcome Presence
settling r6 r8 r1 p s t =
    when r6 p.w then R 6
    else when r8 s p.asker then R 8
    else when r1 p.last t then R 1
    else Gives (moved_to p t)

-- "R6, then R1": the other way round
abbrev pub r1_first : Presence → (side t : ℕ) → Outcome Presence
r1_first p s t =
    when is_r1 p.last t then R 1
    else when is_r6 p.w then R 6
    else when is_r8 s p.asker then R 8
    else Gives (moved_to p t)

-- R8 "after R6 and before R1": after R1, and before R6
abbrev pub r8_after_r1 : Presence → (side t : ℕ) → Outcome Presence
r8_after_r1 p s t =
    when is_r6 p.w then R 6
    else when is_r1 p.last t then R 1
    else when is_r8 s p.asker then R 8
    else Gives (moved_to p t)

abbrev pub r8_first : Presence → (side t : ℕ) → Outcome Presence
r8_first p s t =
    when is_r8 s p.asker then R 8
    else when is_r6 p.w then R 6
    else when is_r1 p.last t then R 1
    else Gives (moved_to p t)

-- "a side other than 0 or 1": 2 is taken; "or in the record": it is not looked at; "named": nor is that
abbrev pub takes_side2 : Presence → (side t : ℕ) → Outcome Presence
takes_side2 = settling is_r6 (λ s asker. ltb 2 s || ltb 2 asker) is_r1

abbrev pub record_side_taken : Presence → (side t : ℕ) → Outcome Presence
record_side_taken = settling is_r6 (λ s asker. is_bad_side s) is_r1

abbrev pub named_side_taken : Presence → (side t : ℕ) → Outcome Presence
named_side_taken = settling is_r6 (λ s asker. is_bad_side asker) is_r1

-- "moment 2^48 or more": 2^48 is taken
abbrev pub takes2to48 : Presence → (side t : ℕ) → Outcome Presence
takes2to48 = settling is_r6 is_r8 (λ last t. ltb (2 ^ 48) t || ltb t last)

-- "moment 2^48 or more": the moment before it is refused
abbrev pub refuses_last : Presence → (side t : ℕ) → Outcome Presence
refuses_last = settling is_r6 is_r8 (λ last t. leb (2 ^ 48) (t + 1) || ltb t last)

-- "or before the record's last moment": an earlier moment is taken
abbrev pub goes_back : Presence → (side t : ℕ) → Outcome Presence
goes_back = settling is_r6 is_r8 (λ last t. leb (2 ^ 48) t)

-- settling without R8
abbrev moved_by : Presence → ℕ → Outcome Presence
moved_by p t = settling is_r6 (λ s asker. false) is_r1 p 0 t

-- ---- touches: what is found on a settled record
abbrev touching : (Presence → ℕ → Finding) → Presence → ℕ → Told
touching grants p t = on_settled p (settle_of p p.asker t) (λ q. gave (grants q t))

-- "then the prompt closes and a touch window opens": a touch window that is live already stays as it is
abbrev keeps_older : Presence → ℕ → Finding
keeps_older p t =
    when is_prompting p t then record { yes = true; presence = record { w = p.w; prompt = None; touch = when is_live p.touch p.w t then p.touch else Some t; last = p.last; asker = p.asker } }
    else record { yes = false; presence = p }

abbrev pub leaves_older : Presence → ℕ → Told
leaves_older = touching keeps_older

-- "The prompt window is 10,000": a moment less, a moment more
abbrev granted_within : ℕ → Presence → ℕ → Finding
granted_within d p t =
    when is_live p.prompt d t then record { yes = true; presence = touch_opened p t }
    else record { yes = false; presence = p }

abbrev pub window9999 : Presence → ℕ → Told
window9999 = touching (granted_within 9999)

abbrev pub window10001 : Presence → ℕ → Told
window10001 = touching (granted_within 10001)

-- "An accepted touch belongs to the asker": to side 0, whoever asked
abbrev pub touch_to0 : Presence → ℕ → Told
touch_to0 = touching (λ p t. when is_prompting p t then record { yes = true; presence = record { w = p.w; prompt = None; touch = Some t; last = p.last; asker = 0 } } else record { yes = false; presence = p })

-- "Otherwise nothing but the last moment moves": a touch leaves even that
abbrev pub leaves_the_moment : Presence → ℕ → Told
leaves_the_moment p t = on_settled p (settle_of p p.asker t) (λ q. gave (granted_of p t))

-- "An R refusal changes no buffer and no record": a refused touch closes the windows
abbrev closed_by : Presence → Outcome Presence → (Presence → Told) → Told
closed_by p (R n) go_on = refused n (record { w = p.w; prompt = None; touch = None; last = p.last; asker = p.asker })
closed_by p (Outcome.Word s) go_on = record { outcome = Outcome.Word s; presence = p }
closed_by p (Gives q) go_on = go_on q

abbrev pub refusal_closes : Presence → ℕ → Told
refusal_closes p t = closed_by p (settle_of p p.asker t) (λ q. gave (granted_of q t))

-- ---- checks
abbrev checking : (Presence → (side t : ℕ) → Finding) → Presence → (side t : ℕ) → Told
checking checks p s t = on_settled p (settle_of p s t) (λ q. gave (checks q s t))

-- by what is done with a live touch of the side that checks, and of the other one, and without one
abbrev by_test : (Window → ℕ → ℕ → Bool) → (own other without : Presence → (side t : ℕ) → Finding) → Presence → (side t : ℕ) → Finding
by_test live own other without p s t =
    when not (live p.touch p.w t) then without p s t
    else when not (eqb p.asker s) then other p s t
    else own p s t

abbrev by : (own other without : Presence → (side t : ℕ) → Finding) → Presence → (side t : ℕ) → Finding
by = by_test is_live

abbrev spends : Presence → (side t : ℕ) → Finding
spends p s t = record { yes = true; presence = touch_closed p }

abbrev leaves : Presence → (side t : ℕ) → Finding
leaves p s t = record { yes = false; presence = p }

abbrev prompts : Presence → (side t : ℕ) → Finding
prompts p s t = record { yes = false; presence = prompt_opened p s t }

-- "with a live touch, it is spent": it stays
abbrev stays_spent : Presence → (side t : ℕ) → Finding
stays_spent = by (λ p s t. record { yes = true; presence = p }) leaves prompts

abbrev pub check_keeps : Presence → (side t : ℕ) → Told
check_keeps = checking stays_spent

-- 02, E7: "A touch that wireless asked for must not release a USB login": the other side is served
abbrev serves_other : Presence → (side t : ℕ) → Finding
serves_other = by spends spends prompts

abbrev pub check_serves_other : Presence → (side t : ℕ) → Told
check_serves_other = checking serves_other

-- 02, E7: "nothing is opened or spent, and that is no prompting refusal": it opens a prompt, the asker being the one that asked
abbrev prompts_beside : Presence → (side t : ℕ) → Finding
prompts_beside = by spends (λ p s t. record { yes = false; presence = prompt_opened p p.asker t }) prompts

abbrev pub check_prompts_other : Presence → (side t : ℕ) → Told
check_prompts_other = checking prompts_beside

-- 02, E7: "An accepted touch belongs to the asker": it is given to the side that checks, which finds it the next time
abbrev gives_touch : Presence → (side t : ℕ) → Finding
gives_touch = by spends (λ p s t. record { yes = false; presence = record { w = p.w; prompt = p.prompt; touch = p.touch; last = p.last; asker = s } }) prompts

abbrev pub check_gives_touch : Presence → (side t : ℕ) → Told
check_gives_touch = checking gives_touch

-- 02, E7: "makes its side the asker, in place of any earlier": the earlier one stays
abbrev keeps_the_asker : Presence → (side t : ℕ) → Finding
keeps_the_asker = by spends leaves (λ p s t. record { yes = false; presence = prompt_opened p p.asker t })

abbrev pub check_keeps_asker : Presence → (side t : ℕ) → Told
check_keeps_asker = checking keeps_the_asker

-- "is live at t when t < m + d": at the end too
abbrev is_live_still : Window → ℕ → ℕ → Bool
is_live_still None d t = false
is_live_still (Some m) d t = leb t (m + d)

abbrev pub live_at_the_end : Presence → (side t : ℕ) → Told
live_at_the_end = checking (by_test is_live_still spends leaves prompts)

-- "a prompt window opens at t, replacing an older one": an older live one stays
abbrev pub keeps_older_prompt : Presence → (side t : ℕ) → Told
keeps_older_prompt = checking (by spends leaves (λ p s t. when is_prompting p t then record { yes = false; presence = record { w = p.w; prompt = p.prompt; touch = p.touch; last = p.last; asker = s } } else prompts p s t))

-- the check by itself moves nothing but the windows: here the last moment too
abbrev pub moves_again : Presence → (side t : ℕ) → Finding
moves_again p s t = checked_of (moved_to p t) s t

-- ---- asks: "changes nothing, not even the last moment": it moves
abbrev pub ask_moves : Presence → ℕ → Told
ask_moves p t = on_settled p (settle_of p p.asker t) (λ q. record { outcome = Gives (is_prompting p t); presence = q })

-- ---- the record lent as five numbers. A window's number is the moment that it was opened at
abbrev window_at : ℕ → Window
window_at zero = None
window_at (suc m) = Some (suc m)

abbrev pub moment_itself : PresenceRecord → Presence
moment_itself n = record { w = n.w; prompt = window_at n.prompt; touch = window_at n.touch; last = n.last; asker = n.asker }

-- the asker is cut to 8 bits
abbrev pub asker_of_8_bits : PresenceRecord → Presence
asker_of_8_bits n = record { w = n.w; prompt = window_of n.prompt; touch = window_of n.touch; last = n.last; asker = n.asker % 256 }

-- prompt and touch stand in each other's place
abbrev pub exchanged : PresenceRecord → Presence
exchanged n = record { w = n.w; prompt = window_of n.touch; touch = window_of n.prompt; last = n.last; asker = n.asker }

-- a moment's number: the sum wraps; the moment itself
abbrev pub wraps : ℕ → ℕ
wraps t = when eqb t 0xffffffffffffffff then 0 else t + 1

abbrev pub no_one_more : ℕ → ℕ
no_one_more t = t

-- the last moment is left
abbrev pub moment_left : PresenceRecord → ℕ → Presence
moment_left n t = presence_in n

-- by what a check does with a live touch of the side that checks, and of the other one, and without one, on numbers; the last moment moves first
abbrev on_numbers : (own other without : Presence → (side t : ℕ) → Finding) → PresenceRecord → (side t : ℕ) → Finding
on_numbers own other without n s t = by own other without (moved_to (presence_in n) t) s t

-- "without, a prompt window opens at t": none does, and the side becomes the asker all the same
abbrev pub opens_no_prompt : PresenceRecord → (side t : ℕ) → Finding
opens_no_prompt = on_numbers spends leaves (λ p s t. record { yes = false; presence = record { w = p.w; prompt = p.prompt; touch = p.touch; last = p.last; asker = s } })

-- 02, E7: "A prompting refusal makes its side the asker": the prompt is opened for the record's own side
abbrev pub prompts_for_asker : PresenceRecord → (side t : ℕ) → Finding
prompts_for_asker = on_numbers spends leaves (λ p s t. checked_in p p.asker t)

-- 02, E7: "nothing is opened or spent": the other side's touch is
abbrev pub spends_others : PresenceRecord → (side t : ℕ) → Finding
spends_others = on_numbers spends spends checked_in

-- "with a live touch, it is spent": it stays open
abbrev pub leaves_open : PresenceRecord → (side t : ℕ) → Finding
leaves_open = on_numbers (λ p s t. record { yes = true; presence = p }) leaves checked_in

-- the last moment is not moved by a check
abbrev pub check_moves_nothing : PresenceRecord → (side t : ℕ) → Finding
check_moves_nothing n s t = checked_in (presence_in n) s t

-- "then the prompt closes": it stays open; the touch window opens at the prompt's moment
abbrev accepted_by : (Presence → ℕ → Presence) → PresenceRecord → ℕ → Finding
accepted_by opens n t =
    let p = moved_to (presence_in n) t in
    when is_prompting p t then record { yes = true; presence = opens p t } else record { yes = false; presence = p }

abbrev pub leaves_prompt : PresenceRecord → ℕ → Finding
leaves_prompt = accepted_by (λ p t. record { w = p.w; prompt = p.prompt; touch = window_of (number_of t); last = p.last; asker = p.asker })

abbrev pub touch_at_prompt : PresenceRecord → ℕ → Finding
touch_at_prompt = accepted_by (λ p t. record { w = p.w; prompt = None; touch = p.prompt; last = p.last; asker = p.asker })

-- the record's own check at every moment, the greatest of 64 bits too
abbrev pub never_before : Presence → (side t : ℕ) → Finding
never_before = checked_of

-- ---- ways of calling: the calls of this crate, but for what touch and check find on a settled record
abbrev doing : (Presence → ℕ → Finding) → (Presence → (side t : ℕ) → Finding) → Role → Presence → ℕ → Told
doing grants checks Touching p t = touching grants p t
doing grants checks (Checking s) p t = checking checks p s t
doing grants checks Asking p t = done_by Asking p t
doing grants checks (Settling s) p t = done_by (Settling s) p t
doing grants checks (TooShort s) p t = done_by (TooShort s) p t

abbrev calling : (Presence → ℕ → Finding) → (Presence → (side t : ℕ) → Finding) → Caller Call
calling grants checks = record { as_call = λ c. c; does = λ p c. doing grants checks c.role p c.moment }

-- a spent touch stays, and serves again. Of Demand.antt it fails `finds`, at the second check; `once`, one touch and two checks within W;
-- and `side_totals`, where two calls spent the one touch that was accepted.
abbrev pub keeps_spent : Caller Call
keeps_spent = calling granted_of stays_spent

-- honours no touch: an accepted one opens nothing. Fails `foretells` and `finds`, at the first check after an accepted touch, and
-- `one_held`: after the next prompt another is accepted, and the history holds two.
abbrev pub opens_nothing : Caller Call
opens_nothing = calling (λ p t. when is_prompting p t then record { yes = true; presence = record { w = p.w; prompt = None; touch = None; last = p.last; asker = p.asker } } else record { yes = false; presence = p }) checked_of

-- one prompt lets in touch after touch. Fails `accepts`, at the second touch after it.
abbrev pub keeps_prompt : Caller Call
keeps_prompt = calling (λ p t. when is_prompting p t then record { yes = true; presence = record { w = p.w; prompt = p.prompt; touch = Some t; last = p.last; asker = p.asker } } else record { yes = false; presence = p }) checked_of

-- an accepted touch opens its window at the prompt's moment. Fails `holds`, where the moments differ.
abbrev pub opens_at_prompt : Caller Call
opens_at_prompt = calling (λ p t. when is_prompting p t then record { yes = true; presence = record { w = p.w; prompt = None; touch = p.prompt; last = p.last; asker = p.asker } } else record { yes = false; presence = p }) checked_of

-- honours the first touch only. A window opened at 2^48, which no touch opens, says that one was spent: from then on every touch
-- is accepted as ever, and every check is an ordinary 6985. Fails `foretells`, at the second accepted touch's check.
abbrev is_used_up : Window → Bool
is_used_up None = false
is_used_up (Some m) = leb (2 ^ 48) m

abbrev pub first_only : Caller Call
first_only = calling
    (λ p t. when is_prompting p t then record { yes = true; presence = record { w = p.w; prompt = None; touch = when is_used_up p.touch then p.touch else Some t; last = p.last; asker = p.asker } } else record { yes = false; presence = p })
    (λ p s t. when is_used_up p.touch then prompts p s t else by (λ p s t. record { yes = true; presence = record { w = p.w; prompt = p.prompt; touch = Some (2 ^ 48); last = p.last; asker = p.asker } }) leaves prompts p s t)

-- 02, E7, over a run: the other side is served; its 6985 opens a prompt, or gives it the touch; the asker is not replaced. The first fails
-- `finds` and `serves`, at that side's check, and `side_totals` of the side that was served
abbrev pub other_served : Caller Call
other_served = calling granted_of serves_other

-- fails `accepts`, at the next touch
abbrev pub other_prompts : Caller Call
other_prompts = calling granted_of prompts_beside

abbrev pub given_to_checker : Caller Call
given_to_checker = calling granted_of gives_touch

-- fails `asker`, after the other side's prompting refusal
abbrev pub asker_kept : Caller Call
asker_kept = calling granted_of keeps_the_asker

-- "a side other than 0 or 1": a check of side 2 is taken, and side 2 becomes the asker. A touch that it asked for is of neither side, and fails
-- `two_sides`
abbrev asks2_does : Role → Presence → ℕ → Told
asks2_does Touching p t = on_settled p (moved_by p t) (λ q. gave (granted_of q t))
asks2_does (Checking s) p t = on_settled p (moved_by p t) (λ q. gave (checked_of q s t))
asks2_does Asking p t = done_by Asking p t
asks2_does (Settling s) p t = done_by (Settling s) p t
asks2_does (TooShort s) p t = done_by (TooShort s) p t

abbrev pub asks2 : Caller Call
asks2 = record { as_call = λ c. c; does = λ p c. asks2_does c.role p c.moment }

-- R8 "before R1": after it. Fails `refuses_side`, at a call where both are due
abbrev r8_last_does : Role → Presence → ℕ → Told
r8_last_does Touching p t = done_by Touching p t
r8_last_does (Checking s) p t = on_settled p (r8_after_r1 p s t) (λ q. gave (checked_of q s t))
r8_last_does Asking p t = done_by Asking p t
r8_last_does (Settling s) p t = done_by (Settling s) p t
r8_last_does (TooShort s) p t = done_by (TooShort s) p t

abbrev pub r8_last : Caller Call
r8_last = record { as_call = λ c. c; does = λ p c. r8_last_does c.role p c.moment }

-- refuses every call. Fails `refuses`, at the first one
abbrev pub refuses_all : Caller Call
refuses_all = record { as_call = λ c. c; does = λ p c. refused 1 p }

-- a decision refused by R2 has settled its moment
abbrev short_does : Role → Presence → ℕ → Told
short_does Touching p t = done_by Touching p t
short_does (Checking s) p t = done_by (Checking s) p t
short_does Asking p t = done_by Asking p t
short_does (Settling s) p t = done_by (Settling s) p t
short_does (TooShort s) p t = on_settled p (settle_of p s t) (λ q. refused 2 q)

abbrev pub short_moves : Caller Call
short_moves = record { as_call = λ c. c; does = λ p c. short_does c.role p c.moment }

-- ---- what stands for the base: the touch check asks whose the touch is; settling looks at the record's side
abbrev pub base_asks_whose : Presence → ℕ → Finding
base_asks_whose p t = when is_live p.touch p.w t && not (eqb p.asker 0) then record { yes = false; presence = p } else base_checked_of p t

abbrev pub base_looks_at_side : Presence → ℕ → Outcome Presence
base_looks_at_side p t = when is_bad_side p.asker then R 8 else base_settle_of p t

-- ---- a history that no program here made, in the order of the calls: a check at 0 prompts, a touch at 1 is accepted, and checks at 2
-- and at 3 spend it
abbrev pub served_twice : List Event
served_twice =
    record { call = record { role = Checking 0; moment = 3 }; came = TouchFound }
    ∷ record { call = record { role = Checking 0; moment = 2 }; came = TouchFound }
    ∷ record { call = record { role = Touching; moment = 1 }; came = TouchAccepted }
    ∷ record { call = record { role = Checking 0; moment = 0 }; came = NoTouchFound }
    ∷ []

-- ---- views: Yes and No in each other's place; one number for every refusal; a record without its last moment; a fresh record after every call
abbrev pub yes_for_no : Answer → Outcome Bool
yes_for_no (Err why) = R (refusal_no why)
yes_for_no (Ok found) = Gives (not found)

abbrev pub always_r1 : Answer → Outcome Bool
always_r1 (Err why) = R 1
always_r1 (Ok found) = Gives found

abbrev pub record_at_zero : Ready → Outcome Presence
record_at_zero (Err why) = R (refusal_no why)
record_at_zero (Ok p) = Gives (moved_to p 0)

abbrev pub step_yes_for_no : Step → Told
step_yes_for_no s = record { outcome = yes_for_no s.answer; presence = s.presence }

abbrev pub step_forgets : Step → Told
step_forgets s = record { outcome = outcome_of s.answer; presence = fresh s.presence.w }
