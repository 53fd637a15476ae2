-- Tests on what came of a call, each true of the cases that its name says.
use Rattle.u2f_up_stated.specs.Words.{Bool, true, false}
use Rattle.u2f_up_stated.specs.Events.{Came, RefusedBy, TouchAccepted, TouchIgnored, TouchFound, NoTouchFound, PromptStands, NoPromptStands, AnsweredBefore}

abbrev pub is_touch_accepted : Came → Bool
is_touch_accepted (RefusedBy n) = false
is_touch_accepted TouchAccepted = true
is_touch_accepted TouchIgnored = false
is_touch_accepted TouchFound = false
is_touch_accepted NoTouchFound = false
is_touch_accepted PromptStands = false
is_touch_accepted NoPromptStands = false
is_touch_accepted AnsweredBefore = false

abbrev pub is_touch_found : Came → Bool
is_touch_found (RefusedBy n) = false
is_touch_found TouchAccepted = false
is_touch_found TouchIgnored = false
is_touch_found TouchFound = true
is_touch_found NoTouchFound = false
is_touch_found PromptStands = false
is_touch_found NoPromptStands = false
is_touch_found AnsweredBefore = false

abbrev pub is_no_touch_found : Came → Bool
is_no_touch_found (RefusedBy n) = false
is_no_touch_found TouchAccepted = false
is_no_touch_found TouchIgnored = false
is_no_touch_found TouchFound = false
is_no_touch_found NoTouchFound = true
is_no_touch_found PromptStands = false
is_no_touch_found NoPromptStands = false
is_no_touch_found AnsweredBefore = false

-- 01, Refusal numbers: "Without an R refusal, each touch, direct check and decision sets the last moment to t"; an ask does not
abbrev pub is_timed : Came → Bool
is_timed (RefusedBy n) = false
is_timed TouchAccepted = true
is_timed TouchIgnored = true
is_timed TouchFound = true
is_timed NoTouchFound = true
is_timed PromptStands = false
is_timed NoPromptStands = false
is_timed AnsweredBefore = true
