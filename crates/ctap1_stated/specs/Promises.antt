-- What the public functions promise: of what is lent in, of the result, and of the record's numbers and the buffer as they are then. The record's moment is settled
-- before: a refusal leaves its numbers, every other answer moves the last moment. No remainder is looked at: GET RESPONSE is decided by the session
-- (session_stated's Promises.antt, `Decide`, which is the decision as a whole).
use Rattle.std.specs.Prelude.{◌≡◌}
use Rattle.ctap1_stated.specs.Words.{ℕ, List, length, R, Word, Refusal, refusal_no, ApduStatusCode, word_of, HardwareSaid, Enrolment, unfetched, Decision, alone_from, handed_of, handed_from, left_from}
use Rattle.ctap1_stated.specs.Numbers.{hardware_of}
use Rattle.ctap1_stated.specs.Path.{DecisionPath, version_path, register_path, login_path}
use Rattle.ctap1_stated.specs.Decision.{along_by, along, reply_left, left_of, blank_alone}
use Rattle.ctap1_stated.specs.Inputs.{DecisionResult}
use Rattle.apdu_stated.specs.Answers.{says_of}
use Rattle.apdu_stated.specs.declared.Apdu.{Apdu}
use Rattle.command_stated.specs.Command.{flags_no}
use Rattle.command_stated.specs.declared.Ctap1Flags.{Ctap1Flags}
use Rattle.u2f_up_stated.specs.Moments.{moved_to}
use Rattle.u2f_up_stated.specs.Numbers.{presence_in, checked_in}
use Rattle.u2f_up_stated.specs.declared.PresenceRecord.{PresenceRecord}

-- a refusal, and a status word, as they are handed back
abbrev pub Refused : Refusal → Decision → Type 0
Refused why r = alone_from r ≡ blank_alone (R (refusal_no why))

abbrev pub Answered : ApduStatusCode → Decision → Type 0
Answered status r = alone_from r ≡ blank_alone (Word (word_of status))

-- along a path on the record that the numbers stand for, with the touch check on numbers (u2f_up_stated's Numbers.antt)
abbrev pub along_in : DecisionPath → (presence : PresenceRecord) (side t : ℕ) → DecisionResult
along_in path presence side t = along_by (λ q. checked_in q side t) path (presence_in presence) (moved_to (presence_in presence) t)

-- Version, and the reply buffer after it. Side and moment are looked at by the touch check alone, which it never comes to: here they are 0 and 0
abbrev pub Version : (presence : PresenceRecord) (t : ℕ) (entry : List ℕ) → Decision → (left : PresenceRecord) (exit : List ℕ) → Type 0
Version presence t entry r left exit =
    let d = along (version_path (length entry)) (presence_in presence) (moved_to (presence_in presence) t) 0 0 in
    (handed_from r (presence_in left) ≡ handed_of d) × (exit ≡ reply_left d entry)

-- Register and Authenticate, and the block after them
abbrev pub Register : (frame : List ℕ) (side t : ℕ) (presence : PresenceRecord) → HardwareSaid → Enrolment → (room : ℕ) → Apdu → (entry : List ℕ) → Decision → (left : PresenceRecord) (exit : List ℕ) → Type 0
Register frame side t presence hardware e room says entry r left exit =
    left_from r (presence_in left) exit ≡ left_of (along_in (register_path (unfetched side frame (hardware_of hardware) e room) (says_of says)) presence side t) entry

abbrev pub Authenticate : (frame : List ℕ) (side t : ℕ) (presence : PresenceRecord) → HardwareSaid → (room : ℕ) → Ctap1Flags → Apdu → (entry : List ℕ) → Decision → (left : PresenceRecord) (exit : List ℕ) → Type 0
Authenticate frame side t presence hardware room flags says entry r left exit =
    left_from r (presence_in left) exit ≡ left_of (along_in (login_path frame (hardware_of hardware) room (flags_no flags) (says_of says)) presence side t) entry
