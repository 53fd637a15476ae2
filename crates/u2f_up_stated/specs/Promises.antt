-- What each public function promises: of its inputs, its result `r` and, where a record is lent, the record `q` at exit.
use Rattle.u2f_up_stated.specs.Words.{ℕ, Presence, PresenceRecord, Finding}
use Rattle.std.specs.Prelude.{Bool, ◌≡◌}
use Rattle.u2f_up_stated.specs.Numbers.{presence_in, checked_in, granted_in}
use Rattle.u2f_up_stated.specs.Moments.{new_of, moved_to, settle_of, checked_of, touch_of, check_of, ask_of}
use Rattle.u2f_up_stated.specs.Answers.{Ready, Answer, Step, ready_of, outcome_of, told_of}

abbrev pub New : ℕ → Ready → Type 0
New w r = ready_of r ≡ new_of w

abbrev pub Settle : Presence → (side t : ℕ) → Ready → Type 0
Settle p s t r = ready_of r ≡ settle_of p s t

abbrev pub TouchCheck : Presence → (side t : ℕ) → Finding → Type 0
TouchCheck p s t r = r ≡ checked_of p s t

-- on a record lent as numbers, as they were and as they are then
abbrev pub RecordLent : PresenceRecord → Presence → Type 0
RecordLent entry r = r ≡ presence_in entry

abbrev pub Moved : (entry : PresenceRecord) (t : ℕ) (exit : PresenceRecord) → Type 0
Moved entry t exit = presence_in exit ≡ moved_to (presence_in entry) t

abbrev pub TouchChecked : (entry : PresenceRecord) (side t : ℕ) → Bool → (exit : PresenceRecord) → Type 0
TouchChecked entry s t r exit = (r ≡ (checked_in (moved_to (presence_in entry) t) s t).yes) × (presence_in exit ≡ (checked_in (moved_to (presence_in entry) t) s t).presence)

abbrev pub TouchGranted : (entry : PresenceRecord) (t : ℕ) → Bool → (exit : PresenceRecord) → Type 0
TouchGranted entry t r exit = (r ≡ (granted_in (moved_to (presence_in entry) t) t).yes) × (presence_in exit ≡ (granted_in (moved_to (presence_in entry) t) t).presence)

abbrev pub GrantUp : Presence → ℕ → Step → Type 0
GrantUp p t r = told_of r ≡ touch_of p t

abbrev pub ConsumeUp : Presence → (side t : ℕ) → Step → Type 0
ConsumeUp p s t r = told_of r ≡ check_of p s t

abbrev pub IsUpNeeded : Presence → ℕ → Answer → Type 0
IsUpNeeded p t r = outcome_of r ≡ (ask_of p t).outcome

-- The same on a lent record: answer and record at exit, taken together, are a step. Asking leaves the record.
abbrev pub GrantUpLent : Presence → ℕ → Answer → Presence → Type 0
GrantUpLent p t r q = GrantUp p t (record { answer = r; presence = q })

abbrev pub ConsumeUpLent : Presence → (side t : ℕ) → Answer → Presence → Type 0
ConsumeUpLent p s t r q = ConsumeUp p s t (record { answer = r; presence = q })

abbrev pub IsUpNeededLent : Presence → ℕ → Answer → Presence → Type 0
IsUpNeededLent p t r q = IsUpNeeded p t r × (q ≡ p)
