-- What each public function of `command` promises of its result, on every input.
use Rattle.std.specs.Prelude.{◌≡◌}
use Rattle.command_stated.specs.Words.{ℕ, List, Apdu, Place}
use Rattle.apdu_stated.specs.Answers.{says_of, reading_of, Reading}
use Rattle.command_stated.specs.Command.{Ctap1Flags, CommandReading, flags_no, command_said, by_instruction, on_reading, command_of, challenge_place_of, application_place_of, handle_place_of, challenge_of, application_of, handle_of}

abbrev pub FlagsNumber : Ctap1Flags → ℕ → Type 0
FlagsNumber flags r = r ≡ flags_no flags

-- of a frame, and what it is said to say
abbrev pub Instructed : List ℕ → Apdu → CommandReading → Type 0
Instructed frame says r = command_said r ≡ by_instruction frame (says_of says)

-- of a frame, and how it was read
abbrev pub OnReading : List ℕ → Reading → CommandReading → Type 0
OnReading frame reading r = command_said r ≡ on_reading frame (reading_of reading)

abbrev pub ReadCommand : List ℕ → CommandReading → Type 0
ReadCommand frame r = command_said r ≡ command_of frame

abbrev pub ChallengePlace : Apdu → Place → Type 0
ChallengePlace says r = r ≡ challenge_place_of (says_of says)

abbrev pub ApplicationPlace : Apdu → Place → Type 0
ApplicationPlace says r = r ≡ application_place_of (says_of says)

abbrev pub HandlePlace : Apdu → Place → Type 0
HandlePlace says r = r ≡ handle_place_of (says_of says)

abbrev pub Challenge : List ℕ → Apdu → List ℕ → Type 0
Challenge frame says r = r ≡ challenge_of frame (says_of says)

abbrev pub Application : List ℕ → Apdu → List ℕ → Type 0
Application frame says r = r ≡ application_of frame (says_of says)

abbrev pub KeyHandle : List ℕ → Apdu → List ℕ → Type 0
KeyHandle frame says r = r ≡ handle_of frame (says_of says)
