-- What is promised of command reading. Each claim takes the program as its argument; the definitions of Command.antt meet it by
-- proofs/Theorems.antt, nothing else does by proofs/Only.antt, and the programs of Wrong.antt do not by proofs/Refuted.antt.
-- What a frame says (`read_of`, `data_of`) is apdu_stated's, and determined there.
use Rattle.std.specs.Prelude.{◌↔◌, ◌⊎◌, ◌+◌, ◌≤◌, ◌<◌, ◌≡◌, ◌||◌, ◌∷◌, ◌++◌, Ok, Err}
use Rattle.command_stated.specs.Words.{ℕ, true, eqb, List, length, AtMostOne, StatusWord, Outcome, R, Word, SW, Gives, ApduStatusCode, word_of, HasStatus, wrong_length, byte, part_of, Apdu, Place}
use Rattle.outcome.specs.Terms.{PairsExactly}
use Rattle.apdu_stated.specs.Answers.{Says, says_of, reading_of, Reading}
use Rattle.apdu_stated.specs.Reading.{read_of, data_of}
use Rattle.apdu_stated.specs.Terms.{span}
use Rattle.command_stated.specs.Command.{Ctap1Flags, CheckOnly, EnforceUpAndSign, DontEnforceUpAndSign, CommandReading, Command, Register, Authenticate, Version, GetResponse, flags_no, command_said, command_of}
use Rattle.command_stated.specs.declared.U2fCommand.TheVariants as U2fCommand'
use Rattle.command_stated.specs.Promises.{FlagsNumber, Instructed, OnReading, ReadCommand, ChallengePlace, ApplicationPlace, HandlePlace, Challenge, Application, KeyHandle}
use Rattle.command_stated.specs.Terms.{WrongLc, WrongParameters, WrongControl, UnknownInstruction}

-- ---- a command, exactly when

-- Of a frame that is read, of CLA 0 and INS 01: "Lc not 64 gives 6700. P1 is not looked at."
-- Rejects a reader that looks at Register's P1, or accepts Lc 65. Bites at a Register with P1 FF.
abbrev pub RegisterExactly : (List ℕ → Outcome Command) → Type 0
RegisterExactly command =
    (frame : List ℕ) (said : Says) → (command frame ≡ Gives (Register said))
    ↔ ((read_of frame ≡ Gives said) × (said.header.cla ≡ 0x00) × (said.header.ins ≡ 0x01) × (said.lc ≡ 64))

-- "02 Authenticate: Lc under 65 gives 6700; Lc not 65 + data[64] gives 6700; P1 not 03, 07 or 08 gives 6a80."
-- Rejects a reader that refuses an empty handle, that leaves the length byte itself uncounted, or that says P1 07 for 03. Bites at an
-- Authenticate with Lc 65.
abbrev pub AuthenticateExactly : (List ℕ → Outcome Command) → Type 0
AuthenticateExactly command =
    (frame : List ℕ) (p1 : ℕ) (said : Says) → (command frame ≡ Gives (Authenticate p1 said))
    ↔ ((read_of frame ≡ Gives said) × (said.header.cla ≡ 0x00) × (said.header.ins ≡ 0x02)
    × (65 ≤ said.lc) × (said.lc ≡ 65 + byte (data_of frame said) 64) × (eqb p1 0x03 || eqb p1 0x07 || eqb p1 0x08 ≡ true) × (said.header.p1 ≡ p1))

-- "03 Version: Lc not 0 gives 6700." Rejects a reader that takes a Version with data. Bites at INS 03 with Lc 1.
abbrev pub VersionExactly : (List ℕ → Outcome Command) → Type 0
VersionExactly command =
    (frame : List ℕ) → (command frame ≡ Gives Version)
    ↔ ((said : Says) × (read_of frame ≡ Gives said) × (said.header.cla ≡ 0x00) × (said.header.ins ≡ 0x03) × (said.lc ≡ 0))

-- 02, E2: "INS C0, with CLA, P1 and P2 zero, fetches the next part": C0 is a fourth command, at Lc 0. Rejects a reader that knows three
-- (6d00, as document 01 had it), and one that does not look at P2. Bites at 00 C0 00 00.
abbrev pub GetResponseExactly : (List ℕ → Outcome Command) → Type 0
GetResponseExactly command =
    (frame : List ℕ) → (command frame ≡ Gives GetResponse)
    ↔ ((said : Says) × (read_of frame ≡ Gives said) × (said.header.cla ≡ 0x00) × (said.header.ins ≡ 0xC0) × (said.header.p1 ≡ 0x00) × (said.header.p2 ≡ 0x00) × (said.lc ≡ 0))

-- ---- a status, exactly when: "In this order: shape (6a80, 6700); CLA not 0 gives 6e00; then by INS"

-- 6e00: the frame has a shape, and CLA is not 0, whatever INS, Lc and P1. Rejects a reader that looks at a Register's, a Version's or
-- an Authenticate's Lc before CLA, one that looks at INS before CLA, and one that does not look at CLA. Bites at CLA 01 with Lc 63.
abbrev pub ClassExactly : (List ℕ → Outcome Command) → Type 0
ClassExactly command =
    (frame : List ℕ) → (command frame ≡ SW 0x6e00) ↔ ((said : Says) × (read_of frame ≡ Gives said) × (said.header.cla ≡ 0x00 → ⊥))

-- 6a86: "C0 after the CLA check gives 6a86 for nonzero P1 or P2", and nothing else does. Rejects a reader that looks at C0's Lc first. Bites
-- at 00 C0 00 01 with data.
abbrev pub ParametersExactly : (List ℕ → Outcome Command) → Type 0
ParametersExactly command =
    (frame : List ℕ) → (command frame ≡ SW 0x6a86) ↔ ((said : Says) × (read_of frame ≡ Gives said) × (said.header.cla ≡ 0x00) × WrongParameters said)

-- 6d00: "40..BF vendor and all others: 6d00, at any Lc." Rejects a vendor's INS taken for Version, and
-- 6700 for an unknown INS with data. Bites at INS 40.
abbrev pub InstructionExactly : (List ℕ → Outcome Command) → Type 0
InstructionExactly command =
    (frame : List ℕ) → (command frame ≡ SW 0x6d00)
    ↔ ((said : Says) × (read_of frame ≡ Gives said) × (said.header.cla ≡ 0x00) × UnknownInstruction said)

-- 6700, by its number: the frame is in no shape; or CLA is 0 and Lc does not fit INS. Rejects a reader that looks at P1 before the
-- handle length, which gives 6a80 there. Bites at an Authenticate with P1 00 and a wrong handle length.
abbrev pub LengthExactly : (List ℕ → Outcome Command) → Type 0
LengthExactly command =
    (frame : List ℕ) → HasStatus 0x6700 (command frame)
    ↔ (HasStatus 0x6700 (read_of frame) ⊎ ((said : Says) × (read_of frame ≡ Gives said) × (said.header.cla ≡ 0x00) × WrongLc frame said))

-- 02, E1: "The 6700s for Lc against INS are a third kind, with place 4 in every shape": Register's Lc, both of Authenticate's tests,
-- Version's Lc; and C0's. Rejects place 5 for the extended shapes. Bites at a Register of shape 5 with Lc 1.
abbrev pub AgainstInsExactly : (List ℕ → Outcome Command) → Type 0
AgainstInsExactly command =
    (frame : List ℕ) → (command frame ≡ wrong_length 3 4)
    ↔ ((said : Says) × (read_of frame ≡ Gives said) × (said.header.cla ≡ 0x00) × WrongLc frame said)

-- "Command reading .. carry the pair upward": every other pair is the frame's own, as its reading found it. Rejects a command reading
-- that drops it, and one that tells it as the third kind. Bites at 00 01 00 00 | 00 01.
abbrev pub CarriedExactly : (List ℕ → Outcome Command) → Type 0
CarriedExactly command =
    (frame : List ℕ) (kind place : ℕ) → (kind ≡ 3 → ⊥) → (command frame ≡ wrong_length kind place) ↔ (read_of frame ≡ wrong_length kind place)

-- A 6700 has a pair, and no other status word has one. Rejects a third kind without its pair. Bites at a Register with Lc 1.
abbrev pub CommandPairsExactly : (List ℕ → Outcome Command) → Type 0
CommandPairsExactly command = PairsExactly command

-- 6a80: the frame has under 4 bytes; or it is an Authenticate whose lengths fit, and "P1 not 03, 07 or 08". Rejects a reader that
-- takes any P1, so that it is looked at only after an order is made, and one that gives 6700 to three bytes. Bites at an Authenticate
-- with P1 00.
abbrev pub ControlExactly : (List ℕ → Outcome Command) → Type 0
ControlExactly command =
    (frame : List ℕ) → (command frame ≡ SW 0x6a80)
    ↔ ((length frame < 4) ⊎ ((said : Says) × (read_of frame ≡ Gives said) × (said.header.cla ≡ 0x00) × WrongControl frame said))

-- The ten together: every answer of command reading, each exactly when. They determine it on every frame.
pub record CommandExactly (command : List ℕ → Outcome Command) : Type 0 where
  pub register : RegisterExactly command
  pub authenticate : AuthenticateExactly command
  pub version : VersionExactly command
  pub get_response : GetResponseExactly command
  pub parameters : ParametersExactly command
  pub class : ClassExactly command
  pub instruction : InstructionExactly command
  pub against_ins : AgainstInsExactly command
  pub carried : CarriedExactly command
  pub control : ControlExactly command

-- The same behind the reading, of any frame and whatever it is said to say (ours: `instructed` takes that from its caller): every answer,
-- each exactly when. Rejects one that does not look at CLA, and the third kind at place 5.
pub record InstructedExactly (by : List ℕ → Says → Outcome Command) : Type 0 where
  pub register : (frame : List ℕ) (said s : Says) → (by frame said ≡ Gives (Register s))
      ↔ ((said ≡ s) × (said.header.cla ≡ 0x00) × (said.header.ins ≡ 0x01) × (said.lc ≡ 64))
  pub authenticate : (frame : List ℕ) (said : Says) (p1 : ℕ) (s : Says) → (by frame said ≡ Gives (Authenticate p1 s))
      ↔ ((said ≡ s) × (said.header.p1 ≡ p1) × (said.header.cla ≡ 0x00) × (said.header.ins ≡ 0x02)
      × (65 ≤ said.lc) × (said.lc ≡ 65 + byte (data_of frame said) 64) × (eqb p1 0x03 || eqb p1 0x07 || eqb p1 0x08 ≡ true))
  pub version : (frame : List ℕ) (said : Says) → (by frame said ≡ Gives Version) ↔ ((said.header.cla ≡ 0x00) × (said.header.ins ≡ 0x03) × (said.lc ≡ 0))
  pub get_response : (frame : List ℕ) (said : Says) → (by frame said ≡ Gives GetResponse)
      ↔ ((said.header.cla ≡ 0x00) × (said.header.ins ≡ 0xC0) × (said.header.p1 ≡ 0x00) × (said.header.p2 ≡ 0x00) × (said.lc ≡ 0))
  pub parameters : (frame : List ℕ) (said : Says) → (by frame said ≡ SW 0x6a86) ↔ ((said.header.cla ≡ 0x00) × WrongParameters said)
  pub class : (frame : List ℕ) (said : Says) → (by frame said ≡ SW 0x6e00) ↔ (said.header.cla ≡ 0x00 → ⊥)
  pub instruction : (frame : List ℕ) (said : Says) → (by frame said ≡ SW 0x6d00) ↔ ((said.header.cla ≡ 0x00) × UnknownInstruction said)
  pub against_ins : (frame : List ℕ) (said : Says) → (by frame said ≡ wrong_length 3 4) ↔ ((said.header.cla ≡ 0x00) × WrongLc frame said)
  pub control : (frame : List ℕ) (said : Says) → (by frame said ≡ SW 0x6a80) ↔ ((said.header.cla ≡ 0x00) × WrongControl frame said)

-- And of any frame, however it is said to have been read (ours: `on_reading` takes that from its caller): a status is carried as it is, a
-- frame is answered as above. Rejects one that drops a status's pair, and one that takes bytes in no shape for an unknown INS.
pub record OnReadingExactly (on : List ℕ → Outcome Says → Outcome Command) : Type 0 where
  pub status : (frame : List ℕ) (w : StatusWord) → on frame (Word w) ≡ Word w
  pub refused : (frame : List ℕ) (n : ℕ) → on frame (R n) ≡ R n
  pub read : InstructedExactly (λ frame said. on frame (Gives said))

-- ---- the parts of the data, and where they stand

-- "Data: challenge 32, application 32." They are the whole of a Register's data, in this order.
-- Rejects an application that is the challenge. Bites at every Register whose two differ.
abbrev pub RegisterParts : (List ℕ → Outcome Command) → (List ℕ → Says → List ℕ) → (List ℕ → Says → List ℕ) → Type 0
RegisterParts command challenge application =
    (frame : List ℕ) (said : Says) → command frame ≡ Gives (Register said)
    → (data_of frame said ≡ challenge frame said ++ application frame said)
    × (length (challenge frame said) ≡ 32) × (length (application frame said) ≡ 32)

-- "The key handle is handed back as the part of the frame after data[64], up to the data's end and without the Le.": the parts of an
-- Authenticate's data are the whole of it, in this order, the handle's length in one byte before it.
-- Rejects a handle that takes the Le along. Bites at a frame of shape 4.
abbrev pub AuthenticateParts : (List ℕ → Outcome Command) → (List ℕ → Says → List ℕ) → (List ℕ → Says → List ℕ) → (List ℕ → Says → List ℕ) → Type 0
AuthenticateParts command challenge application handle =
    (frame : List ℕ) (p1 : ℕ) (said : Says) → command frame ≡ Gives (Authenticate p1 said)
    → (data_of frame said ≡ challenge frame said ++ (application frame said ++ (length (handle frame said) ∷ handle frame said)))
    × (length (challenge frame said) ≡ 32) × (length (application frame said) ≡ 32)

-- On any frame, whatever it is said to say: the parts at these numbers (none where they pass the frame's end: ours).
-- Rejects a challenge of 31 bytes, or a byte late; an application of 33; a handle a byte late, or empty. Bites at every command.
abbrev pub ChallengeExactly : (List ℕ → Says → List ℕ) → Type 0
ChallengeExactly cut = (frame : List ℕ) (said : Says) → cut frame said ≡ part_of frame said.data_at (said.data_at + 32)

abbrev pub ApplicationExactly : (List ℕ → Says → List ℕ) → Type 0
ApplicationExactly cut = (frame : List ℕ) (said : Says) → cut frame said ≡ part_of frame (said.data_at + 32) (said.data_at + 64)

abbrev pub HandleExactly : (List ℕ → Says → List ℕ) → Type 0
HandleExactly cut = (frame : List ℕ) (said : Says) → cut frame said ≡ part_of frame (said.data_at + 65) (said.data_at + said.lc)

-- The numbers themselves: 32 bytes, 32 bytes, one byte of length, and the rest of the data. Rejects a challenge at the header's end
-- in every shape, or of 31 bytes; an application that is the first part, or goes to the data's end.
abbrev pub ChallengePlaceExactly : (Says → Place) → Type 0
ChallengePlaceExactly place = (said : Says) → place said ≡ span said.data_at (said.data_at + 32)

abbrev pub ApplicationPlaceExactly : (Says → Place) → Type 0
ApplicationPlaceExactly place = (said : Says) → place said ≡ span (said.data_at + 32) (said.data_at + 64)

-- Rejects a handle that starts a byte late, and one that takes the Le along.
abbrev pub HandlePlaceExactly : (Says → Place) → Type 0
HandlePlaceExactly place = (said : Says) → place said ≡ span (said.data_at + 65) (said.data_at + said.lc)

-- The parts are cut at the numbers that are handed out; and of a command these numbers lie within the frame, one part behind the
-- other. Rejects numbers and parts that differ, and numbers past the frame's end. Bites at every command.
pub record CutAtPlaces (challenge application handle : List ℕ → Says → List ℕ) (challenge_at application_at handle_at : Says → Place) : Type 0 where
  pub challenge_cut : (frame : List ℕ) (said : Says) → challenge frame said ≡ part_of frame (challenge_at said).start (challenge_at said).end
  pub application_cut : (frame : List ℕ) (said : Says) → application frame said ≡ part_of frame (application_at said).start (application_at said).end
  pub handle_cut : (frame : List ℕ) (said : Says) → handle frame said ≡ part_of frame (handle_at said).start (handle_at said).end
  pub register_within : (frame : List ℕ) (said : Says) → command_of frame ≡ Gives (Register said)
      → (4 ≤ (challenge_at said).start) × ((challenge_at said).end ≡ (application_at said).start) × ((application_at said).end ≤ length frame)
  pub authenticate_within : (frame : List ℕ) (p1 : ℕ) (said : Says) → command_of frame ≡ Gives (Authenticate p1 said)
      → (4 ≤ (challenge_at said).start) × ((challenge_at said).end ≡ (application_at said).start) × ((application_at said).end < (handle_at said).start)
      × ((handle_at said).start ≤ (handle_at said).end) × ((handle_at said).end ≤ length frame)

-- ---- the control byte's numbers

-- FIDO: 07 check only, 03 enforce user presence and sign, 08 don't enforce user presence and sign. Rejects 03 said as 07. Bites at all three.
pub record FlagsNumberExactly (number : Ctap1Flags → ℕ) : Type 0 where
  pub check_only : number CheckOnly ≡ 0x07
  pub enforce : number EnforceUpAndSign ≡ 0x03
  pub do_not_enforce : number DontEnforceUpAndSign ≡ 0x08

abbrev pub FlagsOneToOne : Type 0
FlagsOneToOne = (a b : Ctap1Flags) → flags_no a ≡ flags_no b → a ≡ b

abbrev pub CommandOneToOne : Type 0
CommandOneToOne = (a b : CommandReading) → command_said a ≡ command_said b → a ≡ b

-- ---- what an answer says, and the contracts

-- Each command with what its frame says, an Authenticate with its P1, a status word with its number and pair: each case has its words, and no other has
-- them. Rejects a view with Version and GetResponse in each other's place (`version_for_fetch`), one that takes a Register for an Authenticate (`register_for_login`), and
-- one that drops a status word's pair (`pair_unsaid`).
pub record SaidExactly (said : CommandReading → Outcome Command) : Type 0 where
  pub register : (c : CommandReading) (a : Apdu) → (said c ≡ Gives (Register (says_of a))) ↔ (c ≡ Ok (U2fCommand'.Register a))
  pub authenticate : (c : CommandReading) (flags : Ctap1Flags) (a : Apdu) → (said c ≡ Gives (Authenticate (flags_no flags) (says_of a))) ↔ (c ≡ Ok (U2fCommand'.Authenticate flags a))
  pub version : (c : CommandReading) → (said c ≡ Gives Version) ↔ (c ≡ Ok U2fCommand'.Version)
  pub get_response : (c : CommandReading) → (said c ≡ Gives GetResponse) ↔ (c ≡ Ok U2fCommand'.GetResponse)
  pub status : (c : CommandReading) (s : ApduStatusCode) → (said c ≡ Word (word_of s)) ↔ (c ≡ Err s)

-- Whatever meets a function's contract meets the claim on it, the functions that no call from C comes to as well. One that takes what a frame says as the code
-- holds it gives what whatever meets the claim gives of the numbers. A contract of `key_handle` that names the application fails it, with code to match.
pub record ContractsAsClaimed : Type 0 where
  pub flags_number : (f : Ctap1Flags → ℕ) → ((flags : Ctap1Flags) → FlagsNumber flags (f flags)) → FlagsNumberExactly f
  pub instructed : (f : List ℕ → Apdu → CommandReading) → ((frame : List ℕ) (a : Apdu) → Instructed frame a (f frame a))
      → (g : List ℕ → Says → Outcome Command) → InstructedExactly g → (frame : List ℕ) (a : Apdu) → command_said (f frame a) ≡ g frame (says_of a)
  pub on_reading : (f : List ℕ → Reading → CommandReading) → ((frame : List ℕ) (r : Reading) → OnReading frame r (f frame r))
      → (g : List ℕ → Outcome Says → Outcome Command) → OnReadingExactly g → (frame : List ℕ) (r : Reading) → command_said (f frame r) ≡ g frame (reading_of r)
  pub read_command : (f : List ℕ → CommandReading) → ((frame : List ℕ) → ReadCommand frame (f frame)) → CommandExactly (λ frame. command_said (f frame))
  pub challenge_place : (f : Apdu → Place) → ((a : Apdu) → ChallengePlace a (f a)) → (g : Says → Place) → ChallengePlaceExactly g → (a : Apdu) → f a ≡ g (says_of a)
  pub application_place : (f : Apdu → Place) → ((a : Apdu) → ApplicationPlace a (f a)) → (g : Says → Place) → ApplicationPlaceExactly g → (a : Apdu) → f a ≡ g (says_of a)
  pub handle_place : (f : Apdu → Place) → ((a : Apdu) → HandlePlace a (f a)) → (g : Says → Place) → HandlePlaceExactly g → (a : Apdu) → f a ≡ g (says_of a)
  pub challenge : (f : List ℕ → Apdu → List ℕ) → ((frame : List ℕ) (a : Apdu) → Challenge frame a (f frame a))
      → (g : List ℕ → Says → List ℕ) → ChallengeExactly g → (frame : List ℕ) (a : Apdu) → f frame a ≡ g frame (says_of a)
  pub application : (f : List ℕ → Apdu → List ℕ) → ((frame : List ℕ) (a : Apdu) → Application frame a (f frame a))
      → (g : List ℕ → Says → List ℕ) → ApplicationExactly g → (frame : List ℕ) (a : Apdu) → f frame a ≡ g frame (says_of a)
  pub key_handle : (f : List ℕ → Apdu → List ℕ) → ((frame : List ℕ) (a : Apdu) → KeyHandle frame a (f frame a))
      → (g : List ℕ → Says → List ℕ) → HandleExactly g → (frame : List ℕ) (a : Apdu) → f frame a ≡ g frame (says_of a)

-- ---- two results that satisfy a contract are equal, for each public function
pub record ResultsDetermined : Type 0 where
  pub flags_number : (f : Ctap1Flags) → AtMostOne (FlagsNumber f)
  pub instructed : (frame : List ℕ) (a : Apdu) → AtMostOne (Instructed frame a)
  pub on_reading : (frame : List ℕ) (reading : Reading) → AtMostOne (OnReading frame reading)
  pub read_command : (frame : List ℕ) → AtMostOne (ReadCommand frame)
  pub challenge_place : (a : Apdu) → AtMostOne (ChallengePlace a)
  pub application_place : (a : Apdu) → AtMostOne (ApplicationPlace a)
  pub handle_place : (a : Apdu) → AtMostOne (HandlePlace a)
  pub challenge : (frame : List ℕ) (a : Apdu) → AtMostOne (Challenge frame a)
  pub application : (frame : List ℕ) (a : Apdu) → AtMostOne (Application frame a)
  pub key_handle : (frame : List ℕ) (a : Apdu) → AtMostOne (KeyHandle frame a)
