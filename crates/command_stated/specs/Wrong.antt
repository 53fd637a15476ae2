-- Wrong programs, one fault each. proofs/Refuted.antt shows the claim that is false of each.
use Rattle.std.specs.Prelude.{◌+◌, Ok, Err}
use Rattle.command_stated.specs.Words.{ℕ, not, List, [], length, ltb, eqb, when◌then◌else◌, StatusWord, Outcome, R, Word, SW, Gives, wrong_length, against_ins, word_of, byte, part_of, Place}
use Rattle.command_stated.specs.declared.U2fCommand.TheVariants as U2fCommand'
use Rattle.apdu_stated.specs.Answers.{Says, says_of}
use Rattle.apdu_stated.specs.Reading.{read_of, data_of}
use Rattle.apdu_stated.specs.Terms.{span}
use Rattle.command_stated.specs.Command.{Ctap1Flags, CheckOnly, EnforceUpAndSign, DontEnforceUpAndSign, CommandReading, flags_no, Command, Register, Authenticate, Version, GetResponse, is_control, register_of, authenticate_of, version_of, get_response_of, by_instruction, command_of, challenge_of}

-- a frame that is read, and then something else than the definition's tests
abbrev on_read : (Says → Outcome Command) → Outcome Says → Outcome Command
on_read by (Gives said) = by said
on_read by (Word s) = Word s
on_read by (R n) = R n

-- ---- the order: "CLA not 0 gives 6e00; then by INS"

-- a Register's Lc is looked at before CLA
abbrev pub register_before_class : List ℕ → Outcome Command
register_before_class frame = on_read (λ said. when eqb said.header.ins 0x01 then register_of said else by_instruction frame said) (read_of frame)

-- an Authenticate's
abbrev pub authenticate_before_class : List ℕ → Outcome Command
authenticate_before_class frame = on_read (λ said. when eqb said.header.ins 0x02 then authenticate_of frame said else by_instruction frame said) (read_of frame)

-- a Version's
abbrev pub version_before_class : List ℕ → Outcome Command
version_before_class frame = on_read (λ said. when eqb said.header.ins 0x03 then version_of said else by_instruction frame said) (read_of frame)

-- an unknown INS is refused before CLA is looked at
abbrev pub instruction_before_class : List ℕ → Outcome Command
instruction_before_class frame = on_read (λ said. when ltb 0x03 said.header.ins then SW 0x6d00 else by_instruction frame said) (read_of frame)

-- CLA is not looked at
abbrev pub class_not_looked_at : List ℕ → Outcome Command
class_not_looked_at frame =
    on_read (λ said.
    when eqb said.header.ins 0x01 then register_of said
    else when eqb said.header.ins 0x02 then authenticate_of frame said
    else when eqb said.header.ins 0x03 then version_of said
    else SW 0x6d00)
    (read_of frame)

-- "shape (6a80, 6700)": here a frame under 4 bytes gets 6700
abbrev pub short_frame_gets6700 : List ℕ → Outcome Command
short_frame_gets6700 frame = when ltb (length frame) 4 then SW 0x6700 else command_of frame

-- ---- Register

-- "P1 is not looked at"
abbrev pub register_looks_at_p1 : List ℕ → Outcome Command
register_looks_at_p1 frame =
    on_read (λ said. when eqb said.header.ins 0x01 then (when not (eqb said.header.p1 0x03) then against_ins else by_instruction frame said) else by_instruction frame said) (read_of frame)

-- "Lc not 64 gives 6700": here Lc 65 is taken
abbrev pub register_of65 : List ℕ → Outcome Command
register_of65 frame = on_read (λ said. when eqb said.header.ins 0x01 then (when eqb said.lc 65 then Gives (Register said) else by_instruction frame said) else by_instruction frame said) (read_of frame)

-- ---- Authenticate, of a frame of CLA 0

-- "Lc under 65": here under 66, so that an empty handle is refused
abbrev pub empty_handle_refused : List ℕ → Outcome Command
empty_handle_refused frame = on_read (λ said. when ltb said.lc 66 then against_ins else authenticate_of frame said) (read_of frame)

-- "Lc not 65 + data[64]": here 64
abbrev pub length_byte_uncounted : List ℕ → Outcome Command
length_byte_uncounted frame =
    on_read (λ said. when not (eqb said.lc (64 + byte (data_of frame said) 64)) then against_ins else Gives (Authenticate said.header.p1 said)) (read_of frame)

-- "P1 looked at before the handle length", a mistake that a quick port makes
abbrev pub control_before_length : List ℕ → Outcome Command
control_before_length frame = on_read (λ said. when not (is_control said.header.p1) then SW 0x6a80 else authenticate_of frame said) (read_of frame)

-- "P1 not 03, 07 or 08 gives 6a80": here any P1 is taken, and looked at when the order is made
abbrev pub any_control : List ℕ → Outcome Command
any_control frame =
    on_read (λ said. when not (eqb said.lc (65 + byte (data_of frame said) 64)) then against_ins else Gives (Authenticate said.header.p1 said)) (read_of frame)

-- P1 03 is said as 07: no touch would be asked for
abbrev pub enforce_said_as_check_only : List ℕ → Outcome Command
enforce_said_as_check_only frame = on_read (λ said. Gives (Authenticate 0x07 said)) (read_of frame)

-- ---- the others

-- "40..BF vendor and all others: 6d00": here INS 40 is a Version
abbrev pub vendor_as_version : List ℕ → Outcome Command
vendor_as_version frame = on_read (λ said. when eqb said.header.ins 0x40 then Gives Version else by_instruction frame said) (read_of frame)

-- "03 Version: Lc not 0 gives 6700": here Lc is not looked at
abbrev pub version_with_data : List ℕ → Outcome Command
version_with_data frame = on_read (λ said. when eqb said.header.ins 0x03 then Gives Version else by_instruction frame said) (read_of frame)

-- "6d00, at any Lc": here an unknown INS with data gets 6700
abbrev pub unknown_by_length : List ℕ → Outcome Command
unknown_by_length frame = on_read (λ said. when ltb 0x03 said.header.ins then version_of said else by_instruction frame said) (read_of frame)

-- ---- GET RESPONSE: 02, E2, of a frame of CLA 0

-- "this amends 01's 6d00": here C0 is still unknown
abbrev pub three_commands : List ℕ → Outcome Command
three_commands frame = on_read (λ said. when eqb said.header.ins 0xC0 then SW 0x6d00 else by_instruction frame said) (read_of frame)

-- "nonzero P1 or P2": P2 is not looked at
abbrev pub p2_not_looked_at : List ℕ → Outcome Command
p2_not_looked_at frame =
    on_read (λ said. when eqb said.header.ins 0xC0 then (when not (eqb said.header.p1 0x00) then SW 0x6a86 else when not (eqb said.lc 0) then against_ins else Gives GetResponse) else by_instruction frame said) (read_of frame)

-- "then 6700 for Lc not 0": first
abbrev pub fetch_length_first : List ℕ → Outcome Command
fetch_length_first frame =
    on_read (λ said. when eqb said.header.ins 0xC0 then (when not (eqb said.lc 0) then against_ins else get_response_of said) else by_instruction frame said) (read_of frame)

-- ---- on a reading: a status's pair dropped; bytes in no shape told as an unknown INS
abbrev pub on_reading_drops : List ℕ → Outcome Says → Outcome Command
on_reading_drops frame (Gives said) = by_instruction frame said
on_reading_drops frame (Word w) = SW w.number
on_reading_drops frame (R n) = R n

abbrev pub on_reading_unknown : List ℕ → Outcome Says → Outcome Command
on_reading_unknown frame (Gives said) = by_instruction frame said
on_reading_unknown frame (Word w) = SW 0x6d00
on_reading_unknown frame (R n) = R n

-- ---- the pair: 02, E1

-- "with place 4 in every shape": here 5, behind the 00, in the extended ones
abbrev at5 : Outcome Command → Outcome Command
at5 (R n) = R n
at5 (Word w) = when eqb w.kind 3 then wrong_length 3 5 else Word w
at5 (Gives c) = Gives c

abbrev pub extended_at5 : List ℕ → Outcome Command
extended_at5 frame = on_read (λ said. when eqb said.data_at 7 then at5 (by_instruction frame said) else by_instruction frame said) (read_of frame)

-- the same of what a frame is said to say, in every shape; and there CLA is not looked at
abbrev pub instructed_at5 : List ℕ → Says → Outcome Command
instructed_at5 frame said = at5 (by_instruction frame said)

abbrev pub instructed_without_class : List ℕ → Says → Outcome Command
instructed_without_class frame said = when eqb said.header.ins 0x03 then version_of said else by_instruction frame said

-- "carry the pair upward": here the frame's own is dropped; and here it is told as the third kind
abbrev own_by : (StatusWord → Outcome Command) → List ℕ → Outcome Says → Outcome Command
own_by own frame (Gives said) = by_instruction frame said
own_by own frame (Word w) = own w
own_by own frame (R n) = R n

abbrev pub own_pair_dropped : List ℕ → Outcome Command
own_pair_dropped frame = own_by (λ w. SW w.number) frame (read_of frame)

abbrev pub own_pair_as_third : List ℕ → Outcome Command
own_pair_as_third frame = own_by (λ w. when eqb w.number 0x6700 then against_ins else Word w) frame (read_of frame)

-- the third kind's number alone
abbrev number_alone : Outcome Command → Outcome Command
number_alone (R n) = R n
number_alone (Word w) = when eqb w.kind 3 then SW w.number else Word w
number_alone (Gives c) = Gives c

abbrev pub third_without_pair : List ℕ → Outcome Command
third_without_pair frame = number_alone (command_of frame)

-- ---- the parts: "challenge 32, application 32", "after data[64], up to the data's end and without the Le"
abbrev pub application_is_the_challenge : List ℕ → Says → List ℕ
application_is_the_challenge frame said = challenge_of frame said

abbrev pub application_of33 : List ℕ → Says → List ℕ
application_of33 frame said = part_of frame (said.data_at + 32) (said.data_at + 65)

abbrev pub challenge_late : List ℕ → Says → List ℕ
challenge_late frame said = part_of frame (said.data_at + 1) (said.data_at + 33)

abbrev pub challenge_of31 : List ℕ → Says → List ℕ
challenge_of31 frame said = part_of frame said.data_at (said.data_at + 31)

abbrev pub handle_one_byte_late : List ℕ → Says → List ℕ
handle_one_byte_late frame said = part_of frame (said.data_at + 66) (said.data_at + said.lc)

abbrev pub handle_with_the_le : List ℕ → Says → List ℕ
handle_with_the_le frame said = part_of frame (said.data_at + 65) (said.data_at + said.lc + 1)

abbrev pub handle_empty : List ℕ → Says → List ℕ
handle_empty frame said = []

-- the numbers
abbrev pub challenge_from_the_header : Says → Place
challenge_from_the_header said = span 4 36

abbrev pub challenge_place31 : Says → Place
challenge_place31 said = span said.data_at (said.data_at + 31)

abbrev pub application_place_first : Says → Place
application_place_first said = span said.data_at (said.data_at + 32)

abbrev pub application_place_to_the_end : Says → Place
application_place_to_the_end said = span (said.data_at + 32) (said.data_at + said.lc)

abbrev pub handle_place_late : Says → Place
handle_place_late said = span (said.data_at + 66) (said.data_at + said.lc)

abbrev pub handle_place_with_the_le : Says → Place
handle_place_with_the_le said = span (said.data_at + 65) (said.data_at + said.lc + 1)

-- the length byte among the handle's numbers; numbers past the frame's end
abbrev pub handle_numbers_early : Says → Place
handle_numbers_early said = span (said.data_at + 64) (said.data_at + said.lc)

abbrev pub handle_past_the_end : Says → Place
handle_past_the_end said = span (said.data_at + 65) (said.data_at + said.lc + 3)

-- ---- the control byte
abbrev pub enforce_numbered07 : Ctap1Flags → ℕ
enforce_numbered07 CheckOnly = 0x07
enforce_numbered07 EnforceUpAndSign = 0x07
enforce_numbered07 DontEnforceUpAndSign = 0x08

abbrev pub numbered_by_place : Ctap1Flags → ℕ
numbered_by_place CheckOnly = 1
numbered_by_place EnforceUpAndSign = 2
numbered_by_place DontEnforceUpAndSign = 3

-- ---- views: Version and GetResponse in each other's place; a Register said as an Authenticate; a status word without its pair
abbrev pub version_for_fetch : CommandReading → Outcome Command
version_for_fetch (Ok (U2fCommand'.Register a)) = Gives (Register (says_of a))
version_for_fetch (Ok (U2fCommand'.Authenticate flags a)) = Gives (Authenticate (flags_no flags) (says_of a))
version_for_fetch (Ok U2fCommand'.Version) = Gives GetResponse
version_for_fetch (Ok U2fCommand'.GetResponse) = Gives Version
version_for_fetch (Err s) = Word (word_of s)

abbrev pub register_for_login : CommandReading → Outcome Command
register_for_login (Ok (U2fCommand'.Register a)) = Gives (Authenticate 0x03 (says_of a))
register_for_login (Ok (U2fCommand'.Authenticate flags a)) = Gives (Register (says_of a))
register_for_login (Ok U2fCommand'.Version) = Gives Version
register_for_login (Ok U2fCommand'.GetResponse) = Gives GetResponse
register_for_login (Err s) = Word (word_of s)

abbrev pub pair_unsaid : CommandReading → Outcome Command
pair_unsaid (Ok (U2fCommand'.Register a)) = Gives (Register (says_of a))
pair_unsaid (Ok (U2fCommand'.Authenticate flags a)) = Gives (Authenticate (flags_no flags) (says_of a))
pair_unsaid (Ok U2fCommand'.Version) = Gives Version
pair_unsaid (Ok U2fCommand'.GetResponse) = Gives GetResponse
pair_unsaid (Err s) = SW (word_of s).number
