-- Document 01, 'From frame to command': "In this order: shape (6a80, 6700); CLA not 0 gives 6e00; then by INS". Document 02, E1: "The
-- 6700s for Lc against INS are a third kind, with place 4 in every shape"; a frame's own pair is carried upward.
-- What a frame says, or its status, is `read_of frame`, by the claims of InTable.antt; the bytes of its data, `data_of frame said`. A `Command`
-- is `Register said`, `Authenticate p1 said`, `Version` or `GetResponse`.
mod Words
use Words.*
pub use Rattle.command_stated.specs.Answers.{Command, Register, Authenticate, Version, GetResponse, Ctap1Flags, CheckOnly, EnforceUpAndSign, DontEnforceUpAndSign, flags_no, U2fCommand, CommandReading, command_said}

-- "01 Register: Lc not 64 gives 6700. P1 is not looked at."
unfoldable pub register_of : Says → Outcome Command
register_of said =
    when not (eqb said.lc 64) then against_ins
    else Gives (Register said)

-- "P1 not 03, 07 or 08 gives 6a80"
abbrev pub is_control : ℕ → Bool
is_control p1 = eqb p1 0x03 || eqb p1 0x07 || eqb p1 0x08

-- "02 Authenticate: Lc under 65 gives 6700; Lc not 65 + data[64] gives 6700; P1 not 03, 07 or 08 gives 6a80."
unfoldable pub authenticate_of : List ℕ → Says → Outcome Command
authenticate_of frame said =
    when ltb said.lc 65 then against_ins
    else when not (eqb said.lc (65 + byte (data_of frame said) 64)) then against_ins
    else when not (is_control said.header.p1) then SW 0x6a80
    else Gives (Authenticate said.header.p1 said)

-- "03 Version: Lc not 0 gives 6700."
unfoldable pub version_of : Says → Outcome Command
version_of said =
    when not (eqb said.lc 0) then against_ins
    else Gives Version

-- 02, E2: "C0 after the CLA check gives 6a86 for nonzero P1 or P2, then 6700 for Lc not 0"
unfoldable pub get_response_of : Says → Outcome Command
get_response_of said =
    when not (eqb said.header.p1 0x00) then SW 0x6a86
    else when not (eqb said.header.p2 0x00) then SW 0x6a86
    else when not (eqb said.lc 0) then against_ins
    else Gives GetResponse

-- "CLA not 0 gives 6e00; then by INS"; "40..BF vendor and all others: 6d00, at any Lc.", but for C0: 02, E2: "loses INS C0, where
-- this amends 01's 6d00"
unfoldable pub by_instruction : List ℕ → Says → Outcome Command
by_instruction frame said =
    when not (eqb said.header.cla 0x00) then SW 0x6e00
    else when eqb said.header.ins 0x01 then register_of said
    else when eqb said.header.ins 0x02 then authenticate_of frame said
    else when eqb said.header.ins 0x03 then version_of said
    else when eqb said.header.ins 0xC0 then get_response_of said
    else SW 0x6d00

-- "shape (6a80, 6700)" first, the frame's status as it is
unfoldable pub on_reading : List ℕ → Outcome Says → Outcome Command
on_reading frame (R n) = R n
on_reading frame (Word s) = Word s
on_reading frame (Gives said) = by_instruction frame said

unfoldable pub command_of : List ℕ → Outcome Command
command_of frame = on_reading frame (read_of frame)

-- "Data: challenge 32, application 32.": where they stand in the frame, and their bytes
abbrev pub challenge_place_of : Says → Place
challenge_place_of said = record { start = said.data_at; end = said.data_at + 32 }

abbrev pub application_place_of : Says → Place
application_place_of said = record { start = said.data_at + 32; end = said.data_at + 64 }

unfoldable pub challenge_of : List ℕ → Says → List ℕ
challenge_of frame said = part_of frame (challenge_place_of said).start (challenge_place_of said).end

unfoldable pub application_of : List ℕ → Says → List ℕ
application_of frame said = part_of frame (application_place_of said).start (application_place_of said).end

-- "The key handle is handed back as the part of the frame after data[64], up to the data's end and without the Le."
abbrev pub handle_place_of : Says → Place
handle_place_of said = record { start = said.data_at + 65; end = said.data_at + said.lc }

unfoldable pub handle_of : List ℕ → Says → List ℕ
handle_of frame said = part_of frame (handle_place_of said).start (handle_place_of said).end
