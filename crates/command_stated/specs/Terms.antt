-- Words that only the claims use.
use Rattle.std.specs.Prelude.{◌+◌, ◌≤◌, ◌<◌, ◌≡◌}
use Rattle.command_stated.specs.Words.{ℕ, List, byte}
use Rattle.apdu_stated.specs.Answers.{Says}
use Rattle.apdu_stated.specs.Reading.{data_of}

-- the data length of a frame of CLA 0 does not fit its INS
pub data WrongLc (frame : List ℕ) (said : Says) : Type 0 where
  -- "01 Register: Lc not 64 gives 6700"
  of_register : said.header.ins ≡ 0x01 → (said.lc ≡ 64 → ⊥) → WrongLc frame said
  -- "02 Authenticate: Lc under 65 gives 6700"
  too_short : said.header.ins ≡ 0x02 → said.lc < 65 → WrongLc frame said
  -- "Lc not 65 + data[64] gives 6700"
  other_handle : said.header.ins ≡ 0x02 → 65 ≤ said.lc → (said.lc ≡ 65 + byte (data_of frame said) 64 → ⊥) → WrongLc frame said
  -- "03 Version: Lc not 0 gives 6700"
  of_version : said.header.ins ≡ 0x03 → (said.lc ≡ 0 → ⊥) → WrongLc frame said
  -- 02, E2, C0: "then 6700 for Lc not 0": P1 and P2 come first
  of_get_response : said.header.ins ≡ 0xC0 → said.header.p1 ≡ 0x00 → said.header.p2 ≡ 0x00 → (said.lc ≡ 0 → ⊥) → WrongLc frame said

-- 02, E2, C0: "6a86 for nonzero P1 or P2"
pub data WrongParameters (said : Says) : Type 0 where
  of_p1 : said.header.ins ≡ 0xC0 → (said.header.p1 ≡ 0x00 → ⊥) → WrongParameters said
  of_p2 : said.header.ins ≡ 0xC0 → (said.header.p2 ≡ 0x00 → ⊥) → WrongParameters said

-- an Authenticate whose data length fits, and whose P1 is no control byte
pub record WrongControl (frame : List ℕ) (said : Says) : Type 0 where
  pub ins : said.header.ins ≡ 0x02
  pub long : 65 ≤ said.lc
  pub fits : said.lc ≡ 65 + byte (data_of frame said) 64
  pub not_03 : said.header.p1 ≡ 0x03 → ⊥
  pub not_07 : said.header.p1 ≡ 0x07 → ⊥
  pub not_08 : said.header.p1 ≡ 0x08 → ⊥

-- an INS that is none of the four
pub record UnknownInstruction (said : Says) : Type 0 where
  pub not_01 : said.header.ins ≡ 0x01 → ⊥
  pub not_02 : said.header.ins ≡ 0x02 → ⊥
  pub not_03 : said.header.ins ≡ 0x03 → ⊥
  pub not_C0 : said.header.ins ≡ 0xC0 → ⊥
