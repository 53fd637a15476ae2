-- The definitions of command reading, case by case, as the code meets them. It mentions no function.
use Prim.Native.Nat.{ℕ, ◌+◌, ◌<◌, ◌≤◌}
use mathlib.Core.Path.{◌≡◌, ap, sym, ◌∙◌}
use mathlib.Core.Bool.{true, not}
use mathlib.Core.List.{List}
use borrow.Author.Tests.{lt-ltb, le-ltb, eq-eqb, ne_eqb}
use Rattle.outcome.specs.Notation.{when◌then◌else◌}
use Rattle.outcome.specs.Outcome.{StatusWord, Outcome, Word, SW, Gives, against_ins}
use Rattle.octets.specs.Bytes.{byte}
use Rattle.apdu_stated.specs.Answers.{Says, reading_of, Reading}
use Rattle.apdu_stated.specs.Reading.{read_of, data_of}
use Rattle.command_stated.specs.Command.{Command, Register, Authenticate, Version, GetResponse, is_control, register_of, authenticate_of, version_of, get_response_of, by_instruction, on_reading, command_of}

-- ---- Authenticate
module _ (frame : List ℕ) (said : Says) where
  pub auth_short : (o : Outcome Command) → o ≡ against_ins → said.lc < 65 → o ≡ authenticate_of frame said
  unfolding authenticate_of
  auth_short o is h = is ∙ rw (lt-ltb said.lc 65 h)

  module _ (content : List ℕ) (b h : ℕ) (is_content : content ≡ data_of frame said) (is_h : h ≡ byte content 64) (long : 65 ≤ said.lc) where
    same_h : h ≡ byte (data_of frame said) 64
    same_h = is_h ∙ ap (λ (l : List ℕ). byte l 64) is_content

    pub auth_other : (o : Outcome Command) → o ≡ against_ins → (said.lc ≡ 65 + h → ⊥) → o ≡ authenticate_of frame said
    unfolding authenticate_of
    auth_other o is n = is ∙ rw (le-ltb said.lc 65 long, ← same_h, ne_eqb said.lc (65 + h) n)

    module _ (fits : said.lc ≡ 65 + h) where
      by_control : {o : Outcome Command} → (when not (is_control said.header.p1) then SW 0x6a80 else Gives (Authenticate said.header.p1 said)) ≡ o → o ≡ authenticate_of frame said
      unfolding authenticate_of
      by_control e = rw (le-ltb said.lc 65 long, ← same_h, eq-eqb said.lc (65 + h) fits) (sym e)

      pub auth_control : (k : ℕ) → is_control k ≡ true → said.header.p1 ≡ k → Gives (Authenticate k said) ≡ authenticate_of frame said
      auth_control k c e = by_control (rw (e, c))

      pub auth_wrong : (said.header.p1 ≡ 0x03 → ⊥) → (said.header.p1 ≡ 0x07 → ⊥) → (said.header.p1 ≡ 0x08 → ⊥) → SW 0x6a80 ≡ authenticate_of frame said
      auth_wrong n3 n7 n8 = by_control (rw (ne_eqb said.header.p1 0x03 n3, ne_eqb said.header.p1 0x07 n7, ne_eqb said.header.p1 0x08 n8))

  -- ---- GET RESPONSE
  pub fetch_p1 : (said.header.p1 ≡ 0x00 → ⊥) → SW 0x6a86 ≡ get_response_of said
  unfolding get_response_of
  fetch_p1 n = rw (ne_eqb said.header.p1 0x00 n)

  pub fetch_p2 : said.header.p1 ≡ 0x00 → (said.header.p2 ≡ 0x00 → ⊥) → SW 0x6a86 ≡ get_response_of said
  unfolding get_response_of
  fetch_p2 p1 n = rw (p1, ne_eqb said.header.p2 0x00 n)

  module _ (p1 : said.header.p1 ≡ 0x00) (p2 : said.header.p2 ≡ 0x00) where
    pub fetch_other : (o : Outcome Command) → o ≡ against_ins → (said.lc ≡ 0 → ⊥) → o ≡ get_response_of said
    unfolding get_response_of
    fetch_other o is n = is ∙ rw (p1, p2, ne_eqb said.lc 0 n)

    pub fetch_0 : said.lc ≡ 0 → Gives GetResponse ≡ get_response_of said
    unfolding get_response_of
    fetch_0 e = rw (p1, p2, eq-eqb said.lc 0 e)

  -- ---- by INS
  pub wrong_cla : (said.header.cla ≡ 0x00 → ⊥) → SW 0x6e00 ≡ by_instruction frame said
  unfolding by_instruction
  wrong_cla n = rw (ne_eqb said.header.cla 0x00 n)

  module _ (cla : said.header.cla ≡ 0x00) where
    module _ (ins : said.header.ins ≡ 0x01) where
      pub register_other : (o : Outcome Command) → o ≡ against_ins → (said.lc ≡ 64 → ⊥) → o ≡ by_instruction frame said
      unfolding by_instruction register_of
      register_other o is n = is ∙ rw (cla, ins, ne_eqb said.lc 64 n)

      pub register_64 : said.lc ≡ 64 → Gives (Register said) ≡ by_instruction frame said
      unfolding by_instruction register_of
      register_64 e = rw (cla, ins, eq-eqb said.lc 64 e)

    pub authenticates : (o : Outcome Command) → said.header.ins ≡ 0x02 → o ≡ authenticate_of frame said → o ≡ by_instruction frame said
    unfolding by_instruction
    authenticates o ins e = e ∙ rw (cla, ins)

    module _ (ins : said.header.ins ≡ 0x03) where
      pub version_other : (o : Outcome Command) → o ≡ against_ins → (said.lc ≡ 0 → ⊥) → o ≡ by_instruction frame said
      unfolding by_instruction version_of
      version_other o is n = is ∙ rw (cla, ins, ne_eqb said.lc 0 n)

      pub version_0 : said.lc ≡ 0 → Gives Version ≡ by_instruction frame said
      unfolding by_instruction version_of
      version_0 e = rw (cla, ins, eq-eqb said.lc 0 e)

    pub fetches : (o : Outcome Command) → said.header.ins ≡ 0xC0 → o ≡ get_response_of said → o ≡ by_instruction frame said
    unfolding by_instruction
    fetches o ins e = e ∙ rw (cla, ins)

    pub unknown : (said.header.ins ≡ 0x01 → ⊥) → (said.header.ins ≡ 0x02 → ⊥) → (said.header.ins ≡ 0x03 → ⊥) → (said.header.ins ≡ 0xC0 → ⊥) → SW 0x6d00 ≡ by_instruction frame said
    unfolding by_instruction
    unknown n1 n2 n3 n4 = rw (cla, ne_eqb said.header.ins 0x01 n1, ne_eqb said.header.ins 0x02 n2, ne_eqb said.header.ins 0x03 n3, ne_eqb said.header.ins 0xC0 n4)

-- ---- on a reading that is handed in
module _ (frame : List ℕ) (r : Reading) where
  pub of_reading : (o : Outcome Command) → reading_of r ≡ read_of frame → o ≡ on_reading frame (reading_of r) → o ≡ command_of frame
  unfolding command_of
  of_reading o is e = e ∙ ap (on_reading frame) is

-- ---- on the reading
pub by_reading : (frame : List ℕ) (said : Says) → read_of frame ≡ Gives said → command_of frame ≡ by_instruction frame said
unfolding command_of on_reading
by_reading frame said e = ap (on_reading frame) e

pub by_status : (frame : List ℕ) (w : StatusWord) → read_of frame ≡ Word w → command_of frame ≡ Word w
unfolding command_of on_reading
by_status frame w e = ap (on_reading frame) e
