-- Every way through command reading, with the facts that it shows.
use Prim.Native.Nat.{ℕ, ◌+◌, ◌<◌, ◌≤◌}
use mathlib.Core.Path.{◌≡◌, refl, ap, subst, ◌∙◌}
use mathlib.Core.Bool.{true}
use mathlib.Core.List.{List}
use native.Mathlib.Omega.{arith}
use native.Mathlib.Decide.{ℕ_discrete, dec_lt}
use Rattle.outcome.specs.Outcome.{StatusWord, Outcome, Word, Gives, plain_word, against_ins}
use Rattle.octets.specs.Bytes.{byte}
use Rattle.apdu_stated.specs.Answers.{Says}
use Rattle.apdu_stated.specs.declared.Entry.TheVariants.{Ordinary}
use Rattle.apdu_stated.specs.Reading.{read_of, data_of}
use Rattle.apdu_stated.proofs.Laws.{FrameWay, under, found, ends, goes_on, frame_way}
use Rattle.command_stated.specs.Command.{Command, Register, Authenticate, Version, GetResponse, is_control, authenticate_of, get_response_of, by_instruction, on_reading, command_of}
use Rattle.command_stated.specs.Terms.{WrongLc, of_register, too_short, other_handle, of_version, of_get_response, WrongParameters, of_p1, of_p2, WrongControl, UnknownInstruction}
use Rattle.command_stated.proofs.Cases

-- why a frame of a shape gets a status
pub data Why (frame : List ℕ) (said : Says) : StatusWord → Type 0 where
  class : (said.header.cla ≡ 0x00 → ⊥) → Why frame said (plain_word 0x6e00)
  instruction : said.header.cla ≡ 0x00 → UnknownInstruction said → Why frame said (plain_word 0x6d00)
  parameters : said.header.cla ≡ 0x00 → WrongParameters said → Why frame said (plain_word 0x6a86)
  lengths : said.header.cla ≡ 0x00 → WrongLc frame said → Why frame said (record { number = 0x6700; kind = 3; place = 4 })
  control : said.header.cla ≡ 0x00 → WrongControl frame said → Why frame said (plain_word 0x6a80)

pub data Way (frame : List ℕ) (said : Says) : Outcome Command → Type 0 where
  register : said.header.cla ≡ 0x00 → said.header.ins ≡ 0x01 → said.lc ≡ 64 → Way frame said (Gives (Register said))
  authenticate : said.header.cla ≡ 0x00 → said.header.ins ≡ 0x02 → 65 ≤ said.lc → said.lc ≡ 65 + byte (data_of frame said) 64
      → is_control said.header.p1 ≡ true → Way frame said (Gives (Authenticate said.header.p1 said))
  version : said.header.cla ≡ 0x00 → said.header.ins ≡ 0x03 → said.lc ≡ 0 → Way frame said (Gives Version)
  fetch : said.header.cla ≡ 0x00 → said.header.ins ≡ 0xC0 → said.header.p1 ≡ 0x00 → said.header.p2 ≡ 0x00 → said.lc ≡ 0 → Way frame said (Gives GetResponse)
  status : {w : StatusWord} → Why frame said w → Way frame said (Word w)

module _ (frame : List ℕ) (said : Says) (cla : said.header.cla ≡ 0x00) (ins : said.header.ins ≡ 0x02) where
  auth_way : Way frame said (authenticate_of frame said)
  auth_way = go (dec_lt said.lc 65) (ℕ_discrete said.lc (65 + byte (data_of frame said) 64)) (ℕ_discrete said.header.p1 0x03) (ℕ_discrete said.header.p1 0x07) (ℕ_discrete said.header.p1 0x08)
    where
      given : 65 ≤ said.lc → said.lc ≡ 65 + byte (data_of frame said) 64 → (k : ℕ) → is_control k ≡ true → said.header.p1 ≡ k → Way frame said (authenticate_of frame said)
      given low fits k c e =
          let here : Gives (Authenticate said.header.p1 said) ≡ authenticate_of frame said = ap (λ (x : ℕ). Gives (Authenticate x said)) e ∙ Cases.auth_control frame said (data_of frame said) 0 (byte (data_of frame said) 64) refl refl low fits k c e in
          subst (Way frame said) here (authenticate cla ins low fits (ap is_control e ∙ c))

      go : Dec (said.lc < 65) → Dec (said.lc ≡ 65 + byte (data_of frame said) 64) → Dec (said.header.p1 ≡ 0x03) → Dec (said.header.p1 ≡ 0x07) → Dec (said.header.p1 ≡ 0x08) → Way frame said (authenticate_of frame said)
      go (yes h) f a b c = subst (Way frame said) (Cases.auth_short frame said against_ins refl h) (status (lengths cla (too_short ins h)))
      go (no h) (no f) a b c = subst (Way frame said) (Cases.auth_other frame said (data_of frame said) 0 (byte (data_of frame said) 64) refl refl (omega arith) against_ins refl f) (status (lengths cla (other_handle ins (omega arith) f)))
      go (no h) (yes f) (yes a) b c = given (omega arith) f 0x03 refl a
      go (no h) (yes f) (no a) (yes b) c = given (omega arith) f 0x07 refl b
      go (no h) (yes f) (no a) (no b) (yes c) = given (omega arith) f 0x08 refl c
      go (no h) (yes f) (no a) (no b) (no c) = subst (Way frame said) (Cases.auth_wrong frame said (data_of frame said) 0 (byte (data_of frame said) 64) refl refl (omega arith) f a b c) (status (control cla (record { ins = ins; long = omega arith; fits = f; not_03 = a; not_07 = b; not_08 = c })))

module _ (frame : List ℕ) (said : Says) (cla : said.header.cla ≡ 0x00) (ins : said.header.ins ≡ 0xC0) where
  fetch_way : Way frame said (get_response_of said)
  fetch_way = go (ℕ_discrete said.header.p1 0x00) (ℕ_discrete said.header.p2 0x00) (ℕ_discrete said.lc 0)
    where
      go : Dec (said.header.p1 ≡ 0x00) → Dec (said.header.p2 ≡ 0x00) → Dec (said.lc ≡ 0) → Way frame said (get_response_of said)
      go (no a) b l = subst (Way frame said) (Cases.fetch_p1 frame said a) (status (parameters cla (of_p1 ins a)))
      go (yes a) (no b) l = subst (Way frame said) (Cases.fetch_p2 frame said a b) (status (parameters cla (of_p2 ins b)))
      go (yes a) (yes b) (no l) = subst (Way frame said) (Cases.fetch_other frame said a b against_ins refl l) (status (lengths cla (of_get_response ins a b l)))
      go (yes a) (yes b) (yes l) = subst (Way frame said) (Cases.fetch_0 frame said a b l) (fetch cla ins a b l)

pub way : (frame : List ℕ) (said : Says) → Way frame said (by_instruction frame said)
way frame said = go (ℕ_discrete said.header.cla 0x00) (ℕ_discrete said.header.ins 0x01) (ℕ_discrete said.header.ins 0x02) (ℕ_discrete said.header.ins 0x03) (ℕ_discrete said.header.ins 0xC0) (ℕ_discrete said.lc 64) (ℕ_discrete said.lc 0)
  where
    go : Dec (said.header.cla ≡ 0x00) → Dec (said.header.ins ≡ 0x01) → Dec (said.header.ins ≡ 0x02) → Dec (said.header.ins ≡ 0x03) → Dec (said.header.ins ≡ 0xC0) → Dec (said.lc ≡ 64) → Dec (said.lc ≡ 0) → Way frame said (by_instruction frame said)
    go (no c) i1 i2 i3 i4 l64 l0 = subst (Way frame said) (Cases.wrong_cla frame said c) (status (class c))
    go (yes c) (yes i) i2 i3 i4 (yes l) l0 = subst (Way frame said) (Cases.register_64 frame said c i l) (register c i l)
    go (yes c) (yes i) i2 i3 i4 (no l) l0 = subst (Way frame said) (Cases.register_other frame said c i against_ins refl l) (status (lengths c (of_register i l)))
    go (yes c) (no i1) (yes i) i3 i4 l64 l0 = subst (Way frame said) (Cases.authenticates frame said c (authenticate_of frame said) i refl) (auth_way frame said c i)
    go (yes c) (no i1) (no i2) (yes i) i4 l64 (yes l) = subst (Way frame said) (Cases.version_0 frame said c i l) (version c i l)
    go (yes c) (no i1) (no i2) (yes i) i4 l64 (no l) = subst (Way frame said) (Cases.version_other frame said c i against_ins refl l) (status (lengths c (of_version i l)))
    go (yes c) (no i1) (no i2) (no i3) (yes i) l64 l0 = subst (Way frame said) (Cases.fetches frame said c (get_response_of said) i refl) (fetch_way frame said c i)
    go (yes c) (no i1) (no i2) (no i3) (no i4) l64 l0 = subst (Way frame said) (Cases.unknown frame said c i1 i2 i3 i4) (status (instruction c (record { not_01 = i1; not_02 = i2; not_03 = i3; not_C0 = i4 })))

-- what a command reading comes to: a status, or a way through a frame that was read
pub data Read (frame : List ℕ) : Outcome Command → Type 0 where
  read : (said : Says) → read_of frame ≡ Gives said → {o : Outcome Command} → Way frame said o → Read frame o
  unread : (w : StatusWord) → read_of frame ≡ Word w → Read frame (Word w)

pub reading : (frame : List ℕ) → Read frame (command_of frame)
unfolding command_of on_reading
reading frame = go (read_of frame) (frame_way Ordinary frame) refl
  where
    go : (o : Outcome Says) → FrameWay Ordinary frame o → read_of frame ≡ o → Read frame (on_reading frame o)
    go _ (under h) e = unread _ e
    go _ (ends h f) e = unread _ e
    go _ (goes_on h k f) e = unread _ e
    go _ (found long s lc le f) e = read _ e (way frame _)
