-- The definitions meet the claims of specs/Claims.antt, each under its claim's name.
use Prim.Native.Nat.{ℕ, ◌+◌, ◌-◌, ◌<◌, ◌≤◌}
use mathlib.Core.Path.{◌≡◌, refl, ap, sym, subst, ◌∙◌}
use mathlib.Core.Bool.{true}
use mathlib.Core.List.{List, [], ◌∷◌, ◌++◌, append-nil}
use mathlib.Core.Logic.{◌↔◌, ◌⊎◌, inl, inr}
use native.Mathlib.Omega.{arith}
use native.Mathlib.Decide.{ℕ_discrete}
use lib.ListN.{length}
use Rattle.outcome.specs.Outcome.{StatusWord, Outcome, Word, SW, Gives, plain_word, wrong_length, against_ins}
use Rattle.outcome.specs.Terms.{HasStatus}
use Rattle.outcome.proofs.Laws.{gives_same, word_same, word_gives, both_are}
use Rattle.octets.specs.Bytes.{byte, part_of}
use Rattle.octets.proofs.Laws.{part_split, part_length, part_byte, part_one}
use Rattle.apdu_stated.specs.Answers.{Says, says_of, reading_of}
use Rattle.apdu_stated.specs.Reading.{read_of, data_of}
use Rattle.apdu_stated.proofs.Laws.{data_within, data_from, read_status, read_short, read_pairs, never_third}
use Rattle.command_stated.specs.Command.{Command, Register, Authenticate, Version, GetResponse, flags_no, command_said, is_control, get_response_of, by_instruction, on_reading, command_of, challenge_place_of, application_place_of, handle_place_of, challenge_of, application_of, handle_of}
use Rattle.command_stated.specs.Terms.{WrongLc, of_register, too_short, other_handle, of_version, of_get_response, WrongParameters, of_p1, of_p2, WrongControl, UnknownInstruction}
use Rattle.command_stated.specs.Claims
use Rattle.command_stated.proofs.Cases
use Rattle.command_stated.proofs.Only
use Rattle.command_stated.proofs.Numbers.{flags_same, command_same}
use Rattle.command_stated.proofs.Ways.{Why, class, instruction, parameters, lengths, control, Way, register, authenticate, version, fetch, status, way, Read, read, unread, reading}

-- ---- four commands differ
registered : Command → ℕ
registered (Register s) = 1
registered (Authenticate p s) = 2
registered Version = 3
registered GetResponse = 4

clash : {A : Type 0} (a b : Command) (m n : ℕ) → registered a ≡ m → registered b ≡ n → (m ≡ n → ⊥) → Gives a ≡ Gives b → A
clash a b m n p q d e = absurd (d (sym p ∙ ap registered (gives_same a b e) ∙ q))

pub RegisterExactly : Claims.RegisterExactly command_of
unfolding registered
RegisterExactly frame said = (λ e. go (command_of frame) (reading frame) e, λ t. Cases.by_reading frame said t.0 ∙ sym (Cases.register_64 frame said t.1 t.2 t.3))
  where
    Facts : Says → Type 0
    Facts s = (read_of frame ≡ Gives s) × (s.header.cla ≡ 0x00) × (s.header.ins ≡ 0x01) × (s.lc ≡ 64)

    same : (s : Says) → Gives (Register s) ≡ Gives (Register said) → s ≡ said
    same s e = cc

    by : (s : Says) (o : Outcome Command) → read_of frame ≡ Gives s → Way frame s o → o ≡ Gives (Register said) → Facts said
    by s _ r (register c i l) e = subst Facts (same s e) (r, c, i, l)
    by s _ r (authenticate c i l f k) e = clash (Authenticate s.header.p1 s) (Register said) 2 1 refl refl (λ z. omega arith) e
    by s _ r (version c i l) e = clash Version (Register said) 3 1 refl refl (λ z. omega arith) e
    by s _ r (fetch c i a b l) e = clash GetResponse (Register said) 4 1 refl refl (λ z. omega arith) e
    by s _ r (status n) e = absurd (word_gives _ _ e)

    go : (o : Outcome Command) → Read frame o → o ≡ Gives (Register said) → Facts said
    go o (read s r w) e = by s o r w e
    go _ (unread n r) e = absurd (word_gives _ _ e)

pub AuthenticateExactly : Claims.AuthenticateExactly command_of
unfolding registered
AuthenticateExactly frame p1 said = (
  λ e. go (command_of frame) (reading frame) e,
  λ t. Cases.by_reading frame said t.0
      ∙ sym (Cases.authenticates frame said t.1 (Gives (Authenticate p1 said)) t.2
      (Cases.auth_control frame said (data_of frame said) 0 (byte (data_of frame said) 64) refl refl t.3 t.4 p1 t.5 t.6)),
)
  where
    Facts : ℕ → Says → Type 0
    Facts p s = (read_of frame ≡ Gives s) × (s.header.cla ≡ 0x00) × (s.header.ins ≡ 0x02)
        × (65 ≤ s.lc) × (s.lc ≡ 65 + byte (data_of frame s) 64) × (is_control p ≡ true) × (s.header.p1 ≡ p)

    same : (p : ℕ) (s : Says) → Gives (Authenticate p s) ≡ Gives (Authenticate p1 said) → (p ≡ p1) × (s ≡ said)
    same p s e = (cc, cc)

    by : (s : Says) (o : Outcome Command) → read_of frame ≡ Gives s → Way frame s o → o ≡ Gives (Authenticate p1 said) → Facts p1 said
    by s _ r (register c i l) e = clash (Register s) (Authenticate p1 said) 1 2 refl refl (λ z. omega arith) e
    by s _ r (authenticate c i l f k) e =
        let q = same s.header.p1 s e in
        subst (λ (x : Says). Facts p1 x) q.1 (r, c, i, l, f, ap is_control (sym q.0) ∙ k, q.0)
    by s _ r (version c i l) e = clash Version (Authenticate p1 said) 3 2 refl refl (λ z. omega arith) e
    by s _ r (fetch c i a b l) e = clash GetResponse (Authenticate p1 said) 4 2 refl refl (λ z. omega arith) e
    by s _ r (status n) e = absurd (word_gives _ _ e)

    go : (o : Outcome Command) → Read frame o → o ≡ Gives (Authenticate p1 said) → Facts p1 said
    go o (read s r w) e = by s o r w e
    go _ (unread n r) e = absurd (word_gives _ _ e)

pub VersionExactly : Claims.VersionExactly command_of
unfolding registered
VersionExactly frame = (λ e. go (command_of frame) (reading frame) e, λ t. Cases.by_reading frame t.0 t.1 ∙ sym (Cases.version_0 frame t.0 t.2 t.3 t.4))
  where
    Facts : Type 0
    Facts = (said : Says) × (read_of frame ≡ Gives said) × (said.header.cla ≡ 0x00) × (said.header.ins ≡ 0x03) × (said.lc ≡ 0)

    by : (s : Says) (o : Outcome Command) → read_of frame ≡ Gives s → Way frame s o → o ≡ Gives Version → Facts
    by s _ r (register c i l) e = clash (Register s) Version 1 3 refl refl (λ z. omega arith) e
    by s _ r (authenticate c i l f k) e = clash (Authenticate s.header.p1 s) Version 2 3 refl refl (λ z. omega arith) e
    by s _ r (version c i l) e = (s, r, c, i, l)
    by s _ r (fetch c i a b l) e = clash GetResponse Version 4 3 refl refl (λ z. omega arith) e
    by s _ r (status n) e = absurd (word_gives _ _ e)

    go : (o : Outcome Command) → Read frame o → o ≡ Gives Version → Facts
    go o (read s r w) e = by s o r w e
    go _ (unread n r) e = absurd (word_gives _ _ e)

pub GetResponseExactly : Claims.GetResponseExactly command_of
unfolding registered
GetResponseExactly frame = (
  λ e. go (command_of frame) (reading frame) e,
  λ t. Cases.by_reading frame t.0 t.1 ∙ sym (Cases.fetches frame t.0 t.2 (Gives GetResponse) t.3 (Cases.fetch_0 frame t.0 t.4 t.5 t.6)),
)
  where
    Facts : Type 0
    Facts = (said : Says) × (read_of frame ≡ Gives said) × (said.header.cla ≡ 0x00) × (said.header.ins ≡ 0xC0) × (said.header.p1 ≡ 0x00) × (said.header.p2 ≡ 0x00) × (said.lc ≡ 0)

    by : (s : Says) (o : Outcome Command) → read_of frame ≡ Gives s → Way frame s o → o ≡ Gives GetResponse → Facts
    by s _ r (register c i l) e = clash (Register s) GetResponse 1 4 refl refl (λ z. omega arith) e
    by s _ r (authenticate c i l f k) e = clash (Authenticate s.header.p1 s) GetResponse 2 4 refl refl (λ z. omega arith) e
    by s _ r (version c i l) e = clash Version GetResponse 3 4 refl refl (λ z. omega arith) e
    by s _ r (fetch c i a b l) e = (s, r, c, i, a, b, l)
    by s _ r (status n) e = absurd (word_gives _ _ e)

    go : (o : Outcome Command) → Read frame o → o ≡ Gives GetResponse → Facts
    go o (read s r w) e = by s o r w e
    go _ (unread n r) e = absurd (word_gives _ _ e)

-- ---- a status: the frame's own, or for a reason
pub data Told (frame : List ℕ) (w : StatusWord) : Type 0 where
  own : read_of frame ≡ Word w → Told frame w
  because : (said : Says) → read_of frame ≡ Gives said → Why frame said w → Told frame w

pub told : (frame : List ℕ) (w : StatusWord) → command_of frame ≡ Word w → Told frame w
told frame w e = go (command_of frame) (reading frame) e
  where
    by : (s : Says) (o : Outcome Command) → read_of frame ≡ Gives s → Way frame s o → o ≡ Word w → Told frame w
    by s _ r (register c i l) x = absurd (word_gives _ _ (sym x))
    by s _ r (authenticate c i l f k) x = absurd (word_gives _ _ (sym x))
    by s _ r (version c i l) x = absurd (word_gives _ _ (sym x))
    by s _ r (fetch c i a b l) x = absurd (word_gives _ _ (sym x))
    by s _ r (status why) x = because s r (subst (Why frame s) (word_same _ _ x) why)

    go : (o : Outcome Command) → Read frame o → o ≡ Word w → Told frame w
    go o (read s r v) x = by s o r v x
    go _ (unread v r) x = own (r ∙ ap Word (word_same _ _ x))

module _ (frame : List ℕ) (said : Says) where
  of_class : {w : StatusWord} → Why frame said w → w.number ≡ 0x6e00 → said.header.cla ≡ 0x00 → ⊥
  of_class (class c) e = c
  of_class (instruction c w) e = absurd (omega arith)
  of_class (parameters c w) e = absurd (omega arith)
  of_class (lengths c w) e = absurd (omega arith)
  of_class (control c w) e = absurd (omega arith)

  of_instruction : {w : StatusWord} → Why frame said w → w.number ≡ 0x6d00 → (said.header.cla ≡ 0x00) × UnknownInstruction said
  of_instruction (class c) e = absurd (omega arith)
  of_instruction (instruction c w) e = (c, w)
  of_instruction (parameters c w) e = absurd (omega arith)
  of_instruction (lengths c w) e = absurd (omega arith)
  of_instruction (control c w) e = absurd (omega arith)

  of_parameters : {w : StatusWord} → Why frame said w → w.number ≡ 0x6a86 → (said.header.cla ≡ 0x00) × WrongParameters said
  of_parameters (class c) e = absurd (omega arith)
  of_parameters (instruction c w) e = absurd (omega arith)
  of_parameters (parameters c w) e = (c, w)
  of_parameters (lengths c w) e = absurd (omega arith)
  of_parameters (control c w) e = absurd (omega arith)

  of_lengths : {w : StatusWord} → Why frame said w → w.number ≡ 0x6700 → (said.header.cla ≡ 0x00) × WrongLc frame said
  of_lengths (class c) e = absurd (omega arith)
  of_lengths (instruction c w) e = absurd (omega arith)
  of_lengths (parameters c w) e = absurd (omega arith)
  of_lengths (lengths c w) e = (c, w)
  of_lengths (control c w) e = absurd (omega arith)

  of_control : {w : StatusWord} → Why frame said w → w.number ≡ 0x6a80 → (said.header.cla ≡ 0x00) × WrongControl frame said
  of_control (class c) e = absurd (omega arith)
  of_control (instruction c w) e = absurd (omega arith)
  of_control (parameters c w) e = absurd (omega arith)
  of_control (lengths c w) e = absurd (omega arith)
  of_control (control c w) e = (c, w)

pub ClassExactly : Claims.ClassExactly command_of
ClassExactly frame = (λ e. go (told frame (plain_word 0x6e00) e), λ t. Cases.by_reading frame t.0 t.1 ∙ sym (Cases.wrong_cla frame t.0 t.2))
  where
    go : Told frame (plain_word 0x6e00) → (said : Says) × (read_of frame ≡ Gives said) × (said.header.cla ≡ 0x00 → ⊥)
    go (own r) = absurd (read_status frame (plain_word 0x6e00) (λ x. omega arith) (λ x. omega arith) r)
    go (because s r w) = (s, r, of_class frame s w refl)

-- P1 first: where both are not 0, either names it
wrong_parameters : (frame : List ℕ) (said : Says) → said.header.cla ≡ 0x00 → WrongParameters said → SW 0x6a86 ≡ by_instruction frame said
wrong_parameters frame said c (of_p1 i n) = Cases.fetches frame said c (SW 0x6a86) i (Cases.fetch_p1 frame said n)
wrong_parameters frame said c (of_p2 i n) = Cases.fetches frame said c (SW 0x6a86) i (go (ℕ_discrete said.header.p1 0x00))
  where
    go : Dec (said.header.p1 ≡ 0x00) → SW 0x6a86 ≡ get_response_of said
    go (yes a) = Cases.fetch_p2 frame said a n
    go (no a) = Cases.fetch_p1 frame said a

pub ParametersExactly : Claims.ParametersExactly command_of
ParametersExactly frame = (λ e. go (told frame (plain_word 0x6a86) e), λ t. Cases.by_reading frame t.0 t.1 ∙ sym (wrong_parameters frame t.0 t.2 t.3))
  where
    go : Told frame (plain_word 0x6a86) → (said : Says) × (read_of frame ≡ Gives said) × (said.header.cla ≡ 0x00) × WrongParameters said
    go (own r) = absurd (read_status frame (plain_word 0x6a86) (λ x. omega arith) (λ x. omega arith) r)
    go (because s r w) = let f = of_parameters frame s w refl in (s, r, f.0, f.1)

pub InstructionExactly : Claims.InstructionExactly command_of
InstructionExactly frame =
    (λ e. go (told frame (plain_word 0x6d00) e), λ t. Cases.by_reading frame t.0 t.1 ∙ sym (Cases.unknown frame t.0 t.2 t.3.not_01 t.3.not_02 t.3.not_03 t.3.not_C0))
  where
    go : Told frame (plain_word 0x6d00) → (said : Says) × (read_of frame ≡ Gives said) × (said.header.cla ≡ 0x00) × UnknownInstruction said
    go (own r) = absurd (read_status frame (plain_word 0x6d00) (λ x. omega arith) (λ x. omega arith) r)
    go (because s r w) = let f = of_instruction frame s w refl in (s, r, f.0, f.1)

-- of a word whose pair is the third kind, and of every other
third : {frame : List ℕ} {said : Says} {w : StatusWord} → Why frame said w → w.number ≡ 0x6700 → w.kind ≡ 3
third (class c) e = absurd (omega arith)
third (instruction c u) e = absurd (omega arith)
third (parameters c u) e = absurd (omega arith)
third (lengths c u) e = refl
third (control c u) e = absurd (omega arith)

wrong_length_lem : (frame : List ℕ) (said : Says) → said.header.cla ≡ 0x00 → WrongLc frame said → against_ins ≡ by_instruction frame said
wrong_length_lem frame said c (of_register i n) = Cases.register_other frame said c i against_ins refl n
wrong_length_lem frame said c (too_short i h) = Cases.authenticates frame said c against_ins i (Cases.auth_short frame said against_ins refl h)
wrong_length_lem frame said c (other_handle i h n) =
    Cases.authenticates frame said c against_ins i (Cases.auth_other frame said (data_of frame said) 0 (byte (data_of frame said) 64) refl refl h against_ins refl n)
wrong_length_lem frame said c (of_version i n) = Cases.version_other frame said c i against_ins refl n
wrong_length_lem frame said c (of_get_response i a b n) = Cases.fetches frame said c against_ins i (Cases.fetch_other frame said a b against_ins refl n)

pub LengthExactly : Claims.LengthExactly command_of
LengthExactly frame = (λ t. go t.word t.numbered (told frame t.word t.is), back)
  where
    go : (w : StatusWord) → w.number ≡ 0x6700 → Told frame w → HasStatus 0x6700 (read_of frame) ⊎ ((said : Says) × (read_of frame ≡ Gives said) × (said.header.cla ≡ 0x00) × WrongLc frame said)
    go w n (own r) = inl (record { word = w; is = r; numbered = n })
    go w n (because s r y) = let f = of_lengths frame s y n in inr (s, r, f.0, f.1)

    back : HasStatus 0x6700 (read_of frame) ⊎ ((said : Says) × (read_of frame ≡ Gives said) × (said.header.cla ≡ 0x00) × WrongLc frame said) → HasStatus 0x6700 (command_of frame)
    back (inl t) = record { word = t.word; is = Cases.by_status frame t.word t.is; numbered = t.numbered }
    back (inr t) = record { word = _; is = Cases.by_reading frame t.0 t.1 ∙ sym (wrong_length_lem frame t.0 t.2 t.3); numbered = refl }

pub AgainstInsExactly : Claims.AgainstInsExactly command_of
AgainstInsExactly frame = (λ e. go (told frame _ e), λ t. Cases.by_reading frame t.0 t.1 ∙ sym (wrong_length_lem frame t.0 t.2 t.3))
  where
    go : Told frame (record { number = 0x6700; kind = 3; place = 4 }) → (said : Says) × (read_of frame ≡ Gives said) × (said.header.cla ≡ 0x00) × WrongLc frame said
    go (own r) = absurd (never_third frame _ r refl)
    go (because s r w) = let f = of_lengths frame s w refl in (s, r, f.0, f.1)

pub CarriedExactly : Claims.CarriedExactly command_of
CarriedExactly frame kind place other = (λ e. go (told frame _ e), λ r. Cases.by_status frame _ r)
  where
    go : Told frame (record { number = 0x6700; kind = kind; place = place }) → read_of frame ≡ wrong_length kind place
    go (own r) = r
    go (because s r y) = absurd (other (third y refl))

pub CommandPairsExactly : Claims.CommandPairsExactly command_of
CommandPairsExactly = record { paired = λ frame w e. paired frame w (told frame w e); no_other = λ frame w e. none frame w (told frame w e) }
  where
    paired : (frame : List ℕ) (w : StatusWord) → Told frame w → w.number ≡ 0x6700 → (1 ≤ w.kind) × (w.kind ≤ 3)
    paired frame w (own r) n = read_pairs.0.paired frame w r n
    paired frame w (because s r y) n = let k = third y n in (omega arith, omega arith)

    because_none : {frame : List ℕ} {said : Says} {w : StatusWord} → Why frame said w → (w.number ≡ 0x6700 → ⊥) → w ≡ plain_word w.number
    because_none (class c) n = refl
    because_none (instruction c u) n = refl
    because_none (parameters c u) n = refl
    because_none (lengths c u) n = absurd (n refl)
    because_none (control c u) n = refl

    none : (frame : List ℕ) (w : StatusWord) → Told frame w → (w.number ≡ 0x6700 → ⊥) → w ≡ plain_word w.number
    none frame w (own r) n = read_pairs.0.no_other frame w r n
    none frame w (because s r y) n = because_none y n

wrong_control : (frame : List ℕ) (said : Says) → said.header.cla ≡ 0x00 → WrongControl frame said → SW 0x6a80 ≡ by_instruction frame said
wrong_control frame said c w =
    Cases.authenticates frame said c (SW 0x6a80) w.ins
    (Cases.auth_wrong frame said (data_of frame said) 0 (byte (data_of frame said) 64) refl refl w.long w.fits w.not_03 w.not_07 w.not_08)

pub ControlExactly : Claims.ControlExactly command_of
ControlExactly frame = (λ e. go (told frame (plain_word 0x6a80) e), back)
  where
    go : Told frame (plain_word 0x6a80) → (length frame < 4) ⊎ ((said : Says) × (read_of frame ≡ Gives said) × (said.header.cla ≡ 0x00) × WrongControl frame said)
    go (own r) = inl ((read_short frame).0 r)
    go (because s r w) = let f = of_control frame s w refl in inr (s, r, f.0, f.1)

    back : (length frame < 4) ⊎ ((said : Says) × (read_of frame ≡ Gives said) × (said.header.cla ≡ 0x00) × WrongControl frame said) → command_of frame ≡ SW 0x6a80
    back (inl h) = Cases.by_status frame (plain_word 0x6a80) ((read_short frame).1 h)
    back (inr t) = Cases.by_reading frame t.0 t.1 ∙ sym (wrong_control frame t.0 t.2 t.3)

-- ---- behind the reading
module _ (frame : List ℕ) (said : Says) where
  why : (w : StatusWord) → by_instruction frame said ≡ Word w → Why frame said w
  why w e = go (by_instruction frame said) (way frame said) e
    where
      go : (o : Outcome Command) → Way frame said o → o ≡ Word w → Why frame said w
      go _ (register c i l) x = absurd (word_gives _ _ (sym x))
      go _ (authenticate c i l f k) x = absurd (word_gives _ _ (sym x))
      go _ (version c i l) x = absurd (word_gives _ _ (sym x))
      go _ (fetch c i a b l) x = absurd (word_gives _ _ (sym x))
      go _ (status y) x = subst (Why frame said) (word_same _ _ x) y

  abbrev Registers : Says → Type 0
  Registers s = (said ≡ s) × (said.header.cla ≡ 0x00) × (said.header.ins ≡ 0x01) × (said.lc ≡ 64)

  registers : (s : Says) → (by_instruction frame said ≡ Gives (Register s)) ↔ Registers s
  unfolding registered
  registers s = (go (by_instruction frame said) (way frame said), λ t. sym (Cases.register_64 frame said t.1 t.2 t.3) ∙ ap (λ (x : Says). Gives (Register x)) t.0)
    where
      same : Gives (Register said) ≡ Gives (Register s) → said ≡ s
      same e = cc

      go : (o : Outcome Command) → Way frame said o → o ≡ Gives (Register s) → Registers s
      go _ (register c i l) e = (same e, c, i, l)
      go _ (authenticate c i l f k) e = clash (Authenticate said.header.p1 said) (Register s) 2 1 refl refl (λ z. omega arith) e
      go _ (version c i l) e = clash Version (Register s) 3 1 refl refl (λ z. omega arith) e
      go _ (fetch c i a b l) e = clash GetResponse (Register s) 4 1 refl refl (λ z. omega arith) e
      go _ (status y) e = absurd (word_gives _ _ e)

  abbrev Authenticates : ℕ → Says → Type 0
  Authenticates p1 s =
      (said ≡ s) × (said.header.p1 ≡ p1) × (said.header.cla ≡ 0x00) × (said.header.ins ≡ 0x02)
      × (65 ≤ said.lc) × (said.lc ≡ 65 + byte (data_of frame said) 64) × (is_control p1 ≡ true)

  authenticates : (p1 : ℕ) (s : Says) → (by_instruction frame said ≡ Gives (Authenticate p1 s)) ↔ Authenticates p1 s
  unfolding registered
  authenticates p1 s = (go (by_instruction frame said) (way frame said), back)
    where
      same : Gives (Authenticate said.header.p1 said) ≡ Gives (Authenticate p1 s) → (said.header.p1 ≡ p1) × (said ≡ s)
      same e = (cc, cc)

      go : (o : Outcome Command) → Way frame said o → o ≡ Gives (Authenticate p1 s) → Authenticates p1 s
      go _ (register c i l) e = clash (Register said) (Authenticate p1 s) 1 2 refl refl (λ z. omega arith) e
      go _ (authenticate c i l f k) e = let q = same e in (q.1, q.0, c, i, l, f, ap is_control (sym q.0) ∙ k)
      go _ (version c i l) e = clash Version (Authenticate p1 s) 3 2 refl refl (λ z. omega arith) e
      go _ (fetch c i a b l) e = clash GetResponse (Authenticate p1 s) 4 2 refl refl (λ z. omega arith) e
      go _ (status y) e = absurd (word_gives _ _ e)

      back : Authenticates p1 s → by_instruction frame said ≡ Gives (Authenticate p1 s)
      back t =
          sym (Cases.authenticates frame said t.2 (Gives (Authenticate p1 said)) t.3
          (Cases.auth_control frame said (data_of frame said) 0 (byte (data_of frame said) 64) refl refl t.4 t.5 p1 t.6 t.1))
          ∙ ap (λ (x : Says). Gives (Authenticate p1 x)) t.0

  versions : (by_instruction frame said ≡ Gives Version) ↔ ((said.header.cla ≡ 0x00) × (said.header.ins ≡ 0x03) × (said.lc ≡ 0))
  unfolding registered
  versions = (go (by_instruction frame said) (way frame said), λ t. sym (Cases.version_0 frame said t.0 t.1 t.2))
    where
      go : (o : Outcome Command) → Way frame said o → o ≡ Gives Version → (said.header.cla ≡ 0x00) × (said.header.ins ≡ 0x03) × (said.lc ≡ 0)
      go _ (register c i l) e = clash (Register said) Version 1 3 refl refl (λ z. omega arith) e
      go _ (authenticate c i l f k) e = clash (Authenticate said.header.p1 said) Version 2 3 refl refl (λ z. omega arith) e
      go _ (version c i l) e = (c, i, l)
      go _ (fetch c i a b l) e = clash GetResponse Version 4 3 refl refl (λ z. omega arith) e
      go _ (status y) e = absurd (word_gives _ _ e)

  get_responses : (by_instruction frame said ≡ Gives GetResponse)
      ↔ ((said.header.cla ≡ 0x00) × (said.header.ins ≡ 0xC0) × (said.header.p1 ≡ 0x00) × (said.header.p2 ≡ 0x00) × (said.lc ≡ 0))
  unfolding registered
  get_responses = (go (by_instruction frame said) (way frame said), λ t. sym (Cases.fetches frame said t.0 (Gives GetResponse) t.1 (Cases.fetch_0 frame said t.2 t.3 t.4)))
    where
      go : (o : Outcome Command) → Way frame said o → o ≡ Gives GetResponse → (said.header.cla ≡ 0x00) × (said.header.ins ≡ 0xC0) × (said.header.p1 ≡ 0x00) × (said.header.p2 ≡ 0x00) × (said.lc ≡ 0)
      go _ (register c i l) e = clash (Register said) GetResponse 1 4 refl refl (λ z. omega arith) e
      go _ (authenticate c i l f k) e = clash (Authenticate said.header.p1 said) GetResponse 2 4 refl refl (λ z. omega arith) e
      go _ (version c i l) e = clash Version GetResponse 3 4 refl refl (λ z. omega arith) e
      go _ (fetch c i a b l) e = (c, i, a, b, l)
      go _ (status y) e = absurd (word_gives _ _ e)

pub InstructedExactly : Claims.InstructedExactly by_instruction
InstructedExactly =
    record {
      register = registers;
      authenticate = authenticates;
      version = versions;
      get_response = get_responses;
      parameters = λ frame said. (λ e. of_parameters frame said (why frame said _ e) refl, λ t. sym (wrong_parameters frame said t.0 t.1));
      class = λ frame said. (λ e. of_class frame said (why frame said _ e) refl, λ n. sym (Cases.wrong_cla frame said n));
      instruction = λ frame said. (
        λ e. of_instruction frame said (why frame said _ e) refl,
        λ t. sym (Cases.unknown frame said t.0 t.1.not_01 t.1.not_02 t.1.not_03 t.1.not_C0),
      );
      against_ins = λ frame said. (λ e. of_lengths frame said (why frame said _ e) refl, λ t. sym (wrong_length_lem frame said t.0 t.1));
      control = λ frame said. (λ e. of_control frame said (why frame said _ e) refl, λ t. sym (wrong_control frame said t.0 t.1));
    }

pub OnReadingExactly : Claims.OnReadingExactly on_reading
unfolding on_reading
OnReadingExactly = record { status = λ frame w. refl; refused = λ frame n. refl; read = InstructedExactly }

pub CommandExactly : Claims.CommandExactly command_of
CommandExactly =
    record {
      register = RegisterExactly;
      authenticate = AuthenticateExactly;
      version = VersionExactly;
      get_response = GetResponseExactly;
      parameters = ParametersExactly;
      class = ClassExactly;
      instruction = InstructionExactly;
      against_ins = AgainstInsExactly;
      carried = CarriedExactly;
      control = ControlExactly;
    }

-- ---- the parts of the data
module _ (frame : List ℕ) (said : Says) (is_read : read_of frame ≡ Gives said) (long : 64 ≤ said.lc) where
  two_long : (length (challenge_of frame said) ≡ 32) × (length (application_of frame said) ≡ 32)
  unfolding challenge_of application_of
  two_long =
      let within = data_within frame said is_read in (
        part_length frame said.data_at (said.data_at + 32) (omega arith) (omega arith) ∙ omega arith,
        part_length frame (said.data_at + 32) (said.data_at + 64) (omega arith) (omega arith) ∙ omega arith,
      )

  two_parts : data_of frame said ≡ challenge_of frame said ++ (application_of frame said ++ part_of frame (said.data_at + 64) (said.data_at + said.lc))
  unfolding challenge_of application_of data_of
  two_parts =
      let within = data_within frame said is_read in
      part_split frame said.data_at (said.data_at + 32) (said.data_at + said.lc) (omega arith) (omega arith) within
      ∙ ap (λ (l : List ℕ). part_of frame said.data_at (said.data_at + 32) ++ l)
      (part_split frame (said.data_at + 32) (said.data_at + 64) (said.data_at + said.lc) (omega arith) (omega arith) within)

no_bytes : (l : List ℕ) → length l ≡ 0 → l ≡ []
no_bytes [] e = refl
no_bytes (x ∷ l) e = absurd (omega arith)

pub RegisterParts : Claims.RegisterParts command_of challenge_of application_of
unfolding data_of
RegisterParts frame said e =
    let t = (RegisterExactly frame said).0 e in
    let within = data_within frame said t.0 in
    let n = two_long frame said t.0 (omega arith) in
    let none : part_of frame (said.data_at + 64) (said.data_at + said.lc) ≡ [] = no_bytes _ (part_length frame (said.data_at + 64) (said.data_at + said.lc) (omega arith) within ∙ omega arith) in
    (two_parts frame said t.0 (omega arith) ∙ ap (λ (l : List ℕ). challenge_of frame said ++ (application_of frame said ++ l)) none ∙ ap (λ (l : List ℕ). challenge_of frame said ++ l) (append-nil (application_of frame said)), n.0, n.1)

pub AuthenticateParts : Claims.AuthenticateParts command_of challenge_of application_of handle_of
unfolding data_of handle_of
AuthenticateParts frame p1 said e =
    let t = (AuthenticateExactly frame p1 said).0 e in
    let within = data_within frame said t.0 in
    let n = two_long frame said t.0 (omega arith) in
    let h = handle_of frame said in
    let long : length h ≡ said.lc - 65 = part_length frame (said.data_at + 65) (said.data_at + said.lc) (omega arith) within ∙ omega arith in
    let length_byte : byte frame (said.data_at + 64) ≡ length h = sym (part_byte frame said.data_at (said.data_at + said.lc) 64 (omega arith) within) ∙ omega arith in
    let next : said.data_at + 64 + 1 ≡ said.data_at + 65 = omega arith in
    let one : part_of frame (said.data_at + 64) (said.data_at + 65) ≡ length h ∷ [] = ap (part_of frame (said.data_at + 64)) (sym next) ∙ part_one frame (said.data_at + 64) (omega arith) ∙ ap (λ (b : ℕ). b ∷ []) length_byte in
    let rest : part_of frame (said.data_at + 64) (said.data_at + said.lc) ≡ length h ∷ h =
    part_split frame (said.data_at + 64) (said.data_at + 65) (said.data_at + said.lc) (omega arith) (omega arith) within ∙ ap (λ (l : List ℕ). l ++ h) one in
    (two_parts frame said t.0 (omega arith) ∙ ap (λ (l : List ℕ). challenge_of frame said ++ (application_of frame said ++ l)) rest, n.0, n.1)

pub ChallengeExactly : Claims.ChallengeExactly challenge_of
unfolding challenge_of
ChallengeExactly frame said = refl

pub ApplicationExactly : Claims.ApplicationExactly application_of
unfolding application_of
ApplicationExactly frame said = refl

pub HandleExactly : Claims.HandleExactly handle_of
unfolding handle_of
HandleExactly frame said = refl

pub ChallengePlaceExactly : Claims.ChallengePlaceExactly challenge_place_of
ChallengePlaceExactly said = refl

pub ApplicationPlaceExactly : Claims.ApplicationPlaceExactly application_place_of
ApplicationPlaceExactly said = refl

pub HandlePlaceExactly : Claims.HandlePlaceExactly handle_place_of
HandlePlaceExactly said = refl

pub CutAtPlaces : Claims.CutAtPlaces challenge_of application_of handle_of challenge_place_of application_place_of handle_place_of
CutAtPlaces =
    record {
      challenge_cut = ChallengeExactly;
      application_cut = ApplicationExactly;
      handle_cut = HandleExactly;
      register_within = λ frame said e.
          let t = (RegisterExactly frame said).0 e in
          let within = data_within frame said t.0 in
          let from = data_from frame said t.0 in
          (from, refl, omega arith);
      authenticate_within = λ frame p1 said e.
          let t = (AuthenticateExactly frame p1 said).0 e in
          let within = data_within frame said t.0 in
          let from = data_from frame said t.0 in
          (from, refl, omega arith, omega arith, within);
    }

-- ---- the numbers tell the cases apart
pub FlagsNumberExactly : Claims.FlagsNumberExactly flags_no
FlagsNumberExactly = record { check_only = refl; enforce = refl; do_not_enforce = refl }

pub FlagsOneToOne : Claims.FlagsOneToOne
FlagsOneToOne = flags_same

pub CommandOneToOne : Claims.CommandOneToOne
CommandOneToOne = command_same

-- ---- what an answer says
pub SaidExactly : Claims.SaidExactly command_said
SaidExactly =
    record {
      register = λ c a. (command_same _ _, ap command_said);
      authenticate = λ c flags a. (command_same _ _, ap command_said);
      version = λ c. (command_same _ _, ap command_said);
      get_response = λ c. (command_same _ _, ap command_said);
      status = λ c s. (command_same _ _, ap command_said);
    }

-- ---- the contracts: a function that gives what a definition gives, input by input, is that definition
pub ContractsAsClaimed : Claims.ContractsAsClaimed
ContractsAsClaimed =
    record {
      flags_number = λ f is. subst Claims.FlagsNumberExactly (λ d flags. sym (is flags) d) FlagsNumberExactly;
      instructed = λ f is g c frame a. is frame a ∙ Only.InstructedExactly by_instruction g InstructedExactly c frame (says_of a);
      on_reading = λ f is g c frame r. is frame r ∙ Only.OnReadingExactly on_reading g OnReadingExactly c frame (reading_of r);
      read_command = λ f is. subst Claims.CommandExactly (λ d frame. sym (is frame) d) CommandExactly;
      challenge_place = λ f is g c a. is a ∙ sym (c (says_of a));
      application_place = λ f is g c a. is a ∙ sym (c (says_of a));
      handle_place = λ f is g c a. is a ∙ sym (c (says_of a));
      challenge = λ f is g c frame a. is frame a ∙ ChallengeExactly frame (says_of a) ∙ sym (c frame (says_of a));
      application = λ f is g c frame a. is frame a ∙ ApplicationExactly frame (says_of a) ∙ sym (c frame (says_of a));
      key_handle = λ f is g c frame a. is frame a ∙ HandleExactly frame (says_of a) ∙ sym (c frame (says_of a));
    }

-- ---- two results are equal
pub ResultsDetermined : Claims.ResultsDetermined
ResultsDetermined =
    record {
      flags_number = λ f a b. both_are a b;
      instructed = λ frame s a b p q. command_same a b (both_are _ _ p q);
      on_reading = λ frame r a b p q. command_same a b (both_are _ _ p q);
      read_command = λ frame a b p q. command_same a b (both_are _ _ p q);
      challenge_place = λ s a b. both_are a b;
      application_place = λ s a b. both_are a b;
      handle_place = λ s a b. both_are a b;
      challenge = λ frame s a b. both_are a b;
      application = λ frame s a b. both_are a b;
      key_handle = λ frame s a b. both_are a b;
    }
