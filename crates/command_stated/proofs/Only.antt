-- Only the definitions meet the claims: two programs that meet one agree on every input.
use Prim.Native.Nat.{ℕ}
use mathlib.Core.Path.{◌≡◌, refl, ap, sym, ◌∙◌}
use mathlib.Core.List.{List}
use mathlib.Core.Logic.{inl, inr}
use native.Mathlib.Omega.{arith}
use lib.ListN.{length}
use Rattle.std.specs.Prelude.{Ok, Err}
use Rattle.outcome.specs.Notation.{Determines, Determines2}
use Rattle.outcome.specs.Outcome.{StatusWord, Outcome, R, Word, Gives}
use Rattle.outcome.proofs.Laws.{word_same, word_gives}
use Rattle.apdu_stated.specs.Answers.{Says}
use Rattle.apdu_stated.specs.declared.Entry.TheVariants.{Ordinary}
use Rattle.apdu_stated.specs.Reading.{read_of}
use Rattle.apdu_stated.proofs.Laws.{FrameWay, under, found, ends, goes_on, frame_way}
use Rattle.command_stated.specs.Command.{CheckOnly, EnforceUpAndSign, DontEnforceUpAndSign, Command, by_instruction, command_of}
use Rattle.command_stated.specs.declared.U2fCommand.TheVariants as U2fCommand'
use Rattle.command_stated.specs.Claims
use Rattle.command_stated.proofs.Ways.{Why, class, instruction, parameters, lengths, control, Way, register, authenticate, version, fetch, status, way, Read, read, unread, reading}

word_is : (v w : StatusWord) → ◌≡◌ {A = Outcome Says} (Word v) (Word w) → v ≡ w
word_is v w e = word_same v w e

only_command : (command : List ℕ → Outcome Command) → Claims.CommandExactly command → (frame : List ℕ) → command frame ≡ command_of frame
only_command command exact frame = go (command_of frame) (reading frame)
  where
    refused : (s : Says) → read_of frame ≡ Gives s → {w : StatusWord} → Why frame s w → command frame ≡ Word w
    refused s r (class c) = (exact.class frame).1 (s, r, c)
    refused s r (instruction c w) = (exact.instruction frame).1 (s, r, c, w)
    refused s r (parameters c w) = (exact.parameters frame).1 (s, r, c, w)
    refused s r (lengths c w) = (exact.against_ins frame).1 (s, r, c, w)
    refused s r (control c w) = (exact.control frame).1 (inr (s, r, c, w))

    by : (s : Says) (o : Outcome Command) → read_of frame ≡ Gives s → Way frame s o → command frame ≡ o
    by s _ r (register c i l) = (exact.register frame s).1 (r, c, i, l)
    by s _ r (authenticate c i l f k) = (exact.authenticate frame s.header.p1 s).1 (r, c, i, l, f, k, refl)
    by s _ r (version c i l) = (exact.version frame).1 (s, r, c, i, l)
    by s _ r (fetch c i a b l) = (exact.get_response frame).1 (s, r, c, i, a, b, l)
    by s _ r (status why) = refused s r why

    own : (f : Outcome Says) → FrameWay Ordinary frame f → read_of frame ≡ f → (w : StatusWord) → f ≡ Word w → command frame ≡ Word w
    own _ (under h) r w e = (exact.control frame).1 (inl h) ∙ ap Word (word_is _ w e)
    own _ (ends h f) r w e = (exact.carried frame 1 (length frame) (λ z. omega arith)).1 r ∙ ap Word (word_is _ w e)
    own _ (goes_on h k f) r w e = (exact.carried frame 2 k (λ z. omega arith)).1 r ∙ ap Word (word_is _ w e)
    own _ (found long s lc le f) r w e = absurd (word_gives _ _ (sym e))

    go : (o : Outcome Command) → Read frame o → command frame ≡ o
    go o (read s r w) = by s o r w
    go _ (unread w r) = own (read_of frame) (frame_way Ordinary frame) refl w r

pub CommandExactly : Determines Claims.CommandExactly
CommandExactly f g p q frame = only_command f p frame ∙ sym (only_command g q frame)

only_instructed : (by : List ℕ → Says → Outcome Command) → Claims.InstructedExactly by → (frame : List ℕ) (said : Says) → by frame said ≡ by_instruction frame said
only_instructed by exact frame said = go (by_instruction frame said) (way frame said)
  where
    refused : {w : StatusWord} → Why frame said w → by frame said ≡ Word w
    refused (class c) = (exact.class frame said).1 c
    refused (instruction c w) = (exact.instruction frame said).1 (c, w)
    refused (parameters c w) = (exact.parameters frame said).1 (c, w)
    refused (lengths c w) = (exact.against_ins frame said).1 (c, w)
    refused (control c w) = (exact.control frame said).1 (c, w)

    go : (o : Outcome Command) → Way frame said o → by frame said ≡ o
    go _ (register c i l) = (exact.register frame said said).1 (refl, c, i, l)
    go _ (authenticate c i l f k) = (exact.authenticate frame said said.header.p1 said).1 (refl, refl, c, i, l, f, k)
    go _ (version c i l) = (exact.version frame said).1 (c, i, l)
    go _ (fetch c i a b l) = (exact.get_response frame said).1 (c, i, a, b, l)
    go _ (status why) = refused why

pub InstructedExactly : Determines2 Claims.InstructedExactly
InstructedExactly f g p q frame said = only_instructed f p frame said ∙ sym (only_instructed g q frame said)

pub OnReadingExactly : Determines2 Claims.OnReadingExactly
OnReadingExactly f g p q frame (R n) = p.refused frame n ∙ sym (q.refused frame n)
OnReadingExactly f g p q frame (Word w) = p.status frame w ∙ sym (q.status frame w)
OnReadingExactly f g p q frame (Gives said) = InstructedExactly _ _ p.read q.read frame said

pub ChallengeExactly : Determines2 Claims.ChallengeExactly
ChallengeExactly f g p q frame said = p frame said ∙ sym (q frame said)

pub ApplicationExactly : Determines2 Claims.ApplicationExactly
ApplicationExactly f g p q frame said = p frame said ∙ sym (q frame said)

pub HandleExactly : Determines2 Claims.HandleExactly
HandleExactly f g p q frame said = p frame said ∙ sym (q frame said)

pub ChallengePlaceExactly : Determines Claims.ChallengePlaceExactly
ChallengePlaceExactly f g p q said = p said ∙ sym (q said)

pub ApplicationPlaceExactly : Determines Claims.ApplicationPlaceExactly
ApplicationPlaceExactly f g p q said = p said ∙ sym (q said)

pub HandlePlaceExactly : Determines Claims.HandlePlaceExactly
HandlePlaceExactly f g p q said = p said ∙ sym (q said)

pub FlagsNumberExactly : Determines Claims.FlagsNumberExactly
FlagsNumberExactly f g p q CheckOnly = p.check_only ∙ sym q.check_only
FlagsNumberExactly f g p q EnforceUpAndSign = p.enforce ∙ sym q.enforce
FlagsNumberExactly f g p q DontEnforceUpAndSign = p.do_not_enforce ∙ sym q.do_not_enforce

pub SaidExactly : Determines Claims.SaidExactly
SaidExactly f g p q (Ok (U2fCommand'.Register a)) = (p.register _ a).1 refl ∙ sym ((q.register _ a).1 refl)
SaidExactly f g p q (Ok (U2fCommand'.Authenticate flags a)) = (p.authenticate _ flags a).1 refl ∙ sym ((q.authenticate _ flags a).1 refl)
SaidExactly f g p q (Ok U2fCommand'.Version) = (p.version _).1 refl ∙ sym ((q.version _).1 refl)
SaidExactly f g p q (Ok U2fCommand'.GetResponse) = (p.get_response _).1 refl ∙ sym ((q.get_response _).1 refl)
SaidExactly f g p q (Err s) = (p.status _ s).1 refl ∙ sym ((q.status _ s).1 refl)
