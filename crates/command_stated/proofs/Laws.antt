-- The laws that other crates cite: what a command says of its frame; its parts; every way through command reading.
use Prim.Native.Nat.{ℕ}
use mathlib.Core.Path.{◌≡◌, ap, sym}
use mathlib.Core.List.{List}
use native.Mathlib.Omega.{arith}
use Rattle.outcome.specs.Outcome.{StatusWord, Outcome, R, Word}
use Rattle.outcome.proofs.Laws.{r_word, r_gives}
use Rattle.apdu_stated.specs.Answers.{Says}
use Rattle.apdu_stated.proofs.Laws.{read_status}
use Rattle.apdu_stated.specs.Reading.{read_of}
use Rattle.command_stated.specs.Command.{Command, on_reading, command_of}
use Rattle.command_stated.proofs.Theorems.{Told, own, because, told}
pub use Rattle.command_stated.proofs.Theorems.{RegisterExactly, AuthenticateExactly, VersionExactly, GetResponseExactly, CommandPairsExactly, RegisterParts, AuthenticateParts, CutAtPlaces}
pub use Rattle.command_stated.proofs.Ways.{Why, class, instruction, parameters, lengths, control, Way, register, authenticate, version, fetch, status, Read, read, unread, reading}
pub use Rattle.command_stated.proofs.Numbers.{flags_same, command_same}
pub use Rattle.command_stated.proofs.Cases.{of_reading}

-- a frame's own status is the command's
pub frame_status : (frame : List ℕ) (w : StatusWord) → read_of frame ≡ Word w → command_of frame ≡ Word w
unfolding command_of on_reading
frame_status frame w e = ap (on_reading frame) e

-- command reading refuses nothing
pub never_refused : (frame : List ℕ) (n : ℕ) → command_of frame ≡ R n → ⊥
never_refused frame n e = go (command_of frame) (reading frame) e
  where
    by : (said : Says) (o : Outcome Command) → Way frame said o → o ≡ R n → ⊥
    by said _ (register c i l) x = r_gives _ _ (sym x)
    by said _ (authenticate c i l f k) x = r_gives _ _ (sym x)
    by said _ (version c i l) x = r_gives _ _ (sym x)
    by said _ (fetch c i a b l) x = r_gives _ _ (sym x)
    by said _ (status why) x = r_word _ _ (sym x)

    go : (o : Outcome Command) → Read frame o → o ≡ R n → ⊥
    go o (read said r w) x = by said o w x
    go _ (unread m r) x = r_word _ _ (sym x)

-- nor does it say 6985: that is the decision's own word
pub never_6985 : (frame : List ℕ) (w : StatusWord) → command_of frame ≡ Word w → w.number ≡ 0x6985 → ⊥
never_6985 frame w e n = go (told frame w e)
  where
    why : {said : Says} {v : StatusWord} → Why frame said v → v.number ≡ 0x6985 → ⊥
    why (class c) x = omega arith
    why (instruction c u) x = omega arith
    why (parameters c u) x = omega arith
    why (lengths c u) x = omega arith
    why (control c u) x = omega arith

    go : Told frame w → ⊥
    go (own r) = read_status frame w (λ x. omega arith) (λ x. omega arith) r
    go (because s r y) = why y n
