-- The control byte's numbers, and the commands' words, tell the cases apart: each table has a way back.
use Prim.Native.Nat.{ℕ}
use mathlib.Core.Path.{◌≡◌, refl, ap, ap₂}
use lib.Dec.{eqb}
use Rattle.std.specs.Prelude.{Ok, Err}
use Rattle.outcome.specs.Notation.{when◌then◌else◌}
use Rattle.outcome.specs.Outcome.{Outcome, R, Word, Gives}
use Rattle.outcome.proofs.Laws.{one_to_one}
use Rattle.outcome.proofs.Laws.{status_of, status_back}
use Rattle.apdu_stated.specs.declared.Apdu.{Apdu}
use Rattle.apdu_stated.proofs.Laws.{apdu_back, apdu_back_lem}
use Rattle.command_stated.specs.Command.{Ctap1Flags, CheckOnly, EnforceUpAndSign, DontEnforceUpAndSign, CommandReading, Command, Register, Authenticate, Version, GetResponse, flags_no, command_said}
use Rattle.command_stated.specs.declared.U2fCommand.TheVariants as U2fCommand'

flags_of : ℕ → Ctap1Flags
flags_of n =
    when eqb n 0x07 then CheckOnly
    else when eqb n 0x03 then EnforceUpAndSign
    else DontEnforceUpAndSign

flags_back : (f : Ctap1Flags) → flags_of (flags_no f) ≡ f
unfolding flags_of
flags_back CheckOnly = refl
flags_back EnforceUpAndSign = refl
flags_back DontEnforceUpAndSign = refl

pub flags_same : (a b : Ctap1Flags) → flags_no a ≡ flags_no b → a ≡ b
flags_same = one_to_one flags_no flags_of flags_back

command_back : Outcome Command → CommandReading
command_back (R n) = Ok U2fCommand'.Version
command_back (Word w) = Err (status_of w)
command_back (Gives (Register s)) = Ok (U2fCommand'.Register (apdu_back s))
command_back (Gives (Authenticate p s)) = Ok (U2fCommand'.Authenticate (flags_of p) (apdu_back s))
command_back (Gives Version) = Ok U2fCommand'.Version
command_back (Gives GetResponse) = Ok U2fCommand'.GetResponse

command_back_lem : (c : CommandReading) → command_back (command_said c) ≡ c
unfolding command_back
command_back_lem (Ok (U2fCommand'.Register a)) = ap (λ (a : Apdu). Ok (U2fCommand'.Register a)) (apdu_back_lem a)
command_back_lem (Ok (U2fCommand'.Authenticate f a)) = ap₂ (λ (f : Ctap1Flags) (a : Apdu). Ok (U2fCommand'.Authenticate f a)) (flags_back f) (apdu_back_lem a)
command_back_lem (Ok U2fCommand'.Version) = refl
command_back_lem (Ok U2fCommand'.GetResponse) = refl
command_back_lem (Err s) = ap Err (status_back s)

pub command_same : (a b : CommandReading) → command_said a ≡ command_said b → a ≡ b
command_same = one_to_one command_said command_back command_back_lem
