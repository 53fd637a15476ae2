-- Commands, and what the source's types say in the documents' words.
use Rattle.std.specs.Prelude.{Result, Ok, Err}
use Rattle.command_stated.specs.Words.{ℕ, Outcome, Word, Gives, ApduStatusCode, word_of}
use Rattle.apdu_stated.specs.Answers.{Says, says_of}
pub use Rattle.command_stated.specs.declared.Ctap1Flags.{Ctap1Flags}
pub use Rattle.command_stated.specs.declared.Ctap1Flags.TheVariants.{CheckOnly, EnforceUpAndSign, DontEnforceUpAndSign}
pub use Rattle.command_stated.specs.declared.U2fCommand.{U2fCommand}
use Rattle.command_stated.specs.declared.U2fCommand.TheVariants as U2fCommand'

-- a command, with what its frame says; an Authenticate with its P1
pub data Command : Type 0 where
  Register : Says → Command
  Authenticate : ℕ → Says → Command
  Version : Command
  GetResponse : Command

-- FIDO: control byte in P1: 07 check only, 03 enforce user presence and sign, 08 don't enforce user presence and sign
abbrev pub flags_no : Ctap1Flags → ℕ
flags_no CheckOnly = 0x07
flags_no EnforceUpAndSign = 0x03
flags_no DontEnforceUpAndSign = 0x08

-- what the reading of a command answers: a command, or the status word that answers its frame
abbrev pub CommandReading : Type 0
CommandReading = Result U2fCommand ApduStatusCode

abbrev pub command_said : CommandReading → Outcome Command
command_said (Ok (U2fCommand'.Register says)) = Gives (Register (says_of says))
command_said (Ok (U2fCommand'.Authenticate flags says)) = Gives (Authenticate (flags_no flags) (says_of says))
command_said (Ok U2fCommand'.Version) = Gives Version
command_said (Ok U2fCommand'.GetResponse) = Gives GetResponse
command_said (Err s) = Word (word_of s)
