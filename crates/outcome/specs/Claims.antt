-- What is promised of the numbers. Proved in proofs/Theorems.antt; proofs/Only.antt has that no other tables meet it, and
-- proofs/Refuted.antt that wrong ones do not.
use Rattle.std.specs.Prelude.{ℕ, ◌≤◌, ◌≡◌}
use Rattle.outcome.specs.Notation.{AtMostOne}
use Rattle.outcome.specs.Outcome.{StatusWord, Outcome, Word, FaultNumbers, last_refusal}
use Rattle.outcome.specs.Promises.{StatusNumber, Fault, NoFault, RefusalNumber, IsRefused, IsStatus}
use Rattle.outcome.specs.declared.ApduStatusCode.{ApduStatusCode}
use Rattle.outcome.specs.declared.ApduStatusCode.TheVariants.{Success, WrongData, WrongLength, CondUseNotSatisfied, CommandNotAllowed, IncorrectP1P2, InsInvalid, ClaInvalid, InternalException}
use Rattle.outcome.specs.declared.LengthFault.{LengthFault}
use Rattle.outcome.specs.declared.LengthFault.TheVariants.{Missing, Surplus, LcAgainstIns}
use Rattle.outcome.specs.declared.Refusal.{Refusal}
use Rattle.outcome.specs.declared.Refusal.TheVariants.{R1, R2, R3, R4, R5, R6, R7, R8}

-- Each status word has ISO 7816-4's number. A wire layer that sends 6700 for wrong data (`wrong_data_as_wrong_length`) fails it, at
-- a frame of three bytes, whose status is 6a80.
pub record StatusNumbers (number : ApduStatusCode → ℕ) : Type 0 where
  pub success : number Success ≡ 0x9000
  pub wrong_data : number WrongData ≡ 0x6a80
  pub wrong_length : (fault : LengthFault) (place : ℕ) → number (WrongLength fault place) ≡ 0x6700
  pub no_touch : number CondUseNotSatisfied ≡ 0x6985
  pub not_allowed : number CommandNotAllowed ≡ 0x6986
  pub wrong_p1_p2 : number IncorrectP1P2 ≡ 0x6a86
  pub unknown_ins : number InsInvalid ≡ 0x6d00
  pub unknown_cla : number ClaInvalid ≡ 0x6e00
  pub internal : number InternalException ≡ 0x6f00

-- 01, 'Refusal numbers', the column "no". A table that numbers R6 as 7 (`r6_numbered7`) fails it, at a touch window of 0.
pub record RefusalNumbers (number : Refusal → ℕ) : Type 0 where
  pub r1 : number R1 ≡ 1
  pub r2 : number R2 ≡ 2
  pub r3 : number R3 ≡ 3
  pub r4 : number R4 ≡ 4
  pub r5 : number R5 ≡ 5
  pub r6 : number R6 ≡ 6
  pub r7 : number R7 ≡ 7
  pub r8 : number R8 ≡ 8

-- 02, E1: a 6700 has its pair, and every other status word none: the kinds 1, 2 and 3, and the place as it was found. A table that
-- tells missing as surplus (`missing_as_surplus`) fails it, one whose place is one off (`place_one_off`), and a 6a80 with a pair
-- (`wrong_data_with_pair`).
pub record FaultExactly (fault : ApduStatusCode → FaultNumbers) : Type 0 where
  pub missing : (place : ℕ) → fault (WrongLength Missing place) ≡ record { kind = 1; place = place }
  pub surplus : (place : ℕ) → fault (WrongLength Surplus place) ≡ record { kind = 2; place = place }
  pub against_ins : (place : ℕ) → fault (WrongLength LcAgainstIns place) ≡ record { kind = 3; place = place }
  pub other : (s : ApduStatusCode) → ((f : LengthFault) (place : ℕ) → s ≡ WrongLength f place → ⊥) → fault s ≡ record { kind = 0; place = 0 }

-- Where there is no pair, both numbers are 0. One that says a place all the same (`no_fault_at7`) fails it.
abbrev pub NoFaultExactly : FaultNumbers → Type 0
NoFaultExactly none = none ≡ record { kind = 0; place = 0 }

-- The two words that the claims of every crate say a status with: a number alone, and 6700 with its kind and place. A word that puts the
-- third kind one byte on (`third_one_on`) fails it, one that takes missing for surplus (`kinds_swapped`), and a number with a pair beside
-- it (`plain_at7`): each would be wrong in a claim as in the definition.
pub record WordsExactly (plain : (A : Type 0) → ℕ → Outcome A) (wrong : (A : Type 0) → (kind place : ℕ) → Outcome A) : Type 1 where
  pub plain_is : (A : Type 0) (n : ℕ) → plain A n ≡ Word (record { number = n; kind = 0; place = 0 })
  pub wrong_is : (A : Type 0) (kind place : ℕ) → wrong A kind place ≡ Word (record { number = 0x6700; kind = kind; place = place })

-- The word that is said has the number and the pair of these tables. One without its pair (`pair_dropped`) fails it.
pub record WordExactly (number : ApduStatusCode → ℕ) (fault : ApduStatusCode → FaultNumbers) (word : ApduStatusCode → StatusWord) : Type 0 where
  pub numbered : (s : ApduStatusCode) → (word s).number ≡ number s
  pub kind : (s : ApduStatusCode) → (word s).kind ≡ (fault s).kind
  pub place : (s : ApduStatusCode) → (word s).place ≡ (fault s).place

-- Two status words that say the same are the same one: number and pair tell them apart. A word without its pair (`pair_dropped`)
-- fails it, and so does any table that uses a number twice.
abbrev pub StatusOneToOne : (ApduStatusCode → StatusWord) → Type 0
StatusOneToOne word = (a b : ApduStatusCode) → word a ≡ word b → a ≡ b

-- Two refusals with one number are the same one. A table that numbers R4 as R2 is numbered (`r4_numbered2`) fails it.
abbrev pub RefusalOneToOne : (Refusal → ℕ) → Type 0
RefusalOneToOne number = (a b : Refusal) → number a ≡ number b → a ≡ b

-- The refusals' numbers are those from 1 to the last, with none left out: what the panel's answers leave to refusals is just
-- what is used. Ours; DECISIONS, one answer number. `r4_numbered2` fails it: no refusal is numbered 4.
pub record RefusalRange (number : Refusal → ℕ) : Type 0 where
  pub within : (r : Refusal) → (1 ≤ number r) × (number r ≤ last_refusal)
  pub each : (n : ℕ) → 1 ≤ n → n ≤ last_refusal → (r : Refusal) × (number r ≡ n)

-- 01: "Show that two results satisfying it are equal", for each public function.
pub record ResultsDetermined : Type 0 where
  pub status_number : (s : ApduStatusCode) → AtMostOne (StatusNumber s)
  pub fault : (s : ApduStatusCode) → AtMostOne (Fault s)
  pub no_fault : AtMostOne NoFault
  pub refusal_number : (r : Refusal) → AtMostOne (RefusalNumber r)
  pub refused : (r : Refusal) → AtMostOne (IsRefused r)
  pub status : (s : ApduStatusCode) → AtMostOne (IsStatus s)
