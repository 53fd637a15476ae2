-- What a call comes to, in the documents' numbers: document 01, 'Refusal numbers', and status words (ISO 7816-4); document 02, E1. A refusal
-- tells the firmware that a call was wrong, and is for no host; a status word goes out. First these words, then what the source's types are
-- in them.
mod Words
use Words.*
pub use Rattle.outcome.specs.declared.FaultNumbers.{FaultNumbers}

-- A status word: its number, and the pair of a kind and a place that tells where a length went wrong. 02, E1: "A 6700 should say
-- whether bytes are missing or surplus, and a place". Where there is no pair, both are 0.
pub record StatusWord : Type 0 where
  pub number : ℕ
  pub kind : ℕ
  pub place : ℕ

-- What a call comes to: refusal n, `R n`; a status word; or what was asked for.
pub data Outcome (A : Type 0) : Type 0 where
  R : ℕ → Outcome A
  Word : StatusWord → Outcome A
  Gives : A → Outcome A

-- a status word without a pair: every one but 6700
abbrev pub plain_word : ℕ → StatusWord
plain_word n = record { number = n; kind = 0; place = 0 }

abbrev pub SW : {A : Type 0} → ℕ → Outcome A
SW n = Word (plain_word n)

-- 6700, with its pair
abbrev pub wrong_length : {A : Type 0} → (kind place : ℕ) → Outcome A
wrong_length kind place = Word (record { number = 0x6700; kind = kind; place = place })

-- 02, E1: "for missing bytes the frame's length; for surplus the first byte that no field can claim"; "The 6700s for Lc against INS
-- are a third kind, with place 4 in every shape". The kinds' numbers are ours.
abbrev pub missing_at : {A : Type 0} → ℕ → Outcome A
missing_at place = wrong_length 1 place

abbrev pub surplus_at : {A : Type 0} → ℕ → Outcome A
surplus_at place = wrong_length 2 place

abbrev pub against_ins : {A : Type 0} → Outcome A
against_ins = wrong_length 3 4

-- a status word of this number, whatever its pair: "demand 2 compares the status alone"
pub record HasStatus {A : Type 0} (n : ℕ) (o : Outcome A) : Type 0 where
  pub word : StatusWord
  pub is : o ≡ Word word
  pub numbered : word.number ≡ n

-- ---- the source's types

-- 01, 'Refusal numbers': its column 'exactly when'
abbrev pub refusal_no : Refusal → ℕ
refusal_no R1 = 1  -- moment 2^48 or more, or before the record's last moment
refusal_no R2 = 2  -- buffer shorter than stated
refusal_no R3 = 3  -- signature longer than 72
refusal_no R4 = 4  -- certificate length is not the order's
refusal_no R5 = 5  -- shape cannot carry this data length or Le
refusal_no R6 = 6  -- W is 0 or above 60,000, when made or in a record
refusal_no R7 = 7  -- order not of either layout
refusal_no R8 = 8  -- 02, E7: a side other than 0 or 1

-- The last one is named here alone: with it ends the range that the panel's answers leave to refusals, in C too.
abbrev pub last_refusal : ℕ
last_refusal = 8

-- ISO 7816-4; 01, 'Eight frame shapes', 'From frame to command', 'The decision'
abbrev pub status_no : ApduStatusCode → ℕ
status_no Success = 0x9000  -- done
status_no WrongData = 0x6a80  -- wrong data
status_no (WrongLength fault place) = 0x6700  -- wrong length
status_no CondUseNotSatisfied = 0x6985  -- conditions of use not satisfied: no touch
status_no CommandNotAllowed = 0x6986  -- command not allowed
status_no IncorrectP1P2 = 0x6a86  -- P1 or P2 not as they must be
status_no InsInvalid = 0x6d00  -- unknown INS
status_no ClaInvalid = 0x6e00  -- unknown CLA
status_no InternalException = 0x6f00  -- no precise diagnosis

-- the pair of each, 0 and 0 where there is none
abbrev pub fault_kind : LengthFault → ℕ
fault_kind Missing = 1
fault_kind Surplus = 2
fault_kind LcAgainstIns = 3

abbrev pub fault_pair : (kind place : ℕ) → FaultNumbers
fault_pair kind place = record { kind = kind; place = place }

abbrev pub no_fault : FaultNumbers
no_fault = fault_pair 0 0

abbrev pub fault_of : ApduStatusCode → FaultNumbers
fault_of Success = no_fault
fault_of WrongData = no_fault
fault_of (WrongLength fault place) = fault_pair (fault_kind fault) place
fault_of CondUseNotSatisfied = no_fault
fault_of CommandNotAllowed = no_fault
fault_of IncorrectP1P2 = no_fault
fault_of InsInvalid = no_fault
fault_of ClaInvalid = no_fault
fault_of InternalException = no_fault

-- a status word as it is said everywhere: its number and its pair
abbrev pub word_of : ApduStatusCode → StatusWord
word_of s = record { number = status_no s; kind = (fault_of s).kind; place = (fault_of s).place }
