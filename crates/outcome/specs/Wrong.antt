-- Wrong tables, one fault each. proofs/Refuted.antt has that each fails its claim.
use Rattle.std.specs.Prelude.{ℕ, ◌+◌, eqb}
use Rattle.outcome.specs.Notation.{when◌then◌else◌}
use Rattle.outcome.specs.Outcome.{StatusWord, Outcome, Word, FaultNumbers, fault_pair, plain_word, status_no, fault_kind, fault_of, refusal_no}
use Rattle.outcome.specs.declared.ApduStatusCode.{ApduStatusCode}
use Rattle.outcome.specs.declared.ApduStatusCode.TheVariants.{Success, WrongData, WrongLength, CondUseNotSatisfied, CommandNotAllowed, IncorrectP1P2, InsInvalid, ClaInvalid, InternalException}
use Rattle.outcome.specs.declared.LengthFault.{LengthFault}
use Rattle.outcome.specs.declared.LengthFault.TheVariants.{Missing, Surplus, LcAgainstIns}
use Rattle.outcome.specs.declared.Refusal.{Refusal}
use Rattle.outcome.specs.declared.Refusal.TheVariants.{R1, R2, R3, R4, R5, R6, R7, R8}

-- 6a80 sent as 6700: the mistake of a wire layer that keeps the number in a comment
abbrev pub wrong_data_as_wrong_length : ApduStatusCode → ℕ
wrong_data_as_wrong_length Success = status_no Success
wrong_data_as_wrong_length WrongData = 0x6700
wrong_data_as_wrong_length (WrongLength fault place) = status_no (WrongLength fault place)
wrong_data_as_wrong_length CondUseNotSatisfied = status_no CondUseNotSatisfied
wrong_data_as_wrong_length CommandNotAllowed = status_no CommandNotAllowed
wrong_data_as_wrong_length IncorrectP1P2 = status_no IncorrectP1P2
wrong_data_as_wrong_length InsInvalid = status_no InsInvalid
wrong_data_as_wrong_length ClaInvalid = status_no ClaInvalid
wrong_data_as_wrong_length InternalException = status_no InternalException

-- a fault said by a table of its own, and of every other status word what is right
abbrev fault_by : (LengthFault → ℕ → FaultNumbers) → ApduStatusCode → FaultNumbers
fault_by table Success = fault_of Success
fault_by table WrongData = fault_of WrongData
fault_by table (WrongLength fault place) = table fault place
fault_by table CondUseNotSatisfied = fault_of CondUseNotSatisfied
fault_by table CommandNotAllowed = fault_of CommandNotAllowed
fault_by table IncorrectP1P2 = fault_of IncorrectP1P2
fault_by table InsInvalid = fault_of InsInvalid
fault_by table ClaInvalid = fault_of ClaInvalid
fault_by table InternalException = fault_of InternalException

-- 02, E1: "whether bytes are missing or surplus": here always surplus
abbrev always_surplus : LengthFault → ℕ
always_surplus Missing = 2
always_surplus Surplus = 2
always_surplus LcAgainstIns = 3

abbrev pub missing_as_surplus : ApduStatusCode → FaultNumbers
missing_as_surplus = fault_by (λ fault place. fault_pair (always_surplus fault) place)

-- "and a place": here one byte on
abbrev pub place_one_off : ApduStatusCode → FaultNumbers
place_one_off = fault_by (λ fault place. fault_pair (fault_kind fault) (place + 1))

-- "A 6700 should say": here a 6a80 says that bytes are missing
abbrev pub wrong_data_with_pair : ApduStatusCode → FaultNumbers
wrong_data_with_pair Success = fault_of Success
wrong_data_with_pair WrongData = fault_pair 1 3
wrong_data_with_pair (WrongLength fault place) = fault_of (WrongLength fault place)
wrong_data_with_pair CondUseNotSatisfied = fault_of CondUseNotSatisfied
wrong_data_with_pair CommandNotAllowed = fault_of CommandNotAllowed
wrong_data_with_pair IncorrectP1P2 = fault_of IncorrectP1P2
wrong_data_with_pair InsInvalid = fault_of InsInvalid
wrong_data_with_pair ClaInvalid = fault_of ClaInvalid
wrong_data_with_pair InternalException = fault_of InternalException

-- where there is no pair: here a place all the same
abbrev pub no_fault_at7 : FaultNumbers
no_fault_at7 = fault_pair 0 7

-- the words: the third kind one byte on; missing for surplus and surplus for missing; a number with a place beside it
abbrev word : {A : Type 0} → (number kind place : ℕ) → Outcome A
word number kind place = Word (record { number = number; kind = kind; place = place })

abbrev pub third_one_on : (A : Type 0) → (kind place : ℕ) → Outcome A
third_one_on A kind place = when eqb kind 3 then word 0x6700 3 (place + 1) else word 0x6700 kind place

abbrev pub kinds_swapped : (A : Type 0) → (kind place : ℕ) → Outcome A
kinds_swapped A kind place = when eqb kind 1 then word 0x6700 2 place else when eqb kind 2 then word 0x6700 1 place else word 0x6700 kind place

abbrev pub plain_at7 : (A : Type 0) → ℕ → Outcome A
plain_at7 A n = word n 0 7

-- the number alone
abbrev pub pair_dropped : ApduStatusCode → StatusWord
pair_dropped s = plain_word (status_no s)

-- 01, 'Refusal numbers': R6 under R7's number
abbrev pub r6_numbered7 : Refusal → ℕ
r6_numbered7 R1 = refusal_no R1
r6_numbered7 R2 = refusal_no R2
r6_numbered7 R3 = refusal_no R3
r6_numbered7 R4 = refusal_no R4
r6_numbered7 R5 = refusal_no R5
r6_numbered7 R6 = 7
r6_numbered7 R7 = refusal_no R7
r6_numbered7 R8 = refusal_no R8

-- 01, 'Refusal numbers': R4 under R2's number
abbrev pub r4_numbered2 : Refusal → ℕ
r4_numbered2 R1 = refusal_no R1
r4_numbered2 R2 = refusal_no R2
r4_numbered2 R3 = refusal_no R3
r4_numbered2 R4 = 2
r4_numbered2 R5 = refusal_no R5
r4_numbered2 R6 = refusal_no R6
r4_numbered2 R7 = refusal_no R7
r4_numbered2 R8 = refusal_no R8
