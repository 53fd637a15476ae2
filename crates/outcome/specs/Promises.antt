-- What is promised of each public function of src/lib.rt, and of each conversion, over its argument and its result.
use Rattle.std.specs.Prelude.{ℕ, ◌≡◌}
use Rattle.outcome.specs.Outcome.{FaultNumbers, status_no, fault_of, no_fault, refusal_no}
use Rattle.outcome.specs.declared.ApduStatusCode.{ApduStatusCode}
use Rattle.outcome.specs.declared.Refusal.{Refusal}
use Rattle.outcome.specs.NotDone.{NotDone, Refused, Status}

abbrev pub StatusNumber : ApduStatusCode → ℕ → Type 0
StatusNumber status r = r ≡ status_no status

abbrev pub Fault : ApduStatusCode → FaultNumbers → Type 0
Fault status r = r ≡ fault_of status

abbrev pub NoFault : FaultNumbers → Type 0
NoFault r = r ≡ no_fault

abbrev pub RefusalNumber : Refusal → ℕ → Type 0
RefusalNumber refusal r = r ≡ refusal_no refusal

-- what `?` makes of a refusal, and of a status word
abbrev pub IsRefused : Refusal → NotDone → Type 0
IsRefused why r = r ≡ Refused why

abbrev pub IsStatus : ApduStatusCode → NotDone → Type 0
IsStatus status r = r ≡ Status status
