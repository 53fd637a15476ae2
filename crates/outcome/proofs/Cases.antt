-- A status word's pair, as the code meets it. It mentions no function.
use Prim.Native.Nat.{ℕ}
use mathlib.Core.Path.{◌≡◌, ap, sym, ◌∙◌}
use Rattle.outcome.specs.Outcome.{FaultNumbers, fault_pair, fault_kind, fault_of}
use Rattle.outcome.specs.declared.ApduStatusCode.{ApduStatusCode}
use Rattle.outcome.specs.declared.ApduStatusCode.TheVariants.{WrongLength}
use Rattle.outcome.specs.declared.LengthFault.{LengthFault}

pub length_fault : (s : ApduStatusCode) (f : LengthFault) (place kind : ℕ) (r : FaultNumbers) → s ≡ WrongLength f place → kind ≡ fault_kind f → r ≡ fault_pair kind place → r ≡ fault_of s
length_fault s f place kind r z is_kind is = is ∙ ap (λ (k : ℕ). fault_pair k place) is_kind ∙ ap fault_of (sym z)
