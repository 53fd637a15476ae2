-- Ways back: the numbers of kinds and answers tell their cases apart.
use Prim.Native.Nat.{ℕ}
use mathlib.Core.Path.{◌≡◌, refl, ap}
use lib.Dec.{eqb}
use Rattle.outcome.specs.Notation.{when◌then◌else◌}
use Rattle.outcome.specs.Outcome.{Outcome, R, Word, Gives}
use Rattle.outcome.proofs.Laws.{one_to_one, status_of, status_back, refusal_of, refusal_back}
use Rattle.outcome.specs.declared.Refusal.{Refusal}
use Rattle.outcome.specs.declared.ApduStatusCode.{ApduStatusCode}
use Rattle.signing_stated.specs.Orders.{Kind, Register, Authenticate, kind_no}
use Rattle.signing_stated.specs.Finishing.{Finished, Refused, Status, Ok, Err, finished_of}

kind_from : ℕ → Kind
kind_from n = when eqb n 0x01 then Register else Authenticate

kind_back : (k : Kind) → kind_from (kind_no k) ≡ k
unfolding kind_from
kind_back Register = refl
kind_back Authenticate = refl

pub kind_one_to_one : (a b : Kind) → kind_no a ≡ kind_no b → a ≡ b
kind_one_to_one = one_to_one kind_no kind_from kind_back

finished_from : Outcome ℕ → Finished
finished_from (R n) = Err (Refused (refusal_of n))
finished_from (Word s) = Err (Status (status_of s))
finished_from (Gives n) = Ok n

finished_back : (f : Finished) → finished_from (finished_of f) ≡ f
unfolding finished_from
finished_back (Err (Refused r)) = ap (λ (why : Refusal). Err (Refused why)) (refusal_back r)
finished_back (Err (Status s)) = ap (λ (status : ApduStatusCode). Err (Status status)) (status_back s)
finished_back (Ok n) = refl

pub finished_one_to_one : (a b : Finished) → finished_of a ≡ finished_of b → a ≡ b
finished_one_to_one = one_to_one finished_of finished_from finished_back
