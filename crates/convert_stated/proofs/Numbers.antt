-- The way back from what is said to the answer that the code holds: so a contract that fixes what is said fixes the answer.
use Prim.Native.Nat.{ℕ}
use mathlib.Core.Path.{◌≡◌, refl, ap}
use Rattle.outcome.specs.Outcome.{Outcome, R, Word, Gives}
use Rattle.outcome.proofs.Laws.{one_to_one, status_of, status_back, refusal_of, refusal_back}
use Rattle.convert_stated.specs.Words.{Ok, Err, ApduStatusCode, Refusal, Refused, Status, Converted}
use Rattle.convert_stated.specs.Answers.{converted_of}

back : Outcome ℕ → Converted
back (Gives n) = Ok n
back (R n) = Err (Refused (refusal_of n))
back (Word w) = Err (Status (status_of w))

there_and_back : (r : Converted) → back (converted_of r) ≡ r
unfolding back
there_and_back (Ok n) = refl
there_and_back (Err (Refused r)) = ap (λ (x : Refusal). Err (Refused x)) (refusal_back r)
there_and_back (Err (Status s)) = ap (λ (x : ApduStatusCode). Err (Status x)) (status_back s)

pub converted_same : (a b : Converted) → converted_of a ≡ converted_of b → a ≡ b
converted_same = one_to_one converted_of back there_and_back
