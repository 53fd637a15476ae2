-- The claims of specs/Claims.antt.
use mathlib.Core.Path.{sym, subst}
use mathlib.Core.List.{[], ◌∷◌, ◌++◌}
use Rattle.outcome.proofs.Laws.{both_are}
use Rattle.octets.specs.Bytes.{laid}
use Rattle.signing_fields.specs.Claims
use Rattle.signing_fields.specs.Terms.{contents, joined}
use Rattle.signing_fields.proofs.Standing.{stands}

pub WritesAll : Claims.WritesAll (λ fields old. laid (joined (contents fields)) old)
WritesAll fields old = stands (contents fields) old

pub WritesTwo : Claims.WritesTwo (λ a b old. laid (a ++ b) old)
WritesTwo a b old = stands (a ∷ b ∷ []) old

pub WritesThree : Claims.WritesThree (λ a b c old. laid (a ++ (b ++ c)) old)
WritesThree a b c old = stands (a ∷ b ∷ c ∷ []) old

pub WritesFour : Claims.WritesFour (λ a b c d old. laid (a ++ (b ++ (c ++ d))) old)
WritesFour a b c d old = stands (a ∷ b ∷ c ∷ d ∷ []) old

pub WritesFive : Claims.WritesFive (λ a b c d e old. laid (a ++ (b ++ (c ++ (d ++ e)))) old)
WritesFive a b c d e old = stands (a ∷ b ∷ c ∷ d ∷ e ∷ []) old

pub Instances : Claims.Instances
Instances =
    record {
      two = λ a b old after is. is;
      three = λ a b c old after is. is;
      four = λ a b c d old after is. is;
      five = λ a b c d e old after is. is;
    }

-- a writer that leaves what a definition leaves, input by input, is that definition
pub ContractsAsClaimed : Claims.ContractsAsClaimed
ContractsAsClaimed =
    record {
      put_all = λ write is. subst Claims.WritesAll (λ i fields old. sym (is fields old) i) WritesAll;
      put_two = λ write is. subst Claims.WritesTwo (λ i a b old. sym (is a b old) i) WritesTwo;
      put_three = λ write is. subst Claims.WritesThree (λ i a b c old. sym (is a b c old) i) WritesThree;
      put_four = λ write is. subst Claims.WritesFour (λ i a b c d old. sym (is a b c d old) i) WritesFour;
      put_five = λ write is. subst Claims.WritesFive (λ i a b c d e old. sym (is a b c d e old) i) WritesFive;
    }

pub ResultsDetermined : Claims.ResultsDetermined
ResultsDetermined =
    record {
      put_all = λ fields old p q. both_are p q;
      put_two = λ a b old p q. both_are p q;
      put_three = λ a b c old p q. both_are p q;
      put_four = λ a b c d old p q. both_are p q;
      put_five = λ a b c d e old p q. both_are p q;
    }
