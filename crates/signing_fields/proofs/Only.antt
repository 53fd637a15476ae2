-- Only the definition meets each claim.
use mathlib.Core.Path.{◌≡◌}
use mathlib.Core.List.{List, [], ◌∷◌}
use Prim.Native.Nat.{ℕ}
use Rattle.outcome.specs.Notation.{Determines2}
use Rattle.signing_fields.specs.Terms.{contents}
use Rattle.signing_fields.specs.Claims
use Rattle.signing_fields.proofs.Standing.{same_standing}

pub WritesAll : Determines2 Claims.WritesAll
WritesAll f g p q fields old = same_standing (contents fields) old _ _ (p fields old) (q fields old)

pub WritesTwo : (f g : (a b old : List ℕ) → List ℕ) → Claims.WritesTwo f → Claims.WritesTwo g → (a b old : List ℕ) → f a b old ≡ g a b old
WritesTwo f g p q a b old = same_standing (a ∷ b ∷ []) old _ _ (p a b old) (q a b old)

pub WritesThree : (f g : (a b c old : List ℕ) → List ℕ) → Claims.WritesThree f → Claims.WritesThree g → (a b c old : List ℕ) → f a b c old ≡ g a b c old
WritesThree f g p q a b c old = same_standing (a ∷ b ∷ c ∷ []) old _ _ (p a b c old) (q a b c old)

pub WritesFour : (f g : (a b c d old : List ℕ) → List ℕ) → Claims.WritesFour f → Claims.WritesFour g → (a b c d old : List ℕ) → f a b c d old ≡ g a b c d old
WritesFour f g p q a b c d old = same_standing (a ∷ b ∷ c ∷ d ∷ []) old _ _ (p a b c d old) (q a b c d old)

pub WritesFive : (f g : (a b c d e old : List ℕ) → List ℕ) → Claims.WritesFive f → Claims.WritesFive g → (a b c d e old : List ℕ) → f a b c d e old ≡ g a b c d e old
WritesFive f g p q a b c d e old = same_standing (a ∷ b ∷ c ∷ d ∷ e ∷ []) old _ _ (p a b c d e old) (q a b c d e old)
