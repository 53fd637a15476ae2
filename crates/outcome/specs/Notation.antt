-- The two tools that every definition of this project is written with. Ours; no document has them.
use Rattle.std.specs.Prelude.{Bool, true, false, ◌≡◌}

infixr 1 when◌then◌else◌
-- `when test then a else b`. The tests are `ltb a b` (a < b), `leb a b` (a ≤ b), `eqb a b` (a = b), `not`, `&&` and `||`.
abbrev pub when◌then◌else◌ : {A : Type 0} → Bool → A → A → A
when◌then◌else◌ true a b = a
when◌then◌else◌ false a b = b

-- At most one value meets the claim: two that meet it are equal.
abbrev pub AtMostOne : {A : Type 0} → (A → Type 0) → Type 0
AtMostOne {A} Meets = (a b : A) → Meets a → Meets b → a ≡ b

-- The claim determines the program: two functions that meet it give the same at every argument. For functions of one, two and
-- three arguments.
abbrev pub Determines : {A B : Type 0} → ((A → B) → Type 0) → Type 0
Determines {A} {B} Claim = (f g : A → B) → Claim f → Claim g → (a : A) → f a ≡ g a

abbrev pub Determines2 : {A B C : Type 0} → ((A → B → C) → Type 0) → Type 0
Determines2 {A} {B} {C} Claim = (f g : A → B → C) → Claim f → Claim g → (a : A) (b : B) → f a b ≡ g a b

abbrev pub Determines3 : {A B C D : Type 0} → ((A → B → C → D) → Type 0) → Type 0
Determines3 {A} {B} {C} {D} Claim = (f g : A → B → C → D) → Claim f → Claim g → (a : A) (b : B) (c : C) → f a b c ≡ g a b c
