-- A word that only claims are written with.
use Rattle.std.specs.Prelude.{◌≡◌}

-- The claim determines the program on these arguments: two functions that meet it give the same at each of them.
abbrev pub DeterminesOn : {A B : Type 0} → (A → Type 0) → ((A → B) → Type 0) → Type 0
DeterminesOn {A} {B} These Claim = (f g : A → B) → Claim f → Claim g → (a : A) → These a → f a ≡ g a
