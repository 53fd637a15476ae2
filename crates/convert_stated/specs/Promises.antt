-- What each public function of `convert` promises of its result, and of the buffer that is lent to it, on every input.
use Rattle.std.specs.Prelude.{◌≡◌}
use Rattle.convert_stated.specs.Words.{Bool, List, Outcome, Converted, ℕ}
use Rattle.convert_stated.specs.Converting.{is_old, convert_of}
use Rattle.convert_stated.specs.Answers.{converted_of}

-- `is_old`
abbrev pub OldFormTold : List ℕ → Bool → Type 0
OldFormTold frame r = r ≡ is_old frame

-- an answer, and what the buffer holds afterwards
abbrev pub Leaves : Outcome ℕ × List ℕ → Converted → List ℕ → Type 0
Leaves written r after = (converted_of r ≡ written.0) × (after ≡ written.1)

-- `convert`: the answer, and what the buffer holds afterwards
abbrev pub Convert : List ℕ → List ℕ → Converted → List ℕ → Type 0
Convert frame before r after = Leaves (convert_of frame before) r after
