-- What is promised of the public function of src/lib.rt: `old` is what the buffer held, `after` what it holds.
-- 01, 'The decision': "Each field is written into the rest of the buffer after the field before".
use Rattle.std.specs.Prelude.{◌≡◌, List, ◌++◌, ℕ}
use Rattle.std.specs.Borrow.{Bor}
use Rattle.octets.specs.Bytes.{laid}
use Rattle.signing_fields.specs.Terms.{contents, joined}

abbrev pub PutAll : (fields : List (Bor (List ℕ))) (old after : List ℕ) → Type 0
PutAll fields old after = after ≡ laid (joined (contents fields)) old

-- The same of two fields, up to five, each by itself (Claims.antt, `Instances`).
abbrev pub PutTwo : (a b old after : List ℕ) → Type 0
PutTwo a b old after = after ≡ laid (a ++ b) old

abbrev pub PutThree : (a b c old after : List ℕ) → Type 0
PutThree a b c old after = after ≡ laid (a ++ (b ++ c)) old

abbrev pub PutFour : (a b c d old after : List ℕ) → Type 0
PutFour a b c d old after = after ≡ laid (a ++ (b ++ (c ++ d))) old

abbrev pub PutFive : (a b c d e old after : List ℕ) → Type 0
PutFive a b c d e old after = after ≡ laid (a ++ (b ++ (c ++ (d ++ e)))) old
