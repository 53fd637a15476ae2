-- Wrong field writers, each with one fault: the last two fields in the other order, or the last one left out.
use Rattle.std.specs.Prelude.{List, [], ◌∷◌, ◌++◌, ℕ, reverse}
use Rattle.std.specs.Borrow.{Bor}
use Rattle.octets.specs.Bytes.{laid}
use Rattle.signing_fields.specs.Terms.{contents, joined}

-- of any number of fields: all of them turned round, and the first alone
abbrev pub turns_all : (fields : List (Bor (List ℕ))) (old : List ℕ) → List ℕ
turns_all fields old = laid (joined (reverse (contents fields))) old

abbrev pub leaves_all : (fields : List (Bor (List ℕ))) (old : List ℕ) → List ℕ
leaves_all [] old = old
leaves_all (f ∷ fields) old = laid f.now old

abbrev pub turns_two : (a b old : List ℕ) → List ℕ
turns_two a b old = laid (b ++ a) old

abbrev pub leaves_two : (a b old : List ℕ) → List ℕ
leaves_two a b old = laid (a) old

abbrev pub turns_three : (a b c old : List ℕ) → List ℕ
turns_three a b c old = laid (a ++ (c ++ b)) old

abbrev pub leaves_three : (a b c old : List ℕ) → List ℕ
leaves_three a b c old = laid (a ++ b) old

abbrev pub turns_four : (a b c d old : List ℕ) → List ℕ
turns_four a b c d old = laid (a ++ (b ++ (d ++ c))) old

abbrev pub leaves_four : (a b c d old : List ℕ) → List ℕ
leaves_four a b c d old = laid (a ++ (b ++ c)) old

abbrev pub turns_five : (a b c d e old : List ℕ) → List ℕ
turns_five a b c d e old = laid (a ++ (b ++ (c ++ (e ++ d)))) old

abbrev pub leaves_five : (a b c d e old : List ℕ) → List ℕ
leaves_five a b c d e old = laid (a ++ (b ++ (c ++ d))) old
