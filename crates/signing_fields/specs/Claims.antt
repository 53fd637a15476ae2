-- What is promised of the field writers, of any function. Proved in proofs/Theorems.antt; proofs/Only.antt shows that no other writer
-- meets the claims, proofs/Refuted.antt that those of specs/Wrong.antt do not.
use Rattle.std.specs.Prelude.{List, [], ◌∷◌, ℕ}
use Rattle.std.specs.Borrow.{Bor}
use Rattle.outcome.specs.Notation.{AtMostOne}
use Rattle.signing_fields.specs.Terms.{contents, Stand}
use Rattle.signing_fields.specs.Promises.{PutAll, PutTwo, PutThree, PutFour, PutFive}

-- 01, 'The decision': "Each field is written into the rest of the buffer after the field before". Of a writer of so many fields and the
-- buffer before, what the buffer holds afterwards, byte by byte (Terms.antt). One that writes the last two in the other order (`turns_two` to `turns_five`;
-- of all, `turns_all`) fails it where they differ, one that leaves the last out (`leaves_two` to `leaves_five`; all but the first, `leaves_all`) where it is not empty.
abbrev pub WritesAll : ((fields : List (Bor (List ℕ))) (old : List ℕ) → List ℕ) → Type 0
WritesAll write = (fields : List (Bor (List ℕ))) (old : List ℕ) → Stand (contents fields) old (write fields old)

abbrev pub WritesTwo : ((a b old : List ℕ) → List ℕ) → Type 0
WritesTwo write = (a b old : List ℕ) → Stand (a ∷ b ∷ []) old (write a b old)

abbrev pub WritesThree : ((a b c old : List ℕ) → List ℕ) → Type 0
WritesThree write = (a b c old : List ℕ) → Stand (a ∷ b ∷ c ∷ []) old (write a b c old)

abbrev pub WritesFour : ((a b c d old : List ℕ) → List ℕ) → Type 0
WritesFour write = (a b c d old : List ℕ) → Stand (a ∷ b ∷ c ∷ d ∷ []) old (write a b c d old)

abbrev pub WritesFive : ((a b c d e old : List ℕ) → List ℕ) → Type 0
WritesFive write = (a b c d e old : List ℕ) → Stand (a ∷ b ∷ c ∷ d ∷ e ∷ []) old (write a b c d e old)

-- What is promised of fields in a slice is, of two of them, up to five, what is promised of a writer of so many.
pub record Instances : Type 0 where
  pub two : (a b : Bor (List ℕ)) (old after : List ℕ) → PutAll (a ∷ b ∷ []) old after → PutTwo a.now b.now old after
  pub three : (a b c : Bor (List ℕ)) (old after : List ℕ) → PutAll (a ∷ b ∷ c ∷ []) old after → PutThree a.now b.now c.now old after
  pub four : (a b c d : Bor (List ℕ)) (old after : List ℕ) → PutAll (a ∷ b ∷ c ∷ d ∷ []) old after → PutFour a.now b.now c.now d.now old after
  pub five : (a b c d e : Bor (List ℕ)) (old after : List ℕ) → PutAll (a ∷ b ∷ c ∷ d ∷ e ∷ []) old after → PutFive a.now b.now c.now d.now e.now old after

-- Whatever meets a writer's contract meets the claim on it.
pub record ContractsAsClaimed : Type 0 where
  pub put_all : (write : (fields : List (Bor (List ℕ))) (old : List ℕ) → List ℕ) → ((fields : List (Bor (List ℕ))) (old : List ℕ) → PutAll fields old (write fields old)) → WritesAll write
  pub put_two : (write : (a b old : List ℕ) → List ℕ) → ((a b old : List ℕ) → PutTwo a b old (write a b old)) → WritesTwo write
  pub put_three : (write : (a b c old : List ℕ) → List ℕ) → ((a b c old : List ℕ) → PutThree a b c old (write a b c old)) → WritesThree write
  pub put_four : (write : (a b c d old : List ℕ) → List ℕ) → ((a b c d old : List ℕ) → PutFour a b c d old (write a b c d old)) → WritesFour write
  pub put_five : (write : (a b c d e old : List ℕ) → List ℕ) → ((a b c d e old : List ℕ) → PutFive a b c d e old (write a b c d e old)) → WritesFive write

-- 01: "Show that two results satisfying it are equal": of each writer, what the buffer holds afterwards.
pub record ResultsDetermined : Type 0 where
  pub put_all : (fields : List (Bor (List ℕ))) (old : List ℕ) → AtMostOne (PutAll fields old)
  pub put_two : (a b old : List ℕ) → AtMostOne (PutTwo a b old)
  pub put_three : (a b c old : List ℕ) → AtMostOne (PutThree a b c old)
  pub put_four : (a b c d old : List ℕ) → AtMostOne (PutFour a b c d old)
  pub put_five : (a b c d e old : List ℕ) → AtMostOne (PutFive a b c d e old)
