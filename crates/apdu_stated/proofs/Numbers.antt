-- The shapes' numbers, and the answers' words, tell the cases apart: each table has a way back.
use Prim.Native.Nat.{ℕ}
use mathlib.Core.Path.{◌≡◌, refl, ap, ap₂, ◌∙◌}
use lib.Dec.{eqb}
use Rattle.std.specs.Prelude.{Ok, Err}
use Rattle.outcome.specs.Notation.{when◌then◌else◌}
use Rattle.outcome.specs.Outcome.{Outcome, R, Word, Gives}
use Rattle.outcome.specs.declared.ApduStatusCode.TheVariants.{Success}
use Rattle.outcome.proofs.Laws.{one_to_one}
use Rattle.outcome.proofs.Laws.{status_of, status_back, refusal_of, refusal_back}
use Rattle.apdu_stated.specs.Words.{Case, Instruction, Le1, Lc1Data, Lc1DataLe1, Lc3Data, Lc3DataLe2, Le3, shape_no}
use Rattle.apdu_stated.specs.Table.{TableRow, columns}
use Rattle.apdu_stated.specs.Answers.{Apdu, Says, Reading, Written, says_of, reading_of, written_of}

case_of : ℕ → Case
case_of n =
    when eqb n 1 then Instruction
    else when eqb n 2 then Le1
    else when eqb n 3 then Lc1Data
    else when eqb n 4 then Lc1DataLe1
    else when eqb n 5 then Lc3Data
    else when eqb n 7 then Lc3DataLe2
    else Le3

case_back : (s : Case) → case_of (shape_no s) ≡ s
unfolding case_of
case_back Instruction = refl
case_back Le1 = refl
case_back Lc1Data = refl
case_back Lc1DataLe1 = refl
case_back Lc3Data = refl
case_back Lc3DataLe2 = refl
case_back Le3 = refl

pub shape_same : (a b : Case) → shape_no a ≡ shape_no b → a ≡ b
shape_same = one_to_one shape_no case_of case_back

pub apdu_back : Says → Apdu
apdu_back said = record { header = said.header; shape = case_of said.shape; lc = said.lc; le = said.le }

pub apdu_back_lem : (a : Apdu) → apdu_back (says_of a) ≡ a
unfolding apdu_back
apdu_back_lem a = ap (λ (s : Case). record { header = a.header; shape = s; lc = a.lc; le = a.le }) (case_back a.shape)

pub says_same : (a b : Apdu) → says_of a ≡ says_of b → a ≡ b
says_same = one_to_one says_of apdu_back apdu_back_lem

reading_back : Outcome Says → Reading
reading_back (R n) = Err Success
reading_back (Word w) = Err (status_of w)
reading_back (Gives said) = Ok (apdu_back said)

reading_back_lem : (r : Reading) → reading_back (reading_of r) ≡ r
unfolding reading_back
reading_back_lem (Ok a) = ap Ok (apdu_back_lem a)
reading_back_lem (Err s) = ap Err (status_back s)

pub reading_same : (a b : Reading) → reading_of a ≡ reading_of b → a ≡ b
reading_same = one_to_one reading_of reading_back reading_back_lem

written_back : Outcome ℕ → Written
written_back (R n) = Err (refusal_of n)
written_back (Word w) = Ok 0
written_back (Gives n) = Ok n

written_back_lem : (r : Written) → written_back (written_of r) ≡ r
unfolding written_back
written_back_lem (Err r) = ap Err (refusal_back r)
written_back_lem (Ok n) = refl

pub written_same : (a b : Written) → written_of a ≡ written_of b → a ≡ b
written_same = one_to_one written_of written_back written_back_lem

-- a row is its three columns
pub row_same : (a b : TableRow) → a.lc_field ≡ b.lc_field → a.lc_least ≡ b.lc_least → a.le_field ≡ b.le_field → a ≡ b
row_same a b p q r = ap₂ (λ (x y : ℕ). columns x y a.le_field) p q ∙ ap (columns b.lc_field b.lc_least) r
