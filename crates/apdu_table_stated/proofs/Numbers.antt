-- The way back from what is said to the answer that the code holds: so a contract that fixes what is said fixes the answer.
use mathlib.Core.Path.{◌≡◌, refl, ap}
use Rattle.outcome.specs.Outcome.{Outcome, R, Word, Gives}
use Rattle.outcome.specs.declared.ApduStatusCode.TheVariants.{Success}
use Rattle.outcome.proofs.Laws.{one_to_one, status_of, status_back}
use Rattle.apdu_table_stated.specs.Words.{Ok, Err, Says}
use Rattle.apdu_table_stated.specs.Answers.{RowSays, TableReading, table_reading_of}

says_back : Says → RowSays
says_back s = record { header = s.header; number = s.shape; start = s.data_at; lc = s.lc; le = s.le }

back : Outcome Says → TableReading
back (R n) = Err Success
back (Word w) = Err (status_of w)
back (Gives s) = Ok (says_back s)

there_and_back : (r : TableReading) → back (table_reading_of r) ≡ r
unfolding back says_back
there_and_back (Ok s) = refl
there_and_back (Err s) = ap Err (status_back s)

pub table_reading_same : (a b : TableReading) → table_reading_of a ≡ table_reading_of b → a ≡ b
table_reading_same = one_to_one table_reading_of back there_and_back
