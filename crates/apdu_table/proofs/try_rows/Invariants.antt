-- `try_rows` meets its contract: the rows from here on, behind what those before came to, come to what all of them do.
use Rattle.apdu_table_stated.proofs.Cases
use Rattle.apdu_table.proofs.try_rows.Given as goal

abbrev pub invariant-loop-columns : goal.invariant-loop-columns
invariant-loop-columns l = Cases.At l.table l.frame l.columns-index l.early l.most
