-- The second reader, by either of the two tables, is the branching one.
use Prim.Native.Nat.{ℕ, ◌<◌, ◌≤◌}
use mathlib.Core.Path.{◌≡◌, refl, ap, sym, ◌∙◌}
use mathlib.Core.Bool.{true, false, true≢false}
use mathlib.Core.List.{List}
use mathlib.Core.Logic.{◌⊎◌, inl, inr}
use native.Mathlib.Omega.{arith}
use native.Mathlib.Decide.{dec_lt}
use borrow.Author.Tests.{lt-ltb, le-ltb}
use lib.ListN.{length, drop}
use Rattle.outcome.specs.Outcome.{missing_at, surplus_at}
use Rattle.apdu_stated.specs.Reading.{read_by, lengths_of, say_of}
use Rattle.apdu_stated.specs.declared.Lengths.{Lengths}
use Rattle.apdu_stated.proofs.Laws.{way, read_under, read_by_lem, say_missing, say_surplus}
use Rattle.apdu_table_stated.specs.Words.{Entry, Ordinary, Strict, Row, Tried, Err, UnderFour}
use Rattle.apdu_table_stated.specs.Rows.{table_of}
use Rattle.apdu_table_stated.specs.Trying.{ends_early, claimed, in_turn, tried_of}
use Rattle.apdu_table_stated.specs.Answers.{answer_of, read_by_rows}
use Rattle.apdu_table_stated.specs.Terms.{Has, here, behind}
use Rattle.apdu_table_stated.proofs.Fitting.{RowIs, is_1, is_2, is_3, is_4, is_5, is_7, is_8, fit_reads}
use Rattle.apdu_table_stated.proofs.ByRows.{ByRows, fit, early, on, by_rows}
use Rattle.apdu_table_stated.proofs.Turns.{Turn, chosen, short, past_all, turn, chosen_has, chosen_fits, no_row}

-- the rows of the two tables, both ways
pub has_is : (entry : Entry) {r : Row} → Has (table_of entry) r → RowIs entry r
has_is Ordinary here = is_1
has_is Ordinary (behind here) = is_2
has_is Ordinary (behind (behind here)) = is_3
has_is Ordinary (behind (behind (behind here))) = is_4
has_is Ordinary (behind (behind (behind (behind here)))) = is_5
has_is Ordinary (behind (behind (behind (behind (behind here))))) = is_7
has_is Ordinary (behind (behind (behind (behind (behind (behind here)))))) = is_8
has_is Ordinary (behind (behind (behind (behind (behind (behind (behind h))))))) = absurd (no_row h)
has_is Strict here = is_1
has_is Strict (behind here) = is_2
has_is Strict (behind (behind here)) = is_3
has_is Strict (behind (behind (behind here))) = is_4
has_is Strict (behind (behind (behind (behind here)))) = is_5
has_is Strict (behind (behind (behind (behind (behind here))))) = is_7
has_is Strict (behind (behind (behind (behind (behind (behind here)))))) = is_8
has_is Strict (behind (behind (behind (behind (behind (behind (behind h))))))) = absurd (no_row h)

pub is_has : (entry : Entry) {r : Row} → RowIs entry r → Has (table_of entry) r
is_has Ordinary is_1 = here
is_has Ordinary is_2 = behind here
is_has Ordinary is_3 = behind (behind here)
is_has Ordinary is_4 = behind (behind (behind here))
is_has Ordinary is_5 = behind (behind (behind (behind here)))
is_has Ordinary is_7 = behind (behind (behind (behind (behind here))))
is_has Ordinary is_8 = behind (behind (behind (behind (behind (behind here)))))
is_has Strict is_1 = here
is_has Strict is_2 = behind here
is_has Strict is_3 = behind (behind here)
is_has Strict is_4 = behind (behind (behind here))
is_has Strict is_5 = behind (behind (behind (behind here)))
is_has Strict is_7 = behind (behind (behind (behind (behind here))))
is_has Strict is_8 = behind (behind (behind (behind (behind (behind here)))))

pub tried_short : (rows : List Row) (frame : List ℕ) → length frame < 4 → tried_of rows frame ≡ Err UnderFour
unfolding tried_of
tried_short rows frame h = rw (lt-ltb (length frame) 4 h)

pub tried_turn : (rows : List Row) (frame : List ℕ) → 4 ≤ length frame → tried_of rows frame ≡ in_turn rows frame false 0
unfolding tried_of
tried_turn rows frame h = rw (le-ltb (length frame) 4 h)

module _ (entry : Entry) (frame : List ℕ) (long : 4 ≤ length frame) where
  -- what comes of trying the rows, and what is read, are one answer
  answered : {t : Tried} → Turn (table_of entry) frame false 0 t → (l : Lengths) → l ≡ lengths_of entry (drop 4 frame) → ByRows entry frame l → answer_of frame t ≡ read_by entry frame
  answered (chosen r c) l e b = sym (fit_reads entry frame long (has_is entry (chosen_has c)) (chosen_fits c))
  answered (short no_fit ends) l e b = go ends l e b
    where
      go : (false ≡ true) ⊎ ((r : Row) × Has (table_of entry) r × (ends_early r frame ≡ true)) → (l : Lengths) → l ≡ lengths_of entry (drop 4 frame) → ByRows entry frame l
          → missing_at (length frame) ≡ read_by entry frame
      go (inl never) l e b = absurd (true≢false (sym never))
      go (inr x) _ e (fit r is f) = absurd (true≢false (sym f ∙ no_fit r (is_has entry is)))
      go (inr x) _ e (early r is f) = sym (read_by_lem entry frame long ∙ ap (say_of frame) (sym e) ∙ say_missing frame)
      go (inr x) _ e (on k no_early bound r is at) = absurd (no_early x.0 x.2)
  answered (past_all k no_fit none no_early low bound at) l e b = go l e b
    where
      go : (l : Lengths) → l ≡ lengths_of entry (drop 4 frame) → ByRows entry frame l → surplus_at k ≡ read_by entry frame
      go _ e (fit r is f) = absurd (true≢false (sym f ∙ no_fit r (is_has entry is)))
      go _ e (early r is f) = absurd (true≢false (sym f ∙ no_early r (is_has entry is)))
      go _ e (on m early_none most r is top) =
          let up : claimed r frame ≤ k = bound r (is_has entry is) in
          let down : k ≤ m = under at in
          let same : k ≡ m = omega arith in
          ap surplus_at same ∙ sym (read_by_lem entry frame long ∙ ap (say_of frame) (sym e) ∙ say_surplus frame m)
        where
          under : (k ≡ 0) ⊎ ((x : Row) × Has (table_of entry) x × (claimed x frame ≡ k)) → k ≤ m
          under (inl z) = omega arith
          under (inr x) = let b = most x.0 (has_is entry x.1) in let c = x.2 in omega arith

  pub same_long : read_by_rows (table_of entry) frame ≡ read_by entry frame
  unfolding read_by_rows
  same_long =
      ap (answer_of frame) (tried_turn (table_of entry) frame long)
      ∙ answered (turn (table_of entry) frame false 0) (lengths_of entry (drop 4 frame)) refl (by_rows entry frame long (way entry (drop 4 frame)))

pub same : (entry : Entry) (frame : List ℕ) → read_by_rows (table_of entry) frame ≡ read_by entry frame
unfolding read_by_rows
same entry frame = go (dec_lt (length frame) 4)
  where
    go : Dec (length frame < 4) → read_by_rows (table_of entry) frame ≡ read_by entry frame
    go (yes h) = ap (answer_of frame) (tried_short (table_of entry) frame h) ∙ read_under entry frame h
    go (no h) = same_long entry frame (omega arith)
