-- A table of one row, on every list of numbers: a frame is read by it exactly when the row fits, and then as the row says.
use Prim.Native.Nat.{ℕ, ◌<◌, ◌≤◌}
use mathlib.Core.Path.{◌≡◌, ap, sym, ◌∙◌}
use mathlib.Core.Bool.{true, false}
use mathlib.Core.List.{List, [], ◌∷◌}
use native.Mathlib.Omega.{arith}
use native.Mathlib.Decide.{dec_lt}
use lib.ListN.{length}
use Rattle.outcome.specs.Outcome.{Gives}
use Rattle.outcome.proofs.Laws.{gives_same, word_gives}
use Rattle.apdu_table_stated.specs.Words.{Says, Row, Tried, Ok}
use Rattle.apdu_table_stated.specs.Trying.{fits, in_turn}
use Rattle.apdu_table_stated.specs.Answers.{says_by, answer_of, read_by_rows}
use Rattle.apdu_table_stated.proofs.Turns.{Chosen, at_once, further, Turn, chosen, short, past_all, turn}
use Rattle.apdu_table_stated.proofs.Agreement.{tried_short, tried_turn}

module _ (r : Row) (frame : List ℕ) where
  pub one_fits : (says : Says) → read_by_rows (r ∷ []) frame ≡ Gives says → (fits r frame ≡ true) × (says_by r frame ≡ says)
  unfolding read_by_rows
  one_fits says e = go (dec_lt (length frame) 4)
    where
      none : {x : Row} → Chosen [] frame x → ⊥
      none c = elim c [ ]

      own : {x : Row} → Chosen (r ∷ []) frame x → Gives (says_by x frame) ≡ Gives says → (fits r frame ≡ true) × (says_by r frame ≡ says)
      own (at_once f) d = (f, gives_same _ _ d)
      own (further f c) d = absurd (none c)

      by : {t : Tried} → Turn (r ∷ []) frame false 0 t → answer_of frame t ≡ Gives says → (fits r frame ≡ true) × (says_by r frame ≡ says)
      by (chosen x c) d = own c d
      by (short a b) d = absurd (word_gives _ _ d)
      by (past_all k a b c g h i) d = absurd (word_gives _ _ d)

      go : Dec (length frame < 4) → (fits r frame ≡ true) × (says_by r frame ≡ says)
      go (yes h) = absurd (word_gives _ _ (sym (ap (answer_of frame) (tried_short (r ∷ []) frame h)) ∙ e))
      go (no n) = by (turn (r ∷ []) frame false 0) (sym (ap (answer_of frame) (tried_turn (r ∷ []) frame (omega arith))) ∙ e)

  pub one_reads : 4 ≤ length frame → fits r frame ≡ true → read_by_rows (r ∷ []) frame ≡ Gives (says_by r frame)
  unfolding read_by_rows
  one_reads long f =
      let first : in_turn (r ∷ []) frame false 0 ≡ Ok r = rw f in
      ap (answer_of frame) (tried_turn (r ∷ []) frame long ∙ first)
