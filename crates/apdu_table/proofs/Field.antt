-- The Le field of a row, as the code meets it: the bytes between the data's end and the row's.
use Prim.Native.Nat.{ℕ, ◌+◌, ◌-◌, ◌≤◌}
use mathlib.Core.Path.{◌≡◌, refl, ap, ◌∙◌}
use mathlib.Core.List.{List}
use native.Mathlib.Omega.{arith}
use lib.ListN.{length, take, drop}
use Rattle.apdu_table_stated.specs.declared.Row.{Row}
use Rattle.apdu_stated.specs.Reading.{header_of}
use Rattle.apdu_table_stated.specs.Trying.{lc_in, le_in, row_end}
use Rattle.apdu_table_stated.specs.Answers.{says_by}
use Rattle.apdu_table_stated.proofs.Columns
use Rattle.apdu_le.specs.Field.{said_of}
use Rattle.apdu_le.proofs.Laws.{one_at, two_at, three_at}

le_at : (frame : List ℕ) (place n le : ℕ) → n ≤ 3 → place + n ≤ length frame → le ≡ said_of (take (place + n - place) (drop place frame)) → le ≡ le_in n place frame
le_at frame place n le small h e = go (Columns.le_known n small) h e
  where
    go : {k : ℕ} → Columns.IsLe k → place + k ≤ length frame → le ≡ said_of (take (place + k - place) (drop place frame)) → le ≡ le_in k place frame
    go Columns.le_0 h e = let none : place + 0 - place ≡ 0 = omega arith in e ∙ ap (λ (m : ℕ). said_of (take m (drop place frame))) none ∙ Columns.le_none frame place
    go Columns.le_1 h e = one_at frame place (place + 1) le h e refl ∙ Columns.le_one frame place
    go Columns.le_2 h e = two_at frame place (place + 2) le h e refl ∙ Columns.le_two frame place
    go Columns.le_3 h e = three_at frame place (place + 3) le h e refl ∙ Columns.le_three frame place

module _ (r : Row) (frame : List ℕ) (lc le : ℕ) (is_lc : lc ≡ lc_in r.lc_field frame) where
  pub says_is : r.le_field ≤ 3 → row_end r frame ≡ length frame
      → le ≡ said_of (take (4 + r.lc_field + lc + r.le_field - (4 + r.lc_field + lc)) (drop (4 + r.lc_field + lc) frame))
      → record { header = header_of frame; shape = r.number; data_at = 4 + r.lc_field; lc = lc; le = le } ≡ says_by r frame
  says_is small end e =
      let read = le_at frame (4 + r.lc_field + lc) r.le_field le small (omega arith) e in
      rw (read, is_lc)
