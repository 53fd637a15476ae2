-- Every way through the branching reading, by the rows of its table: what is found is of a row that fits; what misses bytes ends early in a row; what
-- goes on too long ends early in no row, and its place is the most that a row claims.
use Prim.Native.Nat.{ℕ, ◌+◌, ◌-◌, ◌<◌, ◌≤◌}
use mathlib.Core.Path.{◌≡◌, refl, ap, sym, ◌∙◌}
use mathlib.Core.Bool.{true, false}
use mathlib.Core.List.{List}
use native.Mathlib.Omega.{arith}
use native.Mathlib.Decide.{ℕ_discrete}
use borrow.Author.Tests.{ltb-true}
use lib.ListN.{length, drop}
use Rattle.octets.specs.Bytes.{byte, pair_at}
use Rattle.apdu_stated.specs.Table.{least_of, lc_under}
use Rattle.apdu_stated.specs.Terms.{EndsEarly, in_lc, in_short_data, in_extended_data}
use Rattle.apdu_stated.specs.declared.Lengths.{Lengths}
use Rattle.apdu_stated.specs.declared.Lengths.TheVariants.{Found, Missing, Surplus}
use Rattle.apdu_stated.proofs.Laws.{Way, none, le1, short, short_le, le3, wide, wide_le2, missing, short_surplus, le1_surplus, wide_surplus, zero_surplus, from_least, least_one}
use Rattle.apdu_table_stated.specs.Words.{Case, Lc3DataLe2, Entry, Row}
use Rattle.apdu_table_stated.specs.Rows.{numbered}
use Rattle.apdu_table_stated.specs.Trying.{begins, lc_in, row_end, fits, ends_early, claimed}
use Rattle.apdu_table_stated.proofs.Columns.{begins_other, begins_zero, begins_known, lc_none, lc_one, lc_three, IsLc, lc_0, lc_1, lc_3, row_lc, Stands, of_fits, early_of, of_early, of_stands, claimed_stands, claimed_most}
use Rattle.apdu_table_stated.proofs.Fitting.{RowIs, is_1, is_2, is_3, is_4, is_5, is_7, is_8, payload_long, payload_byte, payload_pair}

pub data ByRows (entry : Entry) (frame : List ℕ) : Lengths → Type 0 where
  fit : {s : Case} {lc le : ℕ} → (r : Row) → RowIs entry r → fits r frame ≡ true → ByRows entry frame (Found s lc le)
  early : (r : Row) → RowIs entry r → ends_early r frame ≡ true → ByRows entry frame Missing
  on : (k : ℕ) → ((r : Row) → ends_early r frame ≡ true → ⊥) → ((r : Row) → RowIs entry r → claimed r frame ≤ k)
      → (r : Row) → RowIs entry r → claimed r frame ≡ k → ByRows entry frame (Surplus k)

-- no row's Lc field or data ends behind the frame
none_early : (frame : List ℕ) → 4 ≤ length frame → (5 ≤ length frame → 5 + byte frame 4 ≤ length frame) → 5 ≤ length frame
    → (byte frame 4 ≡ 0 → (7 ≤ length frame) × (7 + pair_at frame 5 ≤ length frame)) → (r : Row) → ends_early r frame ≡ true → ⊥
none_early frame long one five three r e = go r.lc_field (row_lc r (early_of r frame e).0.is_row) (early_of r frame e).0.begin (early_of r frame e).1
  where
    go : (n : ℕ) → IsLc n → begins n 4 frame ≡ true → length frame < 4 + n + lc_in n frame → ⊥
    go _ lc_0 b h = omega (arith, lc_none frame)
    go _ lc_1 b h = omega (arith, one five, lc_one frame five)
    go _ lc_3 b h = let t = three (begins_known 3 4 frame b refl (omega arith)) in omega (arith, lc_three frame t.0)

module _ (entry : Entry) (frame : List ℕ) (long : 4 ≤ length frame) where
  n : length (drop 4 frame) ≡ length frame - 4
  n = payload_long entry frame long

  p0 : byte (drop 4 frame) 0 ≡ byte frame 4
  p0 = payload_byte entry frame long 0

  pp : pair_at (drop 4 frame) 1 ≡ pair_at frame 5
  pp = payload_pair entry frame long

  z0 : ◌≡◌ {A = ℕ} 0 (lc_in 0 frame)
  z0 = lc_none frame

  fits_7 : lc_under entry (pair_at (drop 4 frame) 1) ≡ false → byte frame 4 ≡ 0 → 9 + pair_at frame 5 ≤ length frame → Stands (numbered 7 3 (least_of entry Lc3DataLe2) 2) frame
  fits_7 d z h =
      let l = lc_three frame (omega arith) in
      let least : least_of entry Lc3DataLe2 ≤ lc_in 3 frame = rw (← l, ← pp) (from_least entry (pair_at (drop 4 frame) 1) d) in
      record { is_row = refl; begin = begins_zero 3 4 frame z; least = least; within = omega arith; le_begin = begins_other 2 _ frame (omega arith) }

  fits_8 : byte frame 4 ≡ 0 → 7 ≤ length frame → Stands (numbered 8 0 0 3) frame
  fits_8 z h =
      let at : byte frame (4 + 0 + lc_in 0 frame) ≡ 0 = ap (byte frame) (omega (arith, z0)) ∙ z in
      record { is_row = refl; begin = begins_other 0 4 frame (omega arith); least = omega arith; within = omega (arith, z0); le_begin = begins_zero 3 _ frame at }

  fits_5 : byte frame 4 ≡ 0 → (pair_at frame 5 ≡ 0 → ⊥) → 7 + pair_at frame 5 ≤ length frame → Stands (numbered 5 3 1 0) frame
  fits_5 z some h =
      let l = lc_three frame (omega arith) in
      record { is_row = refl; begin = begins_zero 3 4 frame z; least = omega arith; within = omega arith; le_begin = begins_other 0 _ frame (omega arith) }

  fits_4 : (byte frame 4 ≡ 0 → ⊥) → 6 + byte frame 4 ≤ length frame → Stands (numbered 4 1 1 1) frame
  fits_4 some h =
      let l = lc_one frame (omega arith) in
      record { is_row = refl; begin = begins_other 1 4 frame (omega arith); least = omega arith; within = omega arith; le_begin = begins_other 1 _ frame (omega arith) }

  -- what a row claims at most, where the payload begins with no 00
  most_short : (byte frame 4 ≡ 0 → ⊥) → 5 ≤ length frame → (r : Row) → RowIs entry r → claimed r frame ≤ 6 + byte frame 4
  most_short some h r is = claimed_most r frame (6 + byte frame 4) (go is)
    where
      one : byte frame 4 ≡ lc_in 1 frame
      one = lc_one frame h

      never : {r : Row} → r.lc_field ≡ 3 → Stands r frame → ⊥
      never {r} is t = some (begins_known r.lc_field 4 frame t.begin is (omega arith))

      go : {r : Row} → RowIs entry r → Stands r frame → row_end r frame ≤ 6 + byte frame 4
      go is_1 t = omega (arith, z0)
      go is_2 t = omega (arith, z0)
      go is_3 t = omega (arith, one)
      go is_4 t = omega (arith, one)
      go is_5 t = absurd (never refl t)
      go is_7 t = absurd (never refl t)
      go is_8 t = omega (arith, z0)

  -- and where it does: by the least Lc of rows 5 and 7
  most_extended : (k : ℕ) → byte frame 4 ≡ 0 → 7 ≤ length frame → 7 ≤ k → (1 ≤ pair_at frame 5 → 7 + pair_at frame 5 ≤ k)
      → (least_of entry Lc3DataLe2 ≤ pair_at frame 5 → 9 + pair_at frame 5 ≤ length frame → 9 + pair_at frame 5 ≤ k)
      → (r : Row) → RowIs entry r → claimed r frame ≤ k
  most_extended k z h seven five last r is = claimed_most r frame k (go is)
    where
      one : byte frame 4 ≡ lc_in 1 frame
      one = lc_one frame (omega arith)

      three : pair_at frame 5 ≡ lc_in 3 frame
      three = lc_three frame h

      go : {r : Row} → RowIs entry r → Stands r frame → row_end r frame ≤ k
      go is_1 t = omega (arith, z0)
      go is_2 t = omega (arith, z0)
      go is_3 t = absurd (omega (arith, one))
      go is_4 t = absurd (omega (arith, one))
      go is_5 t = let a = five (omega (arith, three)) in omega (arith, three)
      go is_7 t = let a = last (rw three t.least) (omega (arith, three)) in omega (arith, three)
      go is_8 t = omega (arith, z0)

  attained : (r : Row) (k : ℕ) → Stands r frame → row_end r frame ≡ k → claimed r frame ≡ k
  attained r k t e = claimed_stands r frame (of_stands r frame t) ∙ e

  -- one byte behind the data: the most is row 5's, or row 8's where there is none
  one_behind : byte frame 4 ≡ 0 → length frame ≡ 8 + pair_at frame 5 → Dec (pair_at frame 5 ≡ 0) → ByRows entry frame (Surplus (7 + pair_at frame 5))
  one_behind z h d =
      on (7 + pair_at frame 5)
      (none_early frame long (λ q. omega arith) (omega arith) (λ q. (omega arith, omega arith)))
      (most_extended (7 + pair_at frame 5) z (omega arith) (omega arith) (λ q. omega arith) (λ a b. absurd (omega arith)))
      (top d).0 (top d).1 (top d).2
    where
      top : Dec (pair_at frame 5 ≡ 0) → (r : Row) × RowIs entry r × (claimed r frame ≡ 7 + pair_at frame 5)
      top (yes empty) = (numbered 8 0 0 3, is_8, attained _ _ (fits_8 z (omega arith)) (omega (arith, z0)))
      top (no some) = let l = lc_three frame (omega arith) in (numbered 5 3 1 0, is_5, attained _ _ (fits_5 z some (omega arith)) (omega arith))

  at_missing : EndsEarly (drop 4 frame) → ByRows entry frame Missing
  at_missing (in_lc two z h) =
      early (numbered 5 3 1 0) is_5 (of_early (numbered 5 3 1 0) frame (record { is_row = refl; begin = begins_zero 3 4 frame (sym p0 ∙ z) }) (omega (arith, n)))
  at_missing (in_short_data two nz h) =
      early (numbered 3 1 1 0) is_3
      (of_early (numbered 3 1 1 0) frame (record { is_row = refl; begin = begins_other 1 4 frame (omega arith) }) (omega (arith, n, p0, lc_one frame (omega (arith, n)))))
  at_missing (in_extended_data z more h) =
      early (numbered 5 3 1 0) is_5
      (of_early (numbered 5 3 1 0) frame (record { is_row = refl; begin = begins_zero 3 4 frame (sym p0 ∙ z) }) (omega (arith, n, pp, lc_three frame (omega (arith, n)))))

  pub by_rows : {l : Lengths} → Way entry (drop 4 frame) l → ByRows entry frame l
  by_rows (none e) =
      let t : Stands (numbered 1 0 0 0) frame = record { is_row = refl; begin = begins_other 0 4 frame (omega arith); least = omega arith; within = omega (arith, n, z0); le_begin = begins_other 0 _ frame (omega arith) } in
      fit (numbered 1 0 0 0) is_1 (of_fits _ frame t (omega (arith, n, z0)))
  by_rows (le1 e) =
      let t : Stands (numbered 2 0 0 1) frame = record { is_row = refl; begin = begins_other 0 4 frame (omega arith); least = omega arith; within = omega (arith, n, z0); le_begin = begins_other 1 _ frame (omega arith) } in
      fit (numbered 2 0 0 1) is_2 (of_fits _ frame t (omega (arith, n, z0)))
  by_rows (short nz e) =
      let l = lc_one frame (omega (arith, n)) in
      let t : Stands (numbered 3 1 1 0) frame = record { is_row = refl; begin = begins_other 1 4 frame (omega arith); least = omega (arith, p0); within = omega (arith, n, p0); le_begin = begins_other 0 _ frame (omega arith) } in
      fit (numbered 3 1 1 0) is_3 (of_fits _ frame t (omega (arith, n, p0)))
  by_rows (short_le nz e) =
      let l = lc_one frame (omega (arith, n)) in
      fit (numbered 4 1 1 1) is_4 (of_fits _ frame (fits_4 (λ q. nz (p0 ∙ q)) (omega (arith, n, p0))) (omega (arith, n, p0)))
  by_rows (le3 z e) = fit (numbered 8 0 0 3) is_8 (of_fits _ frame (fits_8 (sym p0 ∙ z) (omega (arith, n))) (omega (arith, n, z0)))
  by_rows (wide z nz e) =
      let l = lc_three frame (omega (arith, n)) in
      fit (numbered 5 3 1 0) is_5 (of_fits _ frame (fits_5 (sym p0 ∙ z) (λ q. nz (pp ∙ q)) (omega (arith, n, pp))) (omega (arith, n, pp)))
  by_rows (wide_le2 d z e) =
      let l = lc_three frame (omega (arith, n)) in
      fit _ is_7 (of_fits _ frame (fits_7 d (sym p0 ∙ z) (omega (arith, n, pp))) (omega (arith, n, pp)))
  by_rows (missing e) = at_missing e
  by_rows (short_surplus nz h) =
      let some : byte frame 4 ≡ 0 → ⊥ = λ q. nz (p0 ∙ q) in
      let l = lc_one frame (omega (arith, n)) in
      rw p0
      (on (6 + byte frame 4)
      (none_early frame long (λ q. omega (arith, n, p0)) (omega (arith, n)) (λ q. absurd (some q)))
      (most_short some (omega (arith, n)))
      (numbered 4 1 1 1) is_4 (attained _ _ (fits_4 some (omega (arith, n, p0))) (omega arith)))
  by_rows (le1_surplus d z h) = rw pp (one_behind (sym p0 ∙ z) (omega (arith, n, pp)) (ℕ_discrete (pair_at frame 5) 0))
  by_rows (wide_surplus d z h) =
      let zero : byte frame 4 ≡ 0 = sym p0 ∙ z in
      let l = lc_three frame (omega (arith, n)) in
      rw pp
      (on (9 + pair_at frame 5)
      (none_early frame long (λ q. omega (arith, n)) (omega (arith, n)) (λ q. (omega (arith, n), omega (arith, n, pp))))
      (most_extended (9 + pair_at frame 5) zero (omega (arith, n)) (omega arith) (λ q. omega arith) (λ a b. omega arith))
      _ is_7 (attained _ _ (fits_7 d zero (omega (arith, n, pp))) (omega arith)))
  by_rows (zero_surplus d z h) =
      let zero : byte frame 4 ≡ 0 = sym p0 ∙ z in
      let under : pair_at (drop 4 frame) 1 < least_of entry Lc3DataLe2 = ltb-true (pair_at (drop 4 frame) 1) (least_of entry Lc3DataLe2) d in
      let most = least_one entry Lc3DataLe2 in
      on 7
      (none_early frame long (λ q. omega (arith, n)) (omega (arith, n)) (λ q. (omega (arith, n), omega (arith, n, pp))))
      (most_extended 7 zero (omega (arith, n)) (omega arith) (λ q. absurd (omega (arith, pp))) (λ a b. absurd (omega (arith, pp))))
      (numbered 8 0 0 3) is_8 (attained _ _ (fits_8 zero (omega (arith, n))) (omega (arith, z0)))
