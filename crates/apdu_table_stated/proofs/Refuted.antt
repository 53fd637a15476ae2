-- The claim that is false of each wrong table and each wrong reader, at an input where it bites.
use Prim.Native.Nat.{ℕ}
use mathlib.Core.Path.{◌≡◌, refl, sym, ap}
use mathlib.Core.List.{List, [], ◌∷◌, map}
use lib.ListN.{get_or, length}
use native.Mathlib.Omega.{arith}
use Rattle.outcome.specs.Outcome.{Outcome, R, Word, Gives}
use Rattle.outcome.specs.declared.ApduStatusCode.TheVariants as Status'
use Rattle.outcome.specs.declared.LengthFault.TheVariants as Fault'
use Rattle.outcome.proofs.Laws.{gives_same, word_gives}
use Rattle.octets.proofs.Laws.{small, bytes_of}
use Rattle.apdu_stated.proofs.Laws.{place_is, read_exactly}
use Rattle.apdu_stated.specs.Reading.{read_by, say_of, lengths_of, short_of, extended_of, after_data}
use Rattle.apdu_stated.specs.Terms.{plain, whole, pair, frame_with, saying}
use Rattle.apdu_table_stated.specs.Words.{ApduHeader, Says, Ordinary, Strict, Row, Tried, Ok, Err}
use Rattle.apdu_table_stated.specs.Rows.{numbered, table_of, columns_of}
use Rattle.apdu_table_stated.specs.Trying.{begins, lc_in, le_in, opens, stands, tried_of}
use Rattle.apdu_table_stated.specs.Answers.{TableReading, table_reading_of, read_by_rows}
use Rattle.apdu_table_stated.specs.Terms.{OfRow, no_lc, three_lc, no_le, one_le, three_le, First, this, here, behind}
use Rattle.apdu_table_stated.specs.Claims
use Rattle.apdu_table_stated.specs.Wrong
use Rattle.apdu_table_stated.proofs.Theorems
use Rattle.apdu_table_stated.proofs.FramesOfRows.{said_of}

-- ---- frames to try: header 00 03 00 00, and a payload
abbrev h0 : ApduHeader
h0 = record { cla = 0x00; ins = 0x03; p1 = 0x00; p2 = 0x00 }

abbrev try : List ℕ → List ℕ
try payload = frame_with h0 payload

abbrev extended_le : List ℕ
extended_le = try (0 ∷ 0 ∷ 0 ∷ [])

abbrev old6 : List ℕ
old6 = try (0 ∷ 0 ∷ 1 ∷ 0xAA ∷ 5 ∷ [])

shape_is : (a b : Says) → Gives a ≡ Gives b → a.shape ≡ b.shape
shape_is a b e = ap (λ (s : Says). s.shape) (gives_same a b e)

lc_is : (a b : Says) → Gives a ≡ Gives b → a.lc ≡ b.lc
lc_is a b e = ap (λ (s : Says). s.lc) (gives_same a b e)

row_number_is : (a b : Row) → ◌≡◌ {A = Tried} (Ok a) (Ok b) → a.number ≡ b.number
row_number_is a b e = let same : a ≡ b = cc in ap (λ (r : Row). r.number) same

-- ---- tables
-- 00 00 00 is read as shape 5 without data
pub row5_from_lc0 : Claims.SameReading Wrong.row5_from_lc0 read_by_rows → ⊥
unfolding read_by_rows tried_of stands opens begins lc_in le_in read_by say_of lengths_of extended_of
row5_from_lc0 claim = omega (arith, shape_is _ _ (claim Ordinary extended_le))

-- which document 01's list has as shape 8
pub row5_from_lc0_in_examples : Claims.ExamplesRead Wrong.row5_from_lc0 read_by_rows → ⊥
unfolding read_by_rows tried_of stands opens begins lc_in le_in
row5_from_lc0_in_examples claim = omega (arith, shape_is _ _ (ap (λ (answers : List (Outcome Says)). get_or answers 7 (Gives (saying h0 0 0 0 0))) claim))

-- and two rows fit it
is_five : OfRow (numbered 5 3 0 0) extended_le (saying h0 5 7 0 0) []
is_five = record { header = h0; lc_bytes = 0 ∷ 0 ∷ 0 ∷ []; le_bytes = []; le = 0; lc_field = three_lc {hi = 0} {lo = 0} (record { high = omega arith; low = omega arith; is = refl }); least = omega arith; le_field = no_le; frame_is = refl; says_is = refl }

is_eight : OfRow (numbered 8 0 0 3) extended_le (saying h0 8 4 0 65536) []
is_eight = record { header = h0; lc_bytes = []; le_bytes = 0 ∷ 0 ∷ 0 ∷ []; le = 65536; lc_field = no_lc; least = omega arith; le_field = three_le whole; frame_is = refl; says_is = refl }

pub row5_beside_row8 : Claims.OneRowFits Wrong.row5_from_lc0 → ⊥
row5_beside_row8 claim =
    let e = claim Ordinary extended_le (numbered 5 3 0 0) (numbered 8 0 0 3)
    (behind (behind (behind (behind here))), (saying h0 5 7 0 0, [], is_five))
    (behind (behind (behind (behind (behind (behind here))))), (saying h0 8 4 0 65536, [], is_eight)) in
    let z : ◌≡◌ {A = ℕ} 5 8 = ap (λ (r : Row). r.number) e in
    omega arith

-- 00 00 01 AA 05, the old form, is read, and strictly
pub row6_kept : Claims.SameReading Wrong.row6_kept read_by_rows → ⊥
unfolding read_by_rows tried_of stands opens begins lc_in le_in read_by say_of lengths_of extended_of after_data
row6_kept claim = word_gives _ _ (sym (claim Ordinary old6))

pub row6_in_strict : Claims.SameReading Wrong.row6_in_strict read_by_rows → ⊥
unfolding read_by_rows tried_of stands opens begins lc_in le_in read_by say_of lengths_of extended_of after_data
row6_in_strict claim = word_gives _ _ (sym (claim Strict old6))

pub row6_kept_as_row : Claims.TablesExactly Wrong.row6_kept → ⊥
row6_kept_as_row claim = let z : ◌≡◌ {A = ℕ} 8 7 = ap (length {A = Row}) (claim Ordinary) in omega arith

-- and would be in the table
is_six : OfRow (numbered 6 3 0 1) old6 (saying h0 6 7 1 5) (0xAA ∷ [])
is_six =
    record {
      header = h0;
      lc_bytes = 0 ∷ 0 ∷ 1 ∷ [];
      le_bytes = 5 ∷ [];
      le = 5;
      lc_field = three_lc {hi = 0} {lo = 1} (record { high = omega arith; low = omega arith; is = refl });
      least = omega arith;
      le_field = one_le (plain {b = 5} (omega arith) (omega arith));
      frame_is = refl;
      says_is = refl;
    }

not_read : {says : Says} → Gives says ≡ read_by Ordinary old6 → ⊥
unfolding read_by say_of lengths_of extended_of after_data
not_read e = word_gives _ _ (sym e)

pub row6_in_the_table : Claims.RowsAsTheTable Wrong.row6_kept → ⊥
unfolding small
row6_in_the_table claim =
    let six = saying h0 6 7 1 5 in
    let x = (claim.ordinary old6 (bytes_of old6 refl) six).0 (0xAA ∷ [], (numbered 6 3 0 1, behind (behind (behind (behind (behind here)))), is_six)) in
    not_read (sym ((read_exactly old6 (bytes_of old6 refl) six).1 x))

-- 00 00 01 AA is read as shape 7
pub le_swapped : Claims.SameReading Wrong.le_swapped read_by_rows → ⊥
unfolding read_by_rows tried_of stands opens begins lc_in le_in read_by say_of lengths_of extended_of after_data
le_swapped claim = omega (arith, shape_is _ _ (claim Ordinary (try (0 ∷ 0 ∷ 1 ∷ 0xAA ∷ []))))

-- 00 00 00 is said to be shape 7
pub numbered_by_place : Claims.SameReading Wrong.numbered_by_place read_by_rows → ⊥
unfolding read_by_rows tried_of stands opens begins lc_in le_in read_by say_of lengths_of extended_of
numbered_by_place claim = omega (arith, shape_is _ _ (claim Strict extended_le))

pub rows_numbered_by_place : Claims.TablesExactly Wrong.numbered_by_place → ⊥
rows_numbered_by_place claim =
    let z : ◌≡◌ {A = ℕ} 6 7 = ap (λ (rows : List Row). get_or (map (λ (r : Row). r.number) rows) 5 0) (claim Strict) in
    omega arith

-- ---- readers
-- every frame is shape 1
pub first_too_short : Claims.SameReading table_of Wrong.first_too_short → ⊥
unfolding stands opens begins lc_in le_in read_by say_of lengths_of
first_too_short claim = omega (arith, shape_is _ _ (claim Ordinary (try (5 ∷ []))))

-- every surplus is at 4
pub place_of_first : Claims.SameReading table_of Wrong.place_of_first → ⊥
unfolding tried_of stands opens begins lc_in le_in read_by say_of lengths_of short_of
place_of_first claim = omega (arith, place_is _ _ (claim Ordinary (try (1 ∷ 0xAA ∷ 0 ∷ 0 ∷ []))))

-- a frame is found in an empty table
no_first : {frame : List ℕ} {r : Row} → First [] frame r → ⊥
no_first f = elim f [ ]

pub knows_its_rows : Claims.TriesExactly Wrong.knows_its_rows → ⊥
unfolding small tried_of stands opens begins lc_in
knows_its_rows claim = no_first ((claim.by_row [] (try []) (bytes_of (try []) refl) (numbered 1 0 0 0)).0 refl)

-- though by the two tables it answers rightly
asks_rightly : Claims.SameReading table_of Wrong.asks_which_table
asks_rightly Ordinary frame = refl
asks_rightly Strict frame = refl

pub asks_which_table : Claims.AnswersExactly Wrong.asks_which_table → ⊥
unfolding small read_by say_of lengths_of
asks_which_table claim = no_first ((claim.reads [] (try []) (bytes_of (try []) refl) (saying h0 1 4 0 0)).0 refl).2

-- two rows of one form: the first is the frame's
bare : OfRow (numbered 1 0 0 0) (try []) (saying h0 1 4 0 0) []
bare = record { header = h0; lc_bytes = []; le_bytes = []; le = 0; lc_field = no_lc; least = omega arith; le_field = no_le; frame_is = refl; says_is = refl }

pub last_that_fits : Claims.TriesExactly Wrong.last_that_fits → ⊥
unfolding small tried_of stands opens begins lc_in
last_that_fits claim =
    omega (arith, row_number_is _ _ ((claim.by_row (numbered 1 0 0 0 ∷ numbered 9 0 0 0 ∷ []) (try []) (bytes_of (try []) refl) (numbered 1 0 0 0)).1 (this (saying h0 1 4 0 0, [], bare))))

-- 00 FF FF is an extended Le, and no Lc of 65535
is_extended_le : OfRow (numbered 8 0 0 3) (try (0 ∷ 0xFF ∷ 0xFF ∷ [])) (saying h0 8 4 0 65535) []
is_extended_le =
    record {
      header = h0;
      lc_bytes = [];
      le_bytes = 0 ∷ 0xFF ∷ 0xFF ∷ [];
      le = 65535;
      lc_field = no_lc;
      least = omega arith;
      le_field = three_le (pair {hi = 0xFF} {lo = 0xFF} (record { high = omega arith; low = omega arith; is = refl }) (omega arith));
      frame_is = refl;
      says_is = refl;
    }

pub early_first : Claims.TriesExactly Wrong.early_first → ⊥
unfolding small tried_of stands opens begins lc_in
early_first claim =
    let e = (claim.early (table_of Ordinary) (try (0 ∷ 0xFF ∷ 0xFF ∷ [])) (bytes_of (try (0 ∷ 0xFF ∷ 0xFF ∷ [])) refl)).0 refl in
    e.1 (numbered 8 0 0 3) (behind (behind (behind (behind (behind (behind here)))))) (saying h0 8 4 0 65535, [], is_extended_le)

-- 02 AA misses bytes at 6, its length
pub missing_at_the_payload : Claims.AnswersExactly Wrong.missing_at_the_payload → ⊥
unfolding small tried_of stands opens begins lc_in
missing_at_the_payload claim =
    let x = (claim.missing (table_of Ordinary) (try (2 ∷ 0xAA ∷ [])) (bytes_of (try (2 ∷ 0xAA ∷ [])) refl) 4).0 refl in
    omega (arith, x.3)

-- 02 AA BB says Lc 2
pub least_for_lc : Claims.SameReading table_of Wrong.least_for_lc → ⊥
unfolding tried_of stands opens begins lc_in le_in read_by say_of lengths_of short_of
least_for_lc claim = omega (arith, lc_is _ _ (claim Ordinary (try (2 ∷ 0xAA ∷ 0xBB ∷ []))))

pub least_said_for_lc : Claims.AnswersExactly Wrong.least_for_lc → ⊥
unfolding small tried_of stands opens begins lc_in le_in
least_said_for_lc claim =
    let x = (claim.reads (table_of Ordinary) (try (2 ∷ 0xAA ∷ 0xBB ∷ [])) (bytes_of (try (2 ∷ 0xAA ∷ 0xBB ∷ [])) refl) (saying h0 3 5 1 0)).0 refl in
    let row : First (table_of Ordinary) (try (2 ∷ 0xAA ∷ 0xBB ∷ [])) x.0 = x.2 in
    let is : ◌≡◌ {A = Tried} (Ok x.0) (Ok (numbered 3 1 1 0)) = sym (((Theorems.TriesExactly).by_row (table_of Ordinary) (try (2 ∷ 0xAA ∷ 0xBB ∷ [])) (bytes_of (try (2 ∷ 0xAA ∷ 0xBB ∷ [])) refl) x.0).1 row) in
    let same : x.0 ≡ numbered 3 1 1 0 = cc in
    let said = said_of x.0 (try (2 ∷ 0xAA ∷ 0xBB ∷ [])) x.1 (saying h0 3 5 1 0) x.3 in
    let lc : lc_in x.0.lc_field (try (2 ∷ 0xAA ∷ 0xBB ∷ [])) ≡ 1 = ap (λ (s : Says). s.lc) said in
    let two : lc_in x.0.lc_field (try (2 ∷ 0xAA ∷ 0xBB ∷ [])) ≡ 2 = ap (λ (r : Row). lc_in r.lc_field (try (2 ∷ 0xAA ∷ 0xBB ∷ []))) same in
    omega arith

-- ---- what the code holds
-- row 7 of document 01's table: its least Lc is 0, not 2
pub least_last : Claims.ColumnsExactly Wrong.least_last columns_of → ⊥
least_last claim = let z : ◌≡◌ {A = ℕ} 2 0 = ap (λ (r : Row). r.lc_least) (claim.forth 7 3 0 2) in omega arith

pub start_one_on : Claims.SaidExactly Wrong.start_one_on → ⊥
start_one_on claim = let z : ◌≡◌ {A = ℕ} 5 4 = ap (λ (s : Says). s.data_at) (gives_same _ _ (claim.frame h0 1 4 0 0)) in omega arith

surplus_is : ℕ → TableReading
surplus_is place = Err (Status'.WrongLength Fault'.Surplus place)

pub pair_unsaid_at_all : Claims.SaidExactly Wrong.pair_unsaid → ⊥
pair_unsaid_at_all claim = let z : ◌≡◌ {A = ℕ} 0 7 = place_is _ _ (claim.status (Status'.WrongLength Fault'.Surplus 7)) in omega arith

pub pair_unsaid : Claims.AnswersOneToOne Wrong.pair_unsaid → ⊥
unfolding surplus_is
pair_unsaid claim =
    let z : ◌≡◌ {A = ℕ} 7 9 = ap placed (claim (surplus_is 7) (surplus_is 9) refl) in
    omega arith
  where
    placed : TableReading → ℕ
    placed t = place_of (table_reading_of t)
      where
        place_of : Outcome Says → ℕ
        place_of (R n) = 0
        place_of (Word w) = w.place
        place_of (Gives s) = 0
