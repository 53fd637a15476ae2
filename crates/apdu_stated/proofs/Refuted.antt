-- The claim that is false of each wrong program, at an input where it bites.
use Prim.Native.Nat.{ℕ, ◌<◌}
use mathlib.Core.Path.{◌≡◌, refl, sym, ap, ◌∙◌}
use mathlib.Core.Bool.{false, true≢false}
use mathlib.Core.List.{List, [], ◌∷◌}
use native.Mathlib.Omega.{arith}
use lib.ListN.{length, get_or}
use Rattle.std.specs.Prelude.{Ok, Err}
use Rattle.outcome.specs.Outcome.{StatusWord, Outcome, R, Word, SW, Gives}
use Rattle.outcome.proofs.Laws.{gives_same, word_same, sw_same, word_gives, r_gives}
use Rattle.octets.specs.Bytes.{byte, part_of}
use Rattle.octets.proofs.Laws.{small, bytes_of}
use Rattle.apdu_stated.specs.Words.{ApduHeader, Case, Instruction, Le1, Lc1Data, Lc3DataLe2}
use Rattle.apdu_stated.specs.Answers.{Place, Says}
use Rattle.apdu_stated.specs.Table.{TableRow, lc_fits, le_fits, carried_by}
use Rattle.apdu_stated.specs.Reading.{Ordinary, Strict, read_by, read_of, say_of, lengths_of, short_of, extended_of, after_data, strict_of, data_of}
use Rattle.apdu_stated.specs.Writing.{Parts, parts_of, frame_of, payload_of, write_by, buffer_by, writing_of}
use Rattle.apdu_stated.specs.Iso.{IsoCase, Case1, Case2S, Case3S, Case4S, Case2E, Case3E, Case4E, is_case}
use Rattle.apdu_stated.specs.Terms.{full, plain, whole, pair, frame_with, saying, InTable, InStrictTable, OldForm, LongestFront, EndsEarly, in_lc, in_short_data, in_extended_data, row1, row2, row4, row8, IsFrameOf, Carries, shape2, shape3, CarriesStrictly, AreParts, apdu_of}
use Rattle.apdu_stated.specs.declared.Lengths.TheVariants.{Missing, Surplus}
use Rattle.outcome.specs.declared.ApduStatusCode.TheVariants as Status'
use Rattle.apdu_stated.specs.Claims
use Rattle.apdu_stated.specs.Wrong
use Rattle.apdu_stated.proofs.Theorems
use Rattle.apdu_stated.proofs.Readings.{reads_entry}

-- ---- frames to try: header 00 03 00 00, and a payload
abbrev h0 : ApduHeader
h0 = record { cla = 0x00; ins = 0x03; p1 = 0x00; p2 = 0x00 }

abbrev try : List ℕ → List ℕ
try payload = frame_with h0 payload

shape_is : (a b : Says) → Gives a ≡ Gives b → a.shape ≡ b.shape
shape_is a b e = ap (λ (s : Says). s.shape) (gives_same a b e)

le_is : (a b : Says) → Gives a ≡ Gives b → a.le ≡ b.le
le_is a b e = ap (λ (s : Says). s.le) (gives_same a b e)

-- ---- reading
pub refuses_everything : Claims.ReadExactly InTable Wrong.refuses_everything → ⊥
unfolding small
refuses_everything exact = word_gives _ _ ((exact (try []) (bytes_of (try []) refl) (saying h0 1 4 0 0)).1 ([], row1))

pub always_instruction : Claims.ReadExactly InTable Wrong.always_instruction → ⊥
unfolding small
always_instruction exact = omega (arith, shape_is _ _ ((exact (try (5 ∷ [])) (bytes_of (try (5 ∷ [])) refl) (saying h0 2 4 0 5)).1 ([], row2 (plain (omega arith) (omega arith)))))

pub le_zero_as_zero : Claims.ReadExactly InTable Wrong.le_zero_as_zero → ⊥
unfolding small read_by say_of lengths_of
le_zero_as_zero exact = omega (arith, le_is _ _ ((exact (try (0 ∷ [])) (bytes_of (try (0 ∷ [])) refl) (saying h0 2 4 0 256)).1 ([], row2 full)))

pub le3_as_lc_zero : Claims.ReadExactly InTable Wrong.le3_as_lc_zero → ⊥
unfolding small
le3_as_lc_zero exact = omega (arith, shape_is _ _ ((exact (try (0 ∷ 0 ∷ 0 ∷ [])) (bytes_of (try (0 ∷ 0 ∷ 0 ∷ [])) refl) (saying h0 8 4 0 65536)).1 ([], row8 whole)))

pub short_gets6700 : Claims.ShortExactly Wrong.short_gets6700 → ⊥
short_gets6700 exact = omega (arith, sw_same _ _ ((exact (0x00 ∷ 0x03 ∷ 0x00 ∷ [])).1 (omega arith)))

-- `00 01` is in no shape
no_row : (says : Says) (content : List ℕ) → InTable (try (0 ∷ 1 ∷ [])) says content → ⊥
unfolding read_by say_of lengths_of extended_of
no_row says content i = word_gives _ _ (reads_entry Ordinary (try (0 ∷ 1 ∷ [])) content says i)

pub short_lc_zero : Claims.NoShapeExactly InTable Wrong.short_lc_zero → ⊥
unfolding small
short_lc_zero exact = word_gives _ _ (sym ((exact (try (0 ∷ 1 ∷ [])) (bytes_of (try (0 ∷ 1 ∷ [])) refl)).1 (omega arith, no_row)).is)

pub without_case_3e : Claims.IsoExactly Wrong.without_case_3e → ⊥
unfolding read_by say_of lengths_of extended_of after_data
without_case_3e exact = let t = (exact (try (0 ∷ 0 ∷ 1 ∷ 0xAA ∷ [])) Case3E (omega arith)).0 refl in word_gives _ _ t.1

-- of no ISO case, and no tolerated form
of_none : (c : IsoCase) → is_case c (0 ∷ 1 ∷ []) ≡ false
of_none Case1 = refl
of_none Case2S = refl
of_none Case3S = refl
of_none Case4S = refl
of_none Case2E = refl
of_none Case3E = refl
of_none Case4E = refl

pub ninth_shape : Claims.ToleratedExactly Wrong.ninth_shape → ⊥
ninth_shape exact = true≢false (sym ((exact.of_no_case (try (0 ∷ 1 ∷ [])) (saying h0 9 4 0 0) refl).1 of_none))

-- ---- the payload, at 02 AA and at 01 AA 00 00
missing_surplus : (k : ℕ) → Missing ≡ Surplus k → ⊥
missing_surplus k e = let z : ◌≡◌ {A = ℕ} 0 1 = cc in omega arith

pub missing_as_surplus : Claims.PayloadExactly InTable Wrong.missing_as_surplus → ⊥
unfolding lengths_of short_of
missing_as_surplus exact = missing_surplus _ (sym ((exact.too_few (2 ∷ 0xAA ∷ [])).1 (in_short_data (omega arith) (λ e. omega arith) (omega arith))))

not_early : EndsEarly (1 ∷ 0xAA ∷ 0 ∷ 0 ∷ []) → ⊥
not_early (in_lc a b c) = omega arith
not_early (in_short_data a b c) = omega arith
not_early (in_extended_data a b c) = omega arith

pub surplus_as_missing : Claims.PayloadExactly InTable Wrong.surplus_as_missing → ⊥
unfolding lengths_of short_of
surplus_as_missing exact = not_early ((exact.too_few (1 ∷ 0xAA ∷ 0 ∷ 0 ∷ [])).0 refl)

-- ---- where the length went wrong: at 02 AA, and at 01 AA 00 00 00, three bytes longer than shape 4
place_is : (v w : StatusWord) → ◌≡◌ {A = Outcome Says} (Word v) (Word w) → v.place ≡ w.place
place_is v w e = ap (λ (x : StatusWord). x.place) (word_same v w e)

kind_is : (v w : StatusWord) → ◌≡◌ {A = Outcome Says} (Word v) (Word w) → v.kind ≡ w.kind
kind_is v w e = ap (λ (x : StatusWord). x.kind) (word_same v w e)

pub missing_one_short : Claims.MissingExactly Wrong.missing_one_short → ⊥
unfolding read_by say_of lengths_of short_of
missing_one_short exact =
    omega (arith, place_is _ _ ((exact (try (2 ∷ 0xAA ∷ [])) 6).1 (omega arith, in_short_data (omega arith) (λ e. omega arith) (omega arith), refl)))

pub short00_as_surplus : Claims.MissingExactly Wrong.short00_as_surplus → ⊥
short00_as_surplus exact = omega (arith, kind_is _ _ ((exact (try (0 ∷ 1 ∷ [])) 6).1 (omega arith, in_lc (omega arith) refl (omega arith), refl)))

-- what the definition says there
abbrev too_long : List ℕ
too_long = try (1 ∷ 0xAA ∷ 0 ∷ 0 ∷ 0 ∷ [])

front_7 : (EndsEarly (1 ∷ 0xAA ∷ 0 ∷ 0 ∷ 0 ∷ []) → ⊥) × (7 < 9) × LongestFront InTable too_long 7
unfolding small read_by say_of lengths_of short_of
front_7 = (Theorems.SurplusExactly too_long (bytes_of too_long refl) 7).0 refl

pub surplus_one_late : Claims.SurplusExactly InTable Wrong.surplus_one_late → ⊥
unfolding small read_by say_of lengths_of short_of
surplus_one_late exact = omega (arith, place_is _ _ ((exact too_long (bytes_of too_long refl) 7).1 front_7))

pub surplus_at_the_end : Claims.SurplusExactly InTable Wrong.surplus_at_the_end → ⊥
unfolding small read_by say_of lengths_of short_of
surplus_at_the_end exact = omega (arith, place_is _ _ ((exact too_long (bytes_of too_long refl) 7).1 front_7))

-- ---- the old form, at 00 00 00 05: document 01's shape 6, with an Lc of 0
abbrev old6 : List ℕ
old6 = try (0 ∷ 0 ∷ 0 ∷ 5 ∷ [])

is_old_lem : OldForm old6
is_old_lem = record { extended = refl; one_behind = refl }

of_no_row : (says : Says) (content : List ℕ) → InTable old6 says content → ⊥
unfolding read_by say_of lengths_of extended_of after_data
of_no_row says content i = word_gives _ _ (reads_entry Ordinary old6 content says i)

pub old_form_still_read : Claims.ReadExactly InTable Wrong.old_form_still_read → ⊥
unfolding small
old_form_still_read exact = let t = (exact old6 (bytes_of old6 refl) (saying h0 6 7 0 5)).0 refl in of_no_row _ t.0 t.1

pub old_form_still_read_in_examples : Claims.ExamplesRead Wrong.old_form_still_read → ⊥
old_form_still_read_in_examples exact = word_gives _ _ (sym (ap (λ (answers : List (Outcome Says)). get_or answers 8 (SW 0x9000)) exact))

pub old_form_still_read_places : Claims.PlacesExactly Wrong.old_form_still_read strict_of → ⊥
old_form_still_read_places exact = word_gives _ _ (sym (exact.old_form old6 is_old_lem).0)

pub old_form_still_read_beside : Claims.DifferExactly Wrong.old_form_still_read strict_of → ⊥
old_form_still_read_beside exact = word_gives _ _ (sym (exact.at_eight old6 (record { longer = omega arith; extended = refl; zero_lc = refl }) refl).0)

pub old_form_one_late : Claims.PlacesExactly Wrong.old_form_one_late strict_of → ⊥
old_form_one_late exact = omega (arith, place_is _ _ (exact.old_form old6 is_old_lem).0)

pub strict_old_form_at9 : Claims.PlacesExactly read_of Wrong.strict_old_form_at9 → ⊥
strict_old_form_at9 exact = omega (arith, place_is _ _ (exact.old_form old6 is_old_lem).1)

old_not_early : EndsEarly (0 ∷ 0 ∷ 0 ∷ 5 ∷ []) → ⊥
old_not_early (in_lc a b c) = omega arith
old_not_early (in_short_data a b c) = b refl
old_not_early (in_extended_data a b c) = omega arith

pub old_form_missing : Claims.MissingExactly Wrong.old_form_missing → ⊥
old_form_missing exact = old_not_early ((exact old6 8).0 refl).1

pub pair_dropped : Claims.ReadPairsExactly Wrong.pair_dropped strict_of → ⊥
unfolding read_by say_of lengths_of extended_of
pair_dropped exact = omega (arith, (exact.0.paired (try (0 ∷ 1 ∷ [])) _ refl refl).0)

-- ---- the strict entry, at the old form
pub strict_still_reads_old_form : Claims.StrictExactly Wrong.strict_still_reads_old_form → ⊥
unfolding small
strict_still_reads_old_form exact = let t = (exact.reads old6 (bytes_of old6 refl) (saying h0 6 7 0 5)).0 refl in of_no_row _ t.0 t.1.table

pub strict_refuses_everything : Claims.StrictExactly Wrong.strict_refuses_everything → ⊥
unfolding small
strict_refuses_everything exact = word_gives _ _ ((exact.reads (try []) (bytes_of (try []) refl) (saying h0 1 4 0 0)).1 ([], record { table = row1; row = record { some_data = λ a b. absurd (omega arith) } }))

-- the certification house's frame, 00 00 00 00 05: an extended Lc of 0 and an Le
abbrev house : List ℕ
house = try (0 ∷ 0 ∷ 0 ∷ 0 ∷ 5 ∷ [])

of_no_case : (c : IsoCase) → is_case c (0 ∷ 0 ∷ 0 ∷ 0 ∷ 5 ∷ []) ≡ false
of_no_case Case1 = refl
of_no_case Case2S = refl
of_no_case Case3S = refl
of_no_case Case4S = refl
of_no_case Case2E = refl
of_no_case Case3E = refl
of_no_case Case4E = refl

pub strict_takes_lc_zero : Claims.StrictIsIso Wrong.strict_takes_lc_zero → ⊥
unfolding read_by say_of lengths_of extended_of after_data
strict_takes_lc_zero exact = let c = (exact.no_other house (saying h0 7 7 0 5) refl).1 in true≢false (sym c.1 ∙ of_no_case c.0)

pub strict_takes_lc_zero_exactly : Claims.StrictExactly Wrong.strict_takes_lc_zero → ⊥
unfolding small read_by say_of lengths_of extended_of after_data
strict_takes_lc_zero_exactly exact = let some = ((exact.reads house (bytes_of house refl) (saying h0 7 7 0 5)).0 refl).1.row.some_data (omega arith) (omega arith) in omega arith

pub strict_takes_lc_zero_beside : Claims.DifferExactly read_of Wrong.strict_takes_lc_zero → ⊥
unfolding read_by say_of lengths_of extended_of after_data
strict_takes_lc_zero_beside exact = word_gives _ _ (sym (exact.at_nine h0 0 5 5 (pair (record { high = omega arith; low = omega arith; is = refl }) (omega arith))).1)

-- the old form, by ISO's table and by the number alone
old_of_no_case : (c : IsoCase) → is_case c (0 ∷ 0 ∷ 0 ∷ 5 ∷ []) ≡ false
old_of_no_case Case1 = refl
old_of_no_case Case2S = refl
old_of_no_case Case3S = refl
old_of_no_case Case4S = refl
old_of_no_case Case2E = refl
old_of_no_case Case3E = refl
old_of_no_case Case4E = refl

pub strict_still_reads_old_form_iso : Claims.StrictIsIso Wrong.strict_still_reads_old_form → ⊥
strict_still_reads_old_form_iso exact = let c = (exact.no_other old6 (saying h0 6 7 0 5) refl).1 in true≢false (sym c.1 ∙ old_of_no_case c.0)

pub old_form_still_read_tolerated : Claims.ToleratedExactly Wrong.old_form_still_read → ⊥
old_form_still_read_tolerated exact = true≢false (sym ((exact.of_no_case old6 (saying h0 6 7 0 5) refl).1 old_of_no_case))

pub strict_still_reads_old_form_no_shape : Claims.StrictNoShapeExactly Wrong.strict_still_reads_old_form → ⊥
unfolding small
strict_still_reads_old_form_no_shape exact = word_gives _ _ (sym ((exact old6 (bytes_of old6 refl)).1 (omega arith, λ says content i. of_no_row says content i.table)).is)

pub strict_lc_zero_at9 : Claims.PlacesExactly read_of Wrong.strict_lc_zero_at9 → ⊥
strict_lc_zero_at9 exact =
    omega (arith, place_is _ _ (exact.strict_lc_zero (try (0 ∷ 0 ∷ 0 ∷ 0 ∷ 0 ∷ 0 ∷ [])) (record { extended = refl; zero_lc = refl; longer = omega arith })))

strict_nine : {says : Says} → Gives says ≡ strict_of (try (0 ∷ 0 ∷ 0 ∷ 0 ∷ 0 ∷ [])) → ⊥
unfolding read_by say_of lengths_of extended_of
strict_nine e = word_gives _ _ (sym e)

-- the same by the law of every table: cut at 9 the frame is in no row of the strict one
pub strict_lc_zero_at9_exactly : Claims.StrictExactly Wrong.strict_lc_zero_at9 → ⊥
unfolding small
strict_lc_zero_at9_exactly exact =
    let t = (exact.surplus (try (0 ∷ 0 ∷ 0 ∷ 0 ∷ 0 ∷ 0 ∷ [])) (bytes_of (try (0 ∷ 0 ∷ 0 ∷ 0 ∷ 0 ∷ 0 ∷ [])) refl) 9).0 refl in
    in_no_row t.2.in_table.0 t.2.in_table.1 t.2.in_table.2
  where
    in_no_row : (says : Says) (content : List ℕ) → InStrictTable (try (0 ∷ 0 ∷ 0 ∷ 0 ∷ 0 ∷ [])) says content → ⊥
    in_no_row says content i = strict_nine (sym (reads_entry Strict (try (0 ∷ 0 ∷ 0 ∷ 0 ∷ 0 ∷ [])) content says i))

pub strict_refuses_le3 : Claims.StrictIsIso Wrong.strict_refuses_le3 → ⊥
strict_refuses_le3 exact = word_gives _ _ ((exact.each_case (try (0 ∷ 0 ∷ 0 ∷ [])) Case2E (omega arith)).0 refl).1

pub read_refuses_lc_zero : Claims.DifferExactly Wrong.read_refuses_lc_zero strict_of → ⊥
read_refuses_lc_zero exact = word_gives _ _ (exact.at_nine h0 0 5 5 (pair (record { high = omega arith; low = omega arith; is = refl }) (omega arith))).0

pub read_refuses_lc_zero_tolerated : Claims.ToleratedExactly Wrong.read_refuses_lc_zero → ⊥
read_refuses_lc_zero_tolerated exact = word_gives _ _ (exact.is_read house (record { longer = omega arith; extended = refl; zero_lc = refl }) refl).1

pub strict_short_gets6700 : Claims.StrictOtherwise read_of Wrong.strict_short_gets6700 → ⊥
unfolding read_by
strict_short_gets6700 exact = omega (arith, sw_same _ _ (exact.other (0x00 ∷ 0x03 ∷ 0x00 ∷ []) (λ l. let long = l.longer in omega arith)))

-- ---- data, at 01 AA 00
abbrev said4 : Says
said4 = saying h0 4 5 1 256

pub data_one_byte_off : Claims.DataExactly Wrong.data_one_byte_off → ⊥
unfolding part_of
data_one_byte_off exact = omega (arith, ap (λ (l : List ℕ). byte l 0) (exact.of_table (try (1 ∷ 0xAA ∷ 0 ∷ [])) (0xAA ∷ []) said4 (row4 (omega arith) (omega arith) full)))

pub data_empty : Claims.DataExactly Wrong.data_empty → ⊥
data_empty exact = omega (arith, ap length (exact.of_table (try (1 ∷ 0xAA ∷ 0 ∷ [])) (0xAA ∷ []) said4 (row4 (omega arith) (omega arith) full)))

start_is : (a b : Place) → a ≡ b → a.start ≡ b.start
start_is a b e = ap (λ (p : Place). p.start) e

end_is : (a b : Place) → a ≡ b → a.end ≡ b.end
end_is a b e = ap (λ (p : Place). p.end) e

pub place_one_byte_late : Claims.PlaceExactly Wrong.place_one_byte_late → ⊥
place_one_byte_late exact = omega (arith, start_is _ _ (exact.lc1_data h0 1 0))

pub place_with_le : Claims.PlaceExactly Wrong.place_with_le → ⊥
place_with_le exact = omega (arith, end_is _ _ (exact.lc1_data_le1 h0 1 256))

-- ---- numbers
pub shape8_numbered7 : Claims.ShapeNumberExactly Wrong.shape8_numbered7 → ⊥
shape8_numbered7 exact = omega (arith, exact.le3)

pub numbered_from0 : Claims.ShapeNumberExactly Wrong.numbered_from0 → ⊥
numbered_from0 exact = omega (arith, exact.instruction)

pub numbers_moved_up : Claims.ShapeNumberExactly Wrong.numbers_moved_up → ⊥
numbers_moved_up exact = omega (arith, exact.lc3_data_le2)

pub shape7_from_lc1 : Claims.RowExactly Wrong.shape7_from_lc1 → ⊥
shape7_from_lc1 exact = omega (arith, ap (λ (r : TableRow). r.lc_least) exact.lc3_data_le2)

pub shape8_of_two_bytes : Claims.RowExactly Wrong.shape8_of_two_bytes → ⊥
shape8_of_two_bytes exact = omega (arith, ap (λ (r : TableRow). r.le_field) exact.le3)

no_257 : Carries Le1 0 257 → ⊥
no_257 (shape2 a b) = omega arith

no_0_in_3 : Carries Lc1Data 0 0 → ⊥
no_0_in_3 (shape3 a b) = omega arith

pub carries_any_le : Claims.FitsExactly Carries Wrong.carries_any_le → ⊥
unfolding lc_fits
carries_any_le exact = no_257 ((exact Le1 0 257).0 refl)

pub carries_no_data : Claims.FitsExactly Carries Wrong.carries_no_data → ⊥
carries_no_data exact = no_0_in_3 ((exact Lc1Data 0 0).0 refl)

pub extended_lc_of_two : Claims.SaysExactly Wrong.extended_lc_of_two → ⊥
extended_lc_of_two exact = omega (arith, ap (λ (s : Says). s.data_at) (exact.lc3_data h0 1 0))

-- ---- writing: shape 2, with Le 257 and with Le 1
abbrev le_of : ℕ → Parts
le_of le = parts_of h0 Le1 [] le

frame_1 : IsFrameOf InTable (le_of 1) (try (1 ∷ []))
frame_1 = record { says = saying h0 2 4 0 1; table = row2 (plain {b = 1} (omega arith) (omega arith)); header = refl; shape = refl; le = refl }

abbrev five : List ℕ
five = 9 ∷ 9 ∷ 9 ∷ 9 ∷ 9 ∷ []

pub le257_in_one_byte : Claims.WriteExactly Carries InTable Wrong.le257_in_one_byte → ⊥
unfolding frame_of payload_of
le257_in_one_byte exact = r_gives _ _ (sym ((exact.r5 (le_of 257) five).1 no_257))

pub r2_one_byte_early : Claims.WriteExactly Carries InTable Wrong.r2_one_byte_early → ⊥
unfolding frame_of payload_of
r2_one_byte_early exact = r_gives _ _ (ap (λ (o : Outcome ℕ × List ℕ). o.0) (exact.writes (le_of 1) five (try (1 ∷ [])) frame_1 (omega arith)))

pub r2_one_byte_late : Claims.WriteExactly Carries InTable Wrong.r2_one_byte_late → ⊥
unfolding frame_of payload_of
r2_one_byte_late exact = r_gives _ _ (sym ((exact.r2 (le_of 1) (9 ∷ 9 ∷ 9 ∷ 9 ∷ [])).1 (try (1 ∷ []), frame_1, omega arith)))

r_is : (m n : ℕ) → ◌≡◌ {A = Outcome ℕ} (R m) (R n) → m ≡ n
r_is m n e = cc

pub r2_before_r5 : Claims.WriteExactly Carries InTable Wrong.r2_before_r5 → ⊥
unfolding frame_of payload_of
r2_before_r5 exact = omega (arith, r_is _ _ ((exact.r5 (le_of 257) []).1 no_257))

pub clears_the_rest : Claims.WriteExactly Carries InTable Wrong.clears_the_rest → ⊥
unfolding frame_of payload_of
clears_the_rest exact = omega (arith, ap (λ (o : Outcome ℕ × List ℕ). byte o.1 5) (exact.writes (le_of 1) (9 ∷ five) (try (1 ∷ [])) frame_1 (omega arith)))

pub refusal_writes : Claims.WriteExactly Carries InTable Wrong.refusal_writes → ⊥
unfolding write_by carried_by frame_of payload_of lc_fits le_fits
refusal_writes exact = omega (arith, ap (λ (l : List ℕ). byte l 0) (exact.refused (le_of 257) five 5 refl))

pub length_invented : Claims.WriteExactly Carries InTable Wrong.length_invented → ⊥
unfolding frame_of payload_of
length_invented exact = omega (arith, gives_same _ _ (ap (λ (o : Outcome ℕ × List ℕ). o.0) (exact.writes (le_of 1) (9 ∷ five) (try (1 ∷ [])) frame_1 (omega arith))))

-- ---- there and back
pub le256_as01 : Claims.ReadThenWritten read_of data_of Wrong.le256_as01 → ⊥
unfolding small read_by say_of lengths_of data_of part_of frame_of payload_of
le256_as01 back =
    omega (arith, ap (λ (o : Outcome ℕ × List ℕ). byte o.1 4) (back (try (0 ∷ [])) five (apdu_of h0 Le1 0 256) (bytes_of (try (0 ∷ [])) refl) refl (omega arith)))

pub le257_taken : Claims.WrittenThenRead read_of data_of Wrong.le257_taken → ⊥
unfolding read_by say_of lengths_of frame_of payload_of
le257_taken back = omega (arith, le_is _ _ (back (le_of 257) five 5 refl).0)

-- ---- the strict writer: shape 7 without data, in a buffer of nine bytes, and of none
abbrev nine : List ℕ
nine = 7 ∷ 7 ∷ 7 ∷ 7 ∷ five

abbrev empty_7 : Parts
empty_7 = parts_of h0 Lc3DataLe2 [] 5

no_empty_7 : (le : ℕ) → CarriesStrictly Lc3DataLe2 0 le → ⊥
no_empty_7 le c = let some = c.row.some_data (omega arith) (omega arith) in omega arith

pub strict_writes_no_data : Claims.StrictWriteExactly Wrong.strict_writes_no_data → ⊥
unfolding write_by carried_by frame_of payload_of lc_fits le_fits
strict_writes_no_data exact = r_gives _ _ (sym ((exact.r5 empty_7 nine).1 (no_empty_7 5)))

pub strict_writes_no_data_back : Claims.StrictThereAndBack strict_of data_of Wrong.strict_writes_no_data → ⊥
unfolding read_by say_of lengths_of extended_of write_by buffer_by carried_by frame_of payload_of lc_fits le_fits
strict_writes_no_data_back exact = word_gives _ _ (exact.written_then_read empty_7 nine 9 refl).0

-- no frame is read strictly as these parts, so none is to be written
parts_of_bytes : (s : Case) → AreParts (parts_of h0 s [] 5)
parts_of_bytes s = record { cla = omega arith; ins = omega arith; p1 = omega arith; p2 = omega arith; content = λ i. omega arith }

pub strict_writes_no_data_accepted : Claims.AcceptsWhatIsRead strict_of data_of Wrong.strict_writes_no_data → ⊥
unfolding write_by carried_by frame_of payload_of lc_fits le_fits
strict_writes_no_data_accepted exact =
    let t = (exact empty_7 nine 9 (parts_of_bytes Lc3DataLe2)).0 refl in
    let some = (((Theorems.StrictExactly).reads t.0 t.1 _).0 t.4).1.row.some_data (omega arith) (omega arith) in
    omega arith

pub strict_row_of_no_data : Claims.StrictRowExactly Wrong.strict_row_of_no_data → ⊥
strict_row_of_no_data exact = let some = ((exact Lc3DataLe2 0).0 refl).some_data (omega arith) (omega arith) in omega arith

pub strict_carries_no_data : Claims.StrictFitsExactly Wrong.strict_carries_no_data → ⊥
unfolding lc_fits le_fits
strict_carries_no_data exact = no_empty_7 5 ((exact Lc3DataLe2 0 5).0 refl)

pub strict_r2_before_r5 : Claims.StrictWriteExactly Wrong.strict_r2_before_r5 → ⊥
unfolding frame_of payload_of
strict_r2_before_r5 exact = omega (arith, r_is _ _ ((exact.r5 empty_7 []).1 (no_empty_7 5)))

pub strict_wants_data : Claims.StrictWriteOtherwise writing_of Wrong.strict_wants_data → ⊥
unfolding write_by carried_by frame_of payload_of lc_fits le_fits
strict_wants_data exact = r_gives _ _ (ap (λ (o : Outcome ℕ × List ℕ). o.0) (exact.other (parts_of h0 Instruction [] 0) nine (λ e. omega arith)))

-- ---- ISO's Nc and Ne
pub le7_for_case_2s : Claims.IsoCounts Wrong.le7_for_case_2s → ⊥
unfolding read_by say_of lengths_of
le7_for_case_2s exact = omega (arith, le_is _ _ (exact (try (5 ∷ [])) Case2S (omega arith, refl)))

pub le7_for_case2_sstrict : Claims.StrictIsIso Wrong.le7_for_case_2s → ⊥
le7_for_case2_sstrict exact = le7_for_case_2s exact.counts

pub nc_for_ne : Claims.IsoCounts Wrong.nc_for_ne → ⊥
unfolding read_by say_of lengths_of short_of
nc_for_ne exact = omega (arith, le_is _ _ (exact (try (1 ∷ 0xAA ∷ 5 ∷ [])) Case4S (omega arith, refl)))

pub strict_writes_no_data_iso : Claims.WritesIso Wrong.strict_writes_no_data → ⊥
unfolding write_by buffer_by frame_of payload_of carried_by lc_fits le_fits
strict_writes_no_data_iso exact =
    let r = exact.of_case (parts_of h0 Lc3DataLe2 [] 5) (0 ∷ 0 ∷ 0 ∷ 0 ∷ 0 ∷ 0 ∷ 0 ∷ 0 ∷ 0 ∷ []) 9 refl in
    true≢false (sym r.1.1 ∙ of_no_case r.0)

pub strict_wants_data_iso : Claims.WritesIso Wrong.strict_wants_data → ⊥
unfolding small part_of
strict_wants_data_iso exact = r_gives 5 _ (ap (λ (o : Outcome ℕ × List ℕ). o.0) (exact.each_case (try []) (try []) Case1 (bytes_of (try []) refl) (omega arith, refl) (omega arith)))

-- ---- views
pub always6a80 : Claims.ReadingSaidExactly Wrong.always6a80 → ⊥
always6a80 exact = omega (arith, ap (λ (w : StatusWord). w.number) (word_same _ _ ((exact.status (Err Status'.ClaInvalid) Status'.ClaInvalid).1 refl)))

pub lc_for_le : Claims.ReadingSaidExactly Wrong.lc_for_le → ⊥
lc_for_le exact = omega (arith, le_is _ _ ((exact.frame (Ok (apdu_of h0 Le1 0 5)) (apdu_of h0 Le1 0 5)).1 refl))

pub header_counted_twice : Claims.WrittenSaidExactly Wrong.header_counted_twice → ⊥
header_counted_twice exact = omega (arith, gives_same _ _ ((exact.frame (Ok 4) 4).1 refl))
