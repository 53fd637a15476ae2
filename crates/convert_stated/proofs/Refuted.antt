-- The claim that is false of each wrong program, at an input where it bites.
use Prim.Native.Nat.{ℕ}
use mathlib.Core.Path.{◌≡◌, refl, sym, ap, ◌∙◌}
use mathlib.Core.Bool.{true≢false}
use mathlib.Core.List.{List, [], ◌∷◌}
use native.Mathlib.Omega.{arith}
use lib.ListN.{length, replicate}
use Rattle.outcome.specs.Outcome.{StatusWord, Outcome, R, Word, Gives}
use Rattle.outcome.specs.declared.ApduStatusCode.TheVariants as Status'
use Rattle.outcome.specs.declared.LengthFault.TheVariants as Fault'
use Rattle.outcome.proofs.Laws.{gives_same, word_same, word_gives, r_gives, r_word}
use Rattle.octets.specs.Bytes.{byte, part_of}
use Rattle.octets.proofs.Laws.{small, bytes_of}
use Rattle.apdu_stated.specs.declared.ApduHeader.{ApduHeader}
use Rattle.apdu_stated.specs.Answers.{Says}
use Rattle.apdu_stated.specs.Table.{lc_fits, le_fits, carried_by}
use Rattle.apdu_stated.specs.Reading.{read_by, read_of, say_of, lengths_of, short_of, extended_of, after_data, data_of}
use Rattle.apdu_stated.specs.Writing.{payload_of, frame_of, write_by, buffer_by}
use Rattle.apdu_stated.specs.Terms.{full, plain, pair, frame_with, saying, row1, row7, row8, OldForm}
use Rattle.apdu_stated.specs.declared.Entry.TheVariants.{Ordinary}
use Rattle.apdu_stated.proofs.Laws.{reads_entry}
use Rattle.apdu_table_stated.specs.Trying.{begins, lc_in, le_in, opens, stands, tried_of}
use Rattle.apdu_table_stated.specs.Answers.{read_by_rows}
use Rattle.convert_stated.specs.Converting.{convert_of}
use Rattle.convert_stated.specs.Terms.{Old, row6, Holds, by_table, by_old, Becomes, as_shape_7, as_shape_8, unchanged, EmptySeven}
use Rattle.convert_stated.specs.Words.{Err, Status, Converted}
use Rattle.convert_stated.specs.Answers.{converted_of}
use Rattle.convert_stated.specs.Claims
use Rattle.convert_stated.specs.Wrong
use Rattle.convert_stated.proofs.OldForms.{old_form, old_says, not_both}

-- ---- frames to try: header 00 03 00 00, and a payload
abbrev h0 : ApduHeader
h0 = record { cla = 0x00; ins = 0x03; p1 = 0x00; p2 = 0x00 }

abbrev try : List ℕ → List ℕ
try payload = frame_with h0 payload

-- the old form without data, its Le 5; and with one byte, its Le 256, which is written 00
abbrev bare : List ℕ
bare = try (0 ∷ 0 ∷ 0 ∷ 5 ∷ [])

abbrev one : List ℕ
one = try (0 ∷ 0 ∷ 1 ∷ 0xAA ∷ 0 ∷ [])

old_bare : Old bare h0 [] 5
old_bare = row6 {h = h0} {d = []} {hi = 0} {lo = 0} (record { high = omega arith; low = omega arith; is = refl }) (plain {b = 5} (omega arith) (omega arith))

old_one : Old one h0 (0xAA ∷ []) 256
old_one = row6 {h = h0} {d = 0xAA ∷ []} {hi = 0} {lo = 1} (record { high = omega arith; low = omega arith; is = refl }) full

form_bare : OldForm bare
form_bare = record { extended = refl; one_behind = refl }

form_one : OldForm one
form_one = record { extended = refl; one_behind = refl }

-- what they become: 00 00 05, and 00 00 01 AA 01 00
becomes_bare : Becomes bare (try (0 ∷ 0 ∷ 5 ∷ []))
becomes_bare =
    as_shape_8 old_bare
    (record { says = saying h0 8 4 0 5; table = row8 (pair {hi = 0} {lo = 5} (record { high = omega arith; low = omega arith; is = refl }) (omega arith)); header = refl; shape = refl; le = refl })

becomes_one : Becomes one (try (0 ∷ 0 ∷ 1 ∷ 0xAA ∷ 1 ∷ 0 ∷ []))
becomes_one =
    as_shape_7 old_one (omega arith)
    (record {
      says = saying h0 7 7 1 256;
      table = row7 {h = h0} {d = 0xAA ∷ []} {hi = 0} {lo = 1} {a = 1} {b = 0} (record { high = omega arith; low = omega arith; is = refl }) (pair {hi = 1} {lo = 0} (record { high = omega arith; low = omega arith; is = refl }) (omega arith));
      header = refl;
      shape = refl;
      le = refl;
    })

-- the certification house's frame, shape 7 without data
abbrev house : List ℕ
house = try (0 ∷ 0 ∷ 0 ∷ 0 ∷ 5 ∷ [])

becomes_house : Becomes house house
becomes_house =
    unchanged
    (row7 {h = h0} {d = []} {hi = 0} {lo = 0} {a = 0} {b = 5} (record { high = omega arith; low = omega arith; is = refl })
    (pair {hi = 0} {lo = 5} (record { high = omega arith; low = omega arith; is = refl }) (omega arith)))

-- ten bytes and an Lc of 1: surplus one byte before the end, and not the old form
abbrev longer : List ℕ
longer = try (0 ∷ 0 ∷ 1 ∷ 0xAA ∷ 0 ∷ 0 ∷ 0 ∷ [])

not_longer : OldForm longer → ⊥
not_longer o = let e = o.one_behind in omega arith

abbrev twelve : List ℕ
twelve = replicate 12 9

-- ---- which frames are of the old form
pub wants_data : Claims.OldExactly Wrong.wants_data → ⊥
unfolding read_by_rows tried_of stands opens begins lc_in le_in
wants_data exact = true≢false (sym ((exact.by_length bare).1 form_bare))

pub by_surplus : Claims.OldExactly Wrong.by_surplus → ⊥
unfolding read_by say_of lengths_of extended_of after_data
by_surplus exact = not_longer ((exact.by_length longer).0 refl)

-- ---- what they become
byte_at : (i : ℕ) (a b : Outcome ℕ × List ℕ) → a ≡ b → byte a.1 i ≡ byte b.1 i
byte_at i a b e = ap (λ (o : Outcome ℕ × List ℕ). byte o.1 i) e

answer_is : (a b : Outcome ℕ × List ℕ) → a ≡ b → a.0 ≡ b.0
answer_is a b e = ap (λ (o : Outcome ℕ × List ℕ). o.0) e

pub le_zero_as_zero : Claims.ConvertExactly Wrong.le_zero_as_zero → ⊥
unfolding small read_by_rows tried_of stands opens begins lc_in le_in read_by say_of lengths_of extended_of after_data data_of part_of write_by buffer_by carried_by lc_fits le_fits frame_of payload_of
le_zero_as_zero exact = omega (arith, byte_at 8 _ _ (exact.converts one twelve _ (bytes_of one refl) becomes_one (omega arith)))

pub lc_zero_as_shape7 : Claims.ConvertExactly Wrong.lc_zero_as_shape7 → ⊥
unfolding small read_by_rows tried_of stands opens begins lc_in le_in read_by say_of lengths_of extended_of after_data data_of part_of write_by buffer_by carried_by lc_fits le_fits frame_of payload_of
lc_zero_as_shape7 exact = omega (arith, gives_same _ _ (answer_is _ _ (exact.converts bare twelve _ (bytes_of bare refl) becomes_bare (omega arith))))

pub shape7_rewritten : Claims.ConvertExactly Wrong.shape7_rewritten → ⊥
unfolding small read_by_rows tried_of stands opens begins lc_in le_in read_by say_of lengths_of short_of extended_of after_data data_of part_of write_by buffer_by carried_by lc_fits le_fits frame_of payload_of convert_of
shape7_rewritten exact = omega (arith, gives_same _ _ (answer_is _ _ (exact.converts house twelve _ (bytes_of house refl) becomes_house (omega arith))))

pub old_form_kept : Claims.ConvertExactly Wrong.old_form_kept → ⊥
unfolding small read_by_rows tried_of stands opens begins lc_in le_in read_by say_of lengths_of short_of extended_of after_data data_of part_of write_by buffer_by carried_by lc_fits le_fits frame_of payload_of convert_of
old_form_kept exact = omega (arith, gives_same _ _ (answer_is _ _ (exact.converts one twelve _ (bytes_of one refl) becomes_one (omega arith))))

pub old_form_refused : Claims.ConvertExactly Wrong.old_form_refused → ⊥
unfolding small read_by_rows tried_of stands opens begins lc_in le_in read_by say_of lengths_of short_of extended_of after_data data_of part_of write_by buffer_by carried_by lc_fits le_fits frame_of payload_of convert_of
old_form_refused exact = word_gives _ _ (answer_is _ _ (exact.converts one twelve _ (bytes_of one refl) becomes_one (omega arith)))

-- the status of ten bytes and Lc
longer_unread : (w : StatusWord) → Word w ≡ read_of longer → (read_of longer ≡ Word w) × ((h : ApduHeader) (d : List ℕ) (le : ℕ) → Old longer h d le → ⊥)
longer_unread w e = (sym e, λ h d le o. not_longer (old_form o))

pub converts_by_surplus : Claims.ConvertExactly Wrong.converts_by_surplus → ⊥
unfolding small read_by_rows tried_of stands opens begins lc_in le_in read_by say_of lengths_of short_of extended_of after_data data_of part_of write_by buffer_by carried_by lc_fits le_fits frame_of payload_of convert_of
converts_by_surplus exact = word_gives _ _ (sym ((exact.status longer twelve (record { number = 0x6700; kind = 2; place = 10 }) (bytes_of longer refl)).1 (longer_unread _ refl)))

-- ---- refusals and the buffer: 00 01 misses bytes
abbrev short6 : List ℕ
short6 = try (0 ∷ 1 ∷ [])

not_short6 : OldForm short6 → ⊥
not_short6 o = let e = o.one_behind in omega arith

missing_6 : StatusWord
missing_6 = record { number = 0x6700; kind = 1; place = 6 }

pub no_shape_copied : Claims.ConvertExactly Wrong.no_shape_copied → ⊥
unfolding small read_by_rows tried_of stands opens begins lc_in le_in read_by say_of lengths_of short_of extended_of after_data data_of part_of write_by buffer_by carried_by lc_fits le_fits frame_of payload_of convert_of missing_6
no_shape_copied exact = word_gives _ _ (sym ((exact.status short6 twelve missing_6 (bytes_of short6 refl)).1 (refl, λ h d le o. not_short6 (old_form o))))

pub pair_dropped : Claims.ConvertExactly Wrong.pair_dropped → ⊥
unfolding small read_by_rows tried_of stands opens begins lc_in le_in read_by say_of lengths_of short_of extended_of after_data data_of part_of write_by buffer_by carried_by lc_fits le_fits frame_of payload_of convert_of missing_6
pair_dropped exact =
    omega (arith, ap (λ (w : StatusWord). w.kind) (word_same _ _ ((exact.status short6 twelve missing_6 (bytes_of short6 refl)).1 (refl, λ h d le o. not_short6 (old_form o)))))

pub room_first : Claims.ConvertExactly Wrong.room_first → ⊥
unfolding small read_by_rows tried_of stands opens begins lc_in le_in read_by say_of lengths_of short_of extended_of after_data data_of part_of write_by buffer_by carried_by lc_fits le_fits frame_of payload_of convert_of missing_6
room_first exact = r_word _ _ ((exact.status short6 [] missing_6 (bytes_of short6 refl)).1 (refl, λ h d le o. not_short6 (old_form o)))

pub status_writes : Claims.ConvertExactly Wrong.status_writes → ⊥
unfolding small read_by_rows tried_of stands opens begins lc_in le_in read_by say_of lengths_of short_of extended_of after_data data_of part_of write_by buffer_by carried_by lc_fits le_fits frame_of payload_of convert_of missing_6
status_writes exact = omega (arith, ap (λ (l : List ℕ). byte l 0) (exact.left short6 twelve missing_6 refl))

-- the old form without data, of eight bytes, in a buffer of seven, which its result just fills
pub room_of_the_frame : Claims.ConvertExactly Wrong.room_of_the_frame → ⊥
unfolding small read_by_rows tried_of stands opens begins lc_in le_in read_by say_of lengths_of short_of extended_of after_data data_of part_of write_by buffer_by carried_by lc_fits le_fits frame_of payload_of convert_of
room_of_the_frame exact = r_gives _ _ (answer_is _ _ (exact.converts bare (replicate 7 9) _ (bytes_of bare refl) becomes_bare (omega arith)))

-- the header alone, in a buffer of four bytes, of three, and of five
abbrev four : List ℕ
four = try []

becomes_four : Becomes four four
becomes_four = unchanged (row1 {h = h0})

pub r2_one_byte_early : Claims.ConvertExactly Wrong.r2_one_byte_early → ⊥
unfolding small read_by_rows tried_of stands opens begins lc_in le_in read_by say_of lengths_of short_of extended_of after_data data_of part_of write_by buffer_by carried_by lc_fits le_fits frame_of payload_of convert_of
r2_one_byte_early exact = r_gives _ _ (answer_is _ _ (exact.converts four (replicate 4 9) _ (bytes_of four refl) becomes_four (omega arith)))

pub r2_one_byte_late : Claims.ConvertExactly Wrong.r2_one_byte_late → ⊥
unfolding small read_by_rows tried_of stands opens begins lc_in le_in read_by say_of lengths_of short_of extended_of after_data data_of part_of write_by buffer_by carried_by lc_fits le_fits frame_of payload_of convert_of
r2_one_byte_late exact = r_gives _ _ (sym ((exact.r2 four (replicate 3 9) (bytes_of four refl)).1 (four, becomes_four, omega arith)))

pub clears_the_rest : Claims.ConvertExactly Wrong.clears_the_rest → ⊥
unfolding small read_by_rows tried_of stands opens begins lc_in le_in read_by say_of lengths_of short_of extended_of after_data data_of part_of write_by buffer_by carried_by lc_fits le_fits frame_of payload_of convert_of
clears_the_rest exact = omega (arith, byte_at 4 _ _ (exact.converts four (replicate 5 9) _ (bytes_of four refl) becomes_four (omega arith)))

pub refusal_writes : Claims.ConvertExactly Wrong.refusal_writes → ⊥
unfolding small read_by_rows tried_of stands opens begins lc_in le_in read_by say_of lengths_of short_of extended_of after_data data_of part_of write_by buffer_by carried_by lc_fits le_fits frame_of payload_of convert_of
refusal_writes exact = omega (arith, ap (λ (l : List ℕ). byte l 0) (exact.refused four (replicate 3 9) 2 refl))

-- ---- the result is read, changes exactly, converts to itself
-- what the frame holds is one thing: the Le of `one` is 256
le_held : {h : ApduHeader} {d : List ℕ} {le : ℕ} → Holds one h d le → le ≡ 256
unfolding small read_by_rows tried_of stands opens begins lc_in le_in read_by say_of lengths_of short_of extended_of after_data data_of part_of write_by buffer_by carried_by lc_fits le_fits frame_of payload_of convert_of
le_held (by_old o) = ap (λ (s : Says). s.le) (gives_same _ _ (sym (old_says (bytes_of one refl) o) ∙ old_says (bytes_of one refl) old_one))
le_held (by_table i) = absurd (not_both one _ _ i form_one)

pub le_zero_as_zero_read : Claims.ConvertedIsRead Wrong.le_zero_as_zero → ⊥
unfolding small read_by_rows tried_of stands opens begins lc_in le_in read_by say_of lengths_of short_of extended_of after_data data_of part_of write_by buffer_by carried_by lc_fits le_fits frame_of payload_of convert_of
le_zero_as_zero_read exact =
    let t = exact.is_read one twelve 10 (bytes_of one refl) refl in
    omega (arith, ap (λ (s : Says). s.le) (gives_same _ _ t.4.1), t.4.4, le_held t.3)

pub old_form_kept_unread : Claims.ConvertedIsRead Wrong.old_form_kept → ⊥
unfolding small read_by_rows tried_of stands opens begins lc_in le_in read_by say_of lengths_of short_of extended_of after_data data_of part_of write_by buffer_by carried_by lc_fits le_fits frame_of payload_of convert_of
old_form_kept_unread exact = let t = exact.is_read one twelve 9 (bytes_of one refl) refl in word_gives _ _ t.4.1

pub no_shape_copied_read : Claims.ConvertedIsRead Wrong.no_shape_copied → ⊥
unfolding small read_by_rows tried_of stands opens begins lc_in le_in read_by say_of lengths_of short_of extended_of after_data data_of part_of write_by buffer_by carried_by lc_fits le_fits frame_of payload_of convert_of
no_shape_copied_read exact = let t = exact.is_read short6 twelve 6 (bytes_of short6 refl) refl in word_gives _ _ t.4.1

-- ten bytes and Lc hold nothing, though what they are converted to is read
nothing_held : {h : ApduHeader} {d : List ℕ} {le : ℕ} → Holds longer h d le → ⊥
unfolding small read_by_rows tried_of stands opens begins lc_in le_in read_by say_of lengths_of short_of extended_of after_data data_of part_of write_by buffer_by carried_by lc_fits le_fits frame_of payload_of convert_of
nothing_held (by_old o) = not_longer (old_form o)
nothing_held (by_table i) = word_gives _ _ (reads_entry Ordinary longer _ _ i)

pub converts_by_surplus_read : Claims.ConvertedIsRead Wrong.converts_by_surplus → ⊥
unfolding small read_by_rows tried_of stands opens begins lc_in le_in read_by say_of lengths_of short_of extended_of after_data data_of part_of write_by buffer_by carried_by lc_fits le_fits frame_of payload_of convert_of
converts_by_surplus_read exact = nothing_held (exact.is_read longer twelve 10 (bytes_of longer refl) refl).3

-- strictly: the old form without data is no shape 7
not_seven : EmptySeven bare → ⊥
unfolding small read_by_rows tried_of stands opens begins lc_in le_in read_by say_of lengths_of short_of extended_of after_data data_of part_of write_by buffer_by carried_by lc_fits le_fits frame_of payload_of convert_of
not_seven e = word_gives _ _ e.is_read

pub lc_zero_as_shape7_strictly : Claims.ConvertedIsRead Wrong.lc_zero_as_shape7 → ⊥
unfolding small read_by_rows tried_of stands opens begins lc_in le_in read_by say_of lengths_of short_of extended_of after_data data_of part_of write_by buffer_by carried_by lc_fits le_fits frame_of payload_of convert_of
lc_zero_as_shape7_strictly exact = let t = (exact.strictly bare twelve 9 (bytes_of bare refl) refl).1 not_seven in word_gives _ _ t.1

-- and the house's frame is one
is_seven : EmptySeven house
unfolding small read_by_rows tried_of stands opens begins lc_in le_in read_by say_of lengths_of short_of extended_of after_data data_of part_of write_by buffer_by carried_by lc_fits le_fits frame_of payload_of convert_of
is_seven = record { says = saying h0 7 7 0 5; is_read = refl; seven = refl; empty = refl }

pub shape7_rewritten_strictly : Claims.ConvertedIsRead Wrong.shape7_rewritten → ⊥
unfolding small read_by_rows tried_of stands opens begins lc_in le_in read_by say_of lengths_of short_of extended_of after_data data_of part_of write_by buffer_by carried_by lc_fits le_fits frame_of payload_of convert_of
shape7_rewritten_strictly exact = (exact.strictly house twelve 7 (bytes_of house refl) refl).0 (saying h0 8 4 0 5, refl, refl) is_seven

not_house : OldForm house → ⊥
not_house o = let e = o.one_behind in omega arith

pub shape7_rewritten_changes : Claims.ChangesExactly Wrong.shape7_rewritten → ⊥
unfolding small read_by_rows tried_of stands opens begins lc_in le_in read_by say_of lengths_of short_of extended_of after_data data_of part_of write_by buffer_by carried_by lc_fits le_fits frame_of payload_of convert_of
shape7_rewritten_changes claim = not_house ((claim.exactly house twelve 7 (bytes_of house refl) refl).0 (λ e. omega (arith, ap (length {A = ℕ}) e)))

pub old_form_kept_unchanged : Claims.ChangesExactly Wrong.old_form_kept → ⊥
unfolding small read_by_rows tried_of stands opens begins lc_in le_in read_by say_of lengths_of short_of extended_of after_data data_of part_of write_by buffer_by carried_by lc_fits le_fits frame_of payload_of convert_of
old_form_kept_unchanged claim = (claim.exactly bare twelve 8 (bytes_of bare refl) refl).1 form_bare refl

pub old_form_refused_unchanged : Claims.ChangesExactly Wrong.old_form_refused → ⊥
unfolding small read_by_rows tried_of stands opens begins lc_in le_in read_by say_of lengths_of short_of extended_of after_data data_of part_of write_by buffer_by carried_by lc_fits le_fits frame_of payload_of convert_of
old_form_refused_unchanged claim = let t = claim.converted bare twelve (bytes_of bare refl) form_bare (omega arith) in word_gives _ _ t.1

pub two_steps : Claims.ConvertsToItself Wrong.two_steps → ⊥
unfolding small read_by_rows tried_of stands opens begins lc_in le_in read_by say_of lengths_of short_of extended_of after_data data_of part_of write_by buffer_by carried_by lc_fits le_fits frame_of payload_of convert_of
two_steps claim = omega (arith, gives_same _ _ (answer_is _ _ (claim bare twelve twelve 9 (bytes_of bare refl) refl (omega arith))))

-- the header alone into five bytes, then into four
pub r2_one_byte_early_again : Claims.ConvertsToItself Wrong.r2_one_byte_early → ⊥
unfolding small read_by_rows tried_of stands opens begins lc_in le_in read_by say_of lengths_of short_of extended_of after_data data_of part_of write_by buffer_by carried_by lc_fits le_fits frame_of payload_of convert_of
r2_one_byte_early_again claim = r_gives _ _ (answer_is _ _ (claim four (replicate 5 9) (replicate 4 9) 4 (bytes_of four refl) refl (omega arith)))

-- ---- what the code holds
surplus_is : ℕ → Converted
surplus_is place = Err (Status (Status'.WrongLength Fault'.Surplus place))

pub pair_unsaid : Claims.SaidExactly Wrong.pair_unsaid → ⊥
pair_unsaid exact = omega (arith, ap (λ (w : StatusWord). w.place) (word_same _ _ (exact.status (Status'.WrongLength Fault'.Surplus 7))))

pub pair_unsaid_alike : Claims.AnswersOneToOne Wrong.pair_unsaid → ⊥
unfolding surplus_is
pair_unsaid_alike claim =
    let z : ◌≡◌ {A = ℕ} 7 9 = ap placed (claim (surplus_is 7) (surplus_is 9) refl) in
    omega arith
  where
    placed : Converted → ℕ
    placed c = place_of (converted_of c)
      where
        place_of : Outcome ℕ → ℕ
        place_of (R n) = 0
        place_of (Word w) = w.place
        place_of (Gives n) = 0
