-- Wrong programs, one fault each. proofs/Refuted.antt shows the claim that is false of each.
use Rattle.std.specs.Prelude.{ℕ, ◌+◌, ◌-◌, replicate, ◌&&◌, ◌++◌, Ok, Err}
use Rattle.outcome.specs.Notation.{when◌then◌else◌}
use Rattle.outcome.specs.Outcome.{Outcome, R, Word, SW, Gives, missing_at, surplus_at, word_of, refusal_no}
use Rattle.octets.specs.Bytes.{byte, pair_at, part_of, laid}
use Rattle.apdu_stated.specs.Words.{Bool, List, [], length, leb, ltb, eqb, Case, shape_no}
use Rattle.apdu_stated.specs.Answers.{Apdu, Place, Reading, Written, Says, says_of}
use Rattle.apdu_stated.specs.Table.{TableRow, columns, row_of, lc_least, lc_fits, le_read, can_carry, carried_by}
use Rattle.apdu_stated.specs.Reading.{Ordinary, Strict, lengths_of, read_of, strict_of, header_of}
use Rattle.apdu_stated.specs.Writing.{Parts, parts_of, frame_of, write_by, buffer_by, writing_of, strict_writing_of}
use Rattle.apdu_stated.specs.declared.Lengths.{Lengths}
use Rattle.apdu_stated.specs.declared.Lengths.TheVariants.{Found, Missing, Surplus}
use Rattle.apdu_stated.specs.Terms.{saying, apdu_of}

-- ---- reading

-- 01: "Demand 2 shuts out a reader that refuses everything, one that always says Instruction". Fails `ReadExactly`.
abbrev pub refuses_everything : List ℕ → Outcome Says
refuses_everything frame = SW 0x6700

-- fails `ReadExactly`
abbrev pub always_instruction : List ℕ → Outcome Says
always_instruction frame = Gives (saying (header_of frame) 1 4 0 0)

-- "A written Le of 0 means 256 in one byte": here it expects nothing back
abbrev le_zero : Outcome Says → Outcome Says
le_zero (Gives s) = Gives (saying s.header s.shape s.data_at s.lc (when eqb s.le 256 then 0 else s.le))
le_zero (Word s) = Word s
le_zero (R n) = R n

-- fails `ReadExactly`
abbrev pub le_zero_as_zero : List ℕ → Outcome Says
le_zero_as_zero frame = le_zero (read_of frame)

-- "`00 00 00` read as Lc 0", a mistake that a quick port makes. Fails `ReadExactly`, at 00 03 00 00 | 00 00 00.
abbrev pub le3_as_lc_zero : List ℕ → Outcome Says
le3_as_lc_zero frame = when eqb (length frame) 7 && eqb (byte frame 4) 0 && eqb (pair_at frame 5) 0 then Gives (saying (header_of frame) 5 7 0 0) else read_of frame

-- "A frame under 4 bytes gives 6a80". Fails `ShortExactly`, at 00 03 00.
abbrev pub short_gets6700 : List ℕ → Outcome Says
short_gets6700 frame = when ltb (length frame) 4 then SW 0x6700 else read_of frame

-- "Lc 1..255": here `00 01` is a short Lc of 0 and an Le of 1. Fails `NoShapeExactly`, at 00 03 00 00 | 00 01.
abbrev pub short_lc_zero : List ℕ → Outcome Says
short_lc_zero frame = when eqb (length frame) 6 && eqb (byte frame 4) 0 then Gives (saying (header_of frame) 4 5 0 (byte frame 5)) else read_of frame

-- ISO's case 3E left out of the table
abbrev without_3e : Outcome Says → Outcome Says
without_3e (Gives s) = when eqb s.shape 5 then SW 0x6700 else Gives s
without_3e (Word s) = Word s
without_3e (R n) = R n

abbrev pub without_case_3e : List ℕ → Outcome Says
without_case_3e frame = without_3e (read_of frame)

-- a row that ISO lacks: `00 01` is a shape numbered 9
abbrev pub ninth_shape : List ℕ → Outcome Says
ninth_shape frame = when eqb (length frame) 6 && eqb (byte frame 4) 0 then Gives (saying (header_of frame) 9 4 0 0) else read_of frame

-- too few bytes are taken for too many, and the other way round
abbrev short_as_long : Lengths → Lengths
short_as_long (Found s lc le) = Found s lc le
short_as_long Missing = Surplus 5
short_as_long (Surplus place) = Surplus place

abbrev pub missing_as_surplus : List ℕ → Lengths
missing_as_surplus p = short_as_long (lengths_of Ordinary p)

abbrev long_as_short : Lengths → Lengths
long_as_short (Found s lc le) = Found s lc le
long_as_short Missing = Missing
long_as_short (Surplus place) = Missing

abbrev pub surplus_as_missing : List ℕ → Lengths
surplus_as_missing p = long_as_short (lengths_of Ordinary p)

-- ---- where the length went wrong

-- a reading whose pair is another one
abbrev with_pair : (kind : ℕ) → (pair : ℕ → Outcome Says) → Outcome Says → Outcome Says
with_pair kind pair (R n) = R n
with_pair kind pair (Word w) = when eqb w.number 0x6700 && eqb w.kind kind then pair w.place else Word w
with_pair kind pair (Gives s) = Gives s

-- "for missing bytes the frame's length": here the last byte that is there
abbrev pub missing_one_short : List ℕ → Outcome Says
missing_one_short frame = with_pair 1 (λ place. missing_at (place - 1)) (read_of frame)

-- "the first byte that no field can claim": here the next; and here the frame's length
abbrev pub surplus_one_late : List ℕ → Outcome Says
surplus_one_late frame = with_pair 2 (λ place. surplus_at (place + 1)) (read_of frame)

abbrev pub surplus_at_the_end : List ℕ → Outcome Says
surplus_at_the_end frame = with_pair 2 (λ place. surplus_at (length frame)) (read_of frame)

-- "A short payload of `00 x` counts as missing": here x is surplus, behind an Le of 00
abbrev pub short00_as_surplus : List ℕ → Outcome Says
short00_as_surplus frame = when eqb (length frame) 6 && eqb (byte frame 4) 0x00 then surplus_at 5 else read_of frame

-- ---- the old form: "surplus at its Le byte", 7 + Lc
-- an extended Lc with one byte behind the data
abbrev is_old : List ℕ → Bool
is_old frame = eqb (byte frame 4) 0x00 && eqb (length frame) (8 + pair_at frame 5)

-- here it is still read, by the ordinary reading, and here by the strict one
abbrev old_said : List ℕ → Outcome Says
old_said frame = Gives (saying (header_of frame) 6 7 (pair_at frame 5) (le_read 1 (byte frame (7 + pair_at frame 5))))

-- fails `ReadExactly`, at 00 03 00 00 | 00 00 00 05
abbrev pub old_form_still_read : List ℕ → Outcome Says
old_form_still_read frame = when is_old frame then old_said frame else read_of frame

-- fails `StrictIsIso`, at 00 03 00 00 | 00 00 00 05
abbrev pub strict_still_reads_old_form : List ℕ → Outcome Says
strict_still_reads_old_form frame = when is_old frame then old_said frame else strict_of frame

-- here the place is one byte late, behind the Le byte; and here it is 9 + Lc, as for every other extended frame
abbrev pub old_form_one_late : List ℕ → Outcome Says
old_form_one_late frame = when is_old frame then surplus_at (8 + pair_at frame 5) else read_of frame

abbrev pub strict_old_form_at9 : List ℕ → Outcome Says
strict_old_form_at9 frame = when is_old frame then surplus_at (9 + pair_at frame 5) else strict_of frame

-- here the old form counts as a frame that misses its second byte of Le
abbrev pub old_form_missing : List ℕ → Outcome Says
old_form_missing frame = when is_old frame then missing_at (length frame) else read_of frame

-- the number alone
abbrev without_pair : Outcome Says → Outcome Says
without_pair (R n) = R n
without_pair (Word w) = SW w.number
without_pair (Gives s) = Gives s

abbrev pub pair_dropped : List ℕ → Outcome Says
pair_dropped frame = without_pair (read_of frame)

-- ---- the strict entry

abbrev pub strict_refuses_everything : List ℕ → Outcome Says
strict_refuses_everything frame = SW 0x6700

-- "Strict shape 7 needs Lc 1..65535": here it takes Lc 0, as it did before.
-- Fails `StrictIsIso`, at the certification house's frame, 00 03 00 00 | 00 00 00 00 05.
abbrev pub strict_takes_lc_zero : List ℕ → Outcome Says
strict_takes_lc_zero frame = when eqb (length frame) 9 && eqb (byte frame 4) 0x00 && eqb (pair_at frame 5) 0 then read_of frame else strict_of frame

-- "surplus, at byte 7": here at 9, as in the ordinary reading
abbrev pub strict_lc_zero_at9 : List ℕ → Outcome Says
strict_lc_zero_at9 frame = when ltb 9 (length frame) && eqb (byte frame 4) 0x00 && eqb (pair_at frame 5) 0 then surplus_at 9 else strict_of frame

-- "longer than 7 bytes": here an extended Le of 65536, in 7 bytes, is refused with the Lc of 0. Fails `StrictIsIso`, at 00 03 00 00 | 00 00 00.
abbrev pub strict_refuses_le3 : List ℕ → Outcome Says
strict_refuses_le3 frame = when eqb (length frame) 7 && eqb (byte frame 4) 0x00 && eqb (pair_at frame 5) 0 then missing_at 7 else strict_of frame

-- "The ordinary reading still takes it, as the Rust does": here it does not
abbrev pub read_refuses_lc_zero : List ℕ → Outcome Says
read_refuses_lc_zero frame = when eqb (length frame) 9 && eqb (byte frame 4) 0x00 && eqb (pair_at frame 5) 0 then surplus_at 7 else read_of frame

-- "otherwise it equals the first": here a short frame gets 6700 of the strict entry
abbrev pub strict_short_gets6700 : List ℕ → Outcome Says
strict_short_gets6700 frame = when ltb (length frame) 4 then SW 0x6700 else strict_of frame

-- ---- data, places, numbers

-- "Data is exactly Lc bytes": here it is one byte off, or always empty
abbrev pub data_one_byte_off : List ℕ → Says → List ℕ
data_one_byte_off frame says = part_of frame (says.data_at + 1) (says.data_at + says.lc + 1)

abbrev pub data_empty : List ℕ → Says → List ℕ
data_empty frame says = []

abbrev pub place_one_byte_late : Apdu → Place
place_one_byte_late a = record { start = 5 + (row_of a.shape).lc_field; end = 5 + (row_of a.shape).lc_field + a.lc }

abbrev pub place_with_le : Apdu → Place
place_with_le a = record { start = 4 + (row_of a.shape).lc_field; end = 4 + (row_of a.shape).lc_field + a.lc + 1 }

-- two shapes with one number
abbrev pub shape8_numbered7 : Case → ℕ
shape8_numbered7 s = when eqb (shape_no s) 8 then 7 else shape_no s

-- the numbers begin at 1
abbrev pub numbered_from0 : Case → ℕ
numbered_from0 s = shape_no s - 1

-- ours, after E13: the other shapes keep their numbers. Here 7 and 8 move up, where 6 was
abbrev pub numbers_moved_up : Case → ℕ
numbers_moved_up s = when ltb 6 (shape_no s) then shape_no s - 1 else shape_no s

-- row 7: "Lc 0..65535"; row 8: "00, Le (2)"
abbrev pub shape7_from_lc1 : Case → TableRow
shape7_from_lc1 s = when eqb (shape_no s) 7 then columns 3 1 2 else row_of s

abbrev pub shape8_of_two_bytes : Case → TableRow
shape8_of_two_bytes s = when eqb (shape_no s) 8 then columns 0 0 2 else row_of s

-- "Le 0 where absent, else 1..256 or 1..65536": here every shape carries any Le; "Lc 1..255": here shape 3 carries no data
abbrev pub carries_any_le : Case → ℕ → ℕ → Bool
carries_any_le s count le = lc_fits s count

abbrev pub carries_no_data : Case → ℕ → ℕ → Bool
carries_no_data s count le = when eqb (shape_no s) 3 && eqb count 0 then eqb le 0 else can_carry s count le

-- "00, Lc (2), data": here the data of an extended frame starts one byte early
abbrev pub extended_lc_of_two : Apdu → Says
extended_lc_of_two a = when leb 5 (shape_no a.shape) && ltb (shape_no a.shape) 8 then saying a.header (shape_no a.shape) 6 a.lc a.le else says_of a

-- ---- writing

-- "Le .. 1..256": here every shape is let write any Le
abbrev pub le257_in_one_byte : Parts → List ℕ → Outcome ℕ × List ℕ
le257_in_one_byte w old = when ltb (length old) (length (frame_of w)) then (R 2, old) else (Gives (length (frame_of w)), laid (frame_of w) old)

-- "R2 exactly when the buffer is shorter than the frame": here one byte early, and one byte late
abbrev pub r2_one_byte_early : Parts → List ℕ → Outcome ℕ × List ℕ
r2_one_byte_early w old = when eqb (length old) (length (frame_of w)) then (R 2, old) else writing_of w old

abbrev pub r2_one_byte_late : Parts → List ℕ → Outcome ℕ × List ℕ
r2_one_byte_late w old = when eqb (length old + 1) (length (frame_of w)) then (Gives (length (frame_of w)), laid (frame_of w) old) else writing_of w old

-- "(R5) .. else R2": here R2 first
abbrev pub r2_before_r5 : Parts → List ℕ → Outcome ℕ × List ℕ
r2_before_r5 w old = when ltb (length old) (length (frame_of w)) then (R 2, old) else writing_of w old

-- "leaves the rest": here it becomes 0. Behind the test, the frame is no longer than the buffer
abbrev pub clears_the_rest : Parts → List ℕ → Outcome ℕ × List ℕ
clears_the_rest w old =
    when ltb (length old) (length (frame_of w)) then writing_of w old
    else (write_by Ordinary w (length old), frame_of w ++ replicate (length old - length (frame_of w)) 0)

-- "An R refusal changes no buffer"
abbrev pub refusal_writes : Parts → List ℕ → Outcome ℕ × List ℕ
refusal_writes w old = (write_by Ordinary w (length old), laid (frame_of w) old)

-- writes the frame, and says a length of its own
abbrev pub length_invented : Parts → List ℕ → Outcome ℕ × List ℕ
length_invented w old = (when ltb (length old) (length (frame_of w)) then write_by Ordinary w (length old) else Gives (length old), buffer_by Ordinary w old)

-- "A written Le of 0 means 256 in one byte": here 256 is written 01
abbrev pub le256_as01 : Parts → List ℕ → Outcome ℕ × List ℕ
le256_as01 w old = when eqb w.le 256 then (write_by Ordinary w (length old), laid (frame_of (parts_of w.header w.shape w.content 1)) old) else writing_of w old

-- "Le .. 1..256": here 257 is taken in any shape, and reads back as 1
abbrev pub le257_taken : Parts → List ℕ → Outcome ℕ × List ℕ
le257_taken w old = when eqb w.le 257 then (Gives (length (frame_of w)), laid (frame_of w) old) else writing_of w old

-- ---- the strict writer

-- "refuses .. Lc 0 in shape 7": here it writes that, and here a table says that it can be carried
abbrev pub strict_writes_no_data : Parts → List ℕ → Outcome ℕ × List ℕ
strict_writes_no_data w old = when eqb (shape_no w.shape) 7 && eqb (length w.content) 0 then writing_of w old else strict_writing_of w old

abbrev pub strict_row_of_no_data : Case → ℕ → Bool
strict_row_of_no_data s count = leb (lc_least s) count

abbrev pub strict_carries_no_data : Case → ℕ → ℕ → Bool
strict_carries_no_data s count le = when eqb (shape_no s) 7 then can_carry s count le else carried_by Strict s count le

-- "with R5": here R2 where the buffer is short as well
abbrev pub strict_r2_before_r5 : Parts → List ℕ → Outcome ℕ × List ℕ
strict_r2_before_r5 w old = when ltb (length old) (length (frame_of w)) then (R 2, old) else strict_writing_of w old

-- "and is otherwise the writer": here it wants data in every shape
abbrev pub strict_wants_data : Parts → List ℕ → Outcome ℕ × List ℕ
strict_wants_data w old = when eqb (length w.content) 0 then (R 5, old) else strict_writing_of w old

-- ---- ISO's Ne: here 7 for every case 2S; and here Nc for every case 4S
abbrev saying_le : (Says → ℕ) → (shape : ℕ) → Outcome Says → Outcome Says
saying_le le shape (R n) = R n
saying_le le shape (Word w) = Word w
saying_le le shape (Gives s) = when eqb s.shape shape then Gives (saying s.header s.shape s.data_at s.lc (le s)) else Gives s

abbrev pub le7_for_case_2s : List ℕ → Outcome Says
le7_for_case_2s frame = saying_le (λ (s : Says). 7) 2 (strict_of frame)

abbrev pub nc_for_ne : List ℕ → Outcome Says
nc_for_ne frame = saying_le (λ (s : Says). s.lc) 4 (strict_of frame)

-- ---- views: one number for every status word; Lc in the place of Le; a header that is counted twice
abbrev pub always6a80 : Reading → Outcome Says
always6a80 (Ok a) = Gives (says_of a)
always6a80 (Err s) = SW 0x6a80

abbrev pub lc_for_le : Reading → Outcome Says
lc_for_le (Ok a) = Gives (says_of (apdu_of a.header a.shape a.lc a.lc))
lc_for_le (Err s) = Word (word_of s)

abbrev pub header_counted_twice : Written → Outcome ℕ
header_counted_twice (Err why) = R (refusal_no why)
header_counted_twice (Ok n) = Gives (4 + n)
