-- Wrong programs, one fault each; `two_steps` joins two. proofs/Refuted.antt shows the claim that is false of each.
use Rattle.std.specs.Prelude.{take, replicate, ◌+◌, ◌&&◌, ◌∷◌}
use Rattle.convert_stated.specs.Words.{ℕ, Ok, Err, Refused, Status, Bool, false, List, [], length, ltb, eqb, when◌then◌else◌, Outcome, R, Word, Gives, word_of, refusal_no, byte, pair_at, laid, Says, read_of, data_of, Lc3DataLe2, Le3, Parts, parts_of, writing_of, Converted}
use Rattle.outcome.specs.Outcome.{SW}
use Rattle.apdu_stated.specs.Table.{le_read}
use Rattle.apdu_stated.specs.Reading.{header_of}
use Rattle.apdu_stated.specs.Terms.{saying}
use Rattle.convert_stated.specs.Converting.{old_of, new_parts, copied, kept_by, is_old, convert_of}

-- ---- which frames are of the old form

-- "an extended Lc with a one-byte Le", and "when Lc is 0" too: here a frame whose Lc is 0 is not of it
abbrev pub wants_data : List ℕ → Bool
wants_data frame = is_old frame && ltb 0 (pair_at frame 5)

-- ours: the old form is told by its own condition. Here by surplus one byte before the end
abbrev last_is_surplus : List ℕ → Outcome Says → Bool
last_is_surplus frame (R n) = false
last_is_surplus frame (Word w) = eqb w.kind 2 && eqb (w.place + 1) (length frame)
last_is_surplus frame (Gives said) = false

abbrev pub by_surplus : List ℕ → Bool
by_surplus frame = last_is_surplus frame (read_of frame)

-- ---- what it becomes: a converter with other parts for the old form
abbrev convert_with : (List ℕ → Says → Parts) → List ℕ → Outcome Says → List ℕ → Outcome ℕ × List ℕ
convert_with parts frame (R n) before = kept_by frame (read_of frame) before
convert_with parts frame (Word s) before = kept_by frame (read_of frame) before
convert_with parts frame (Gives said) before = writing_of (parts frame said) before

-- "the same .. Le", `00` in one byte is 256: here it goes over as 00 00, which says 65536
abbrev pub le_zero_as_zero : List ℕ → List ℕ → Outcome ℕ × List ℕ
le_zero_as_zero frame before =
    convert_with
    (λ f said. let w = new_parts f said in parts_of w.header w.shape w.content (when eqb w.le 256 then 65536 else w.le))
    frame (old_of frame) before

-- "or as shape 8 when Lc is 0": here as shape 7
abbrev as_seven : List ℕ → Says → Parts
as_seven f said = parts_of said.header Lc3DataLe2 (data_of f said) said.le

abbrev pub lc_zero_as_shape7 : List ℕ → List ℕ → Outcome ℕ × List ℕ
lc_zero_as_shape7 frame before = convert_with as_seven frame (old_of frame) before

-- "A frame of another shape comes back unchanged": here a shape 7 without data becomes shape 8, as the old form does
abbrev emptied : List ℕ → Outcome Says → List ℕ → Outcome ℕ × List ℕ
emptied frame (R n) before = convert_of frame before
emptied frame (Word s) before = convert_of frame before
emptied frame (Gives said) before =
    when eqb said.shape 7 && eqb said.lc 0 then writing_of (parts_of said.header Le3 [] said.le) before
    else convert_of frame before

abbrev pub shape7_rewritten : List ℕ → List ℕ → Outcome ℕ × List ℕ
shape7_rewritten frame before = emptied frame (read_of frame) before

-- both together: an Lc of 0 becomes shape 7, and that shape 8 when it comes again
abbrev pub two_steps : List ℕ → List ℕ → Outcome ℕ × List ℕ
two_steps frame before = when is_old frame then lc_zero_as_shape7 frame before else shape7_rewritten frame before

-- the old form comes back as it is, and here it gets the reader's status
abbrev pub old_form_kept : List ℕ → List ℕ → Outcome ℕ × List ℕ
old_form_kept frame before = when is_old frame then copied frame before else convert_of frame before

abbrev pub old_form_refused : List ℕ → List ℕ → Outcome ℕ × List ℕ
old_form_refused frame before = kept_by frame (read_of frame) before

-- known by its surplus: ten bytes and Lc are cut down to a frame
abbrev pub converts_by_surplus : List ℕ → List ℕ → Outcome ℕ × List ℕ
converts_by_surplus frame before =
    when by_surplus frame then writing_of (new_parts frame (saying (header_of frame) 6 7 (pair_at frame 5) (le_read 1 (byte frame (7 + pair_at frame 5))))) before
    else convert_of frame before

-- ---- refusals and the buffer: what convert_of answers, and leaves, with one thing changed

-- "the reader's status for a frame in no shape": here it comes back, as a frame does
abbrev handed_back : Outcome ℕ × List ℕ → List ℕ → Outcome ℕ × List ℕ
handed_back (R n, after) frame = (R n, after)
handed_back (Word w, after) frame = copied frame after
handed_back (Gives n, after) frame = (Gives n, after)

abbrev pub no_shape_copied : List ℕ → List ℕ → Outcome ℕ × List ℕ
no_shape_copied frame before = handed_back (convert_of frame before) frame

-- "the reader's status": here without its pair
abbrev without_pair : Outcome ℕ × List ℕ → Outcome ℕ × List ℕ
without_pair (R n, after) = (R n, after)
without_pair (Word w, after) = (SW w.number, after)
without_pair (Gives n, after) = (Gives n, after)

abbrev pub pair_dropped : List ℕ → List ℕ → Outcome ℕ × List ℕ
pair_dropped frame before = without_pair (convert_of frame before)

-- 02, E13: "the reader's status for a frame in no shape, R2 when the buffer is shorter than the result". Here R2 where the buffer is shorter than a frame in no shape
abbrev room_needed : Outcome ℕ × List ℕ → List ℕ → Outcome ℕ × List ℕ
room_needed (R n, after) frame = (R n, after)
room_needed (Word w, after) frame = when ltb (length after) (length frame) then (R 2, after) else (Word w, after)
room_needed (Gives n, after) frame = (Gives n, after)

abbrev pub room_first : List ℕ → List ℕ → Outcome ℕ × List ℕ
room_first frame before = room_needed (convert_of frame before) frame

-- "R2 when the buffer is shorter than the result": here also where it is shorter than the frame, which without data is longer than its result
abbrev pub room_of_the_frame : List ℕ → List ℕ → Outcome ℕ × List ℕ
room_of_the_frame frame before = when is_old frame && ltb (length before) (length frame) then (R 2, before) else convert_of frame before

-- and here one byte early: where the result just fits
abbrev too_tight : Outcome ℕ × List ℕ → List ℕ → Outcome ℕ × List ℕ
too_tight (R n, after) before = (R n, after)
too_tight (Word w, after) before = (Word w, after)
too_tight (Gives n, after) before = when eqb n (length before) then (R 2, before) else (Gives n, after)

abbrev pub r2_one_byte_early : List ℕ → List ℕ → Outcome ℕ × List ℕ
r2_one_byte_early frame before = too_tight (convert_of frame before) before

-- and one byte late: what would be answered with a byte more, as far as it fits
abbrev cut_to : List ℕ → Outcome ℕ × List ℕ → Outcome ℕ × List ℕ
cut_to before (R n, wide) = (R n, before)
cut_to before (Word w, wide) = (Word w, before)
cut_to before (Gives n, wide) = (Gives n, take (length before) wide)

abbrev late_by : Outcome ℕ × List ℕ → Outcome ℕ × List ℕ → Outcome ℕ × List ℕ
late_by (R n, after) wider = cut_to after wider
late_by (Word w, after) wider = (Word w, after)
late_by (Gives n, after) wider = (Gives n, after)

abbrev pub r2_one_byte_late : List ℕ → List ℕ → Outcome ℕ × List ℕ
r2_one_byte_late frame before = late_by (convert_of frame before) (convert_of frame (0 ∷ before))

-- ours: a result leaves the buffer's rest. Here it becomes 0
abbrev cleared : Outcome ℕ × List ℕ → Outcome ℕ × List ℕ
cleared (R n, after) = (R n, after)
cleared (Word w, after) = (Word w, after)
cleared (Gives n, after) = (Gives n, laid (take n after) (replicate (length after) 0))

abbrev pub clears_the_rest : List ℕ → List ℕ → Outcome ℕ × List ℕ
clears_the_rest frame before = cleared (convert_of frame before)

-- 01: "An R refusal changes no buffer". Here a frame that does not fit fills it, and here one in no shape does
abbrev spoilt_by_r : Outcome ℕ × List ℕ → List ℕ → Outcome ℕ × List ℕ
spoilt_by_r (R n, after) frame = (R n, laid frame after)
spoilt_by_r (Word w, after) frame = (Word w, after)
spoilt_by_r (Gives n, after) frame = (Gives n, after)

abbrev pub refusal_writes : List ℕ → List ℕ → Outcome ℕ × List ℕ
refusal_writes frame before = spoilt_by_r (convert_of frame before) frame

abbrev spoilt_by_word : Outcome ℕ × List ℕ → List ℕ → Outcome ℕ × List ℕ
spoilt_by_word (R n, after) frame = (R n, after)
spoilt_by_word (Word w, after) frame = (Word w, laid frame after)
spoilt_by_word (Gives n, after) frame = (Gives n, after)

abbrev pub status_writes : List ℕ → List ℕ → Outcome ℕ × List ℕ
status_writes frame before = spoilt_by_word (convert_of frame before) frame

-- ---- what the code holds

-- the number of a status word alone
abbrev pub pair_unsaid : Converted → Outcome ℕ
pair_unsaid (Ok n) = Gives n
pair_unsaid (Err (Refused r)) = R (refusal_no r)
pair_unsaid (Err (Status s)) = SW (word_of s).number
