-- The definitions meet the claims of specs/Claims.antt, each under its claim's name.
use Prim.Native.Nat.{ℕ, ◌+◌, ◌≤◌}
use mathlib.Core.Path.{◌≡◌, refl, ap, ap₂, sym, subst, ◌∙◌}
use mathlib.Core.Bool.{Bool, true, false, true≢false}
use mathlib.Core.List.{List, [], ◌++◌}
use native.Mathlib.Omega.{arith}
use native.Mathlib.Decide.{ℕ_discrete}
use lib.ListN.{length, take, drop}
use Rattle.outcome.specs.Notation.{AtMostOne}
use Rattle.outcome.specs.Outcome.{Outcome, R, Gives, surplus_at}
use Rattle.outcome.proofs.Laws.{gives_same, word_gives, both_are}
use Rattle.octets.specs.Bytes.{AreBytes, pair_at}
use Rattle.octets.proofs.Laws.{part_length, part_byte, part_past}
use Rattle.apdu_stated.specs.Words.{shape_no}
use Rattle.apdu_stated.specs.Answers.{Written, Says, says_of, reading_of, written_of}
use Rattle.apdu_stated.specs.Table.{row_of, can_carry, in_row, carried_by}
use Rattle.apdu_stated.specs.Reading.{Entry, Ordinary, Strict, read_by, read_of, lengths_of, short_of, extended_of, after_data, say_of, strict_of, place_of, data_of}
use Rattle.apdu_stated.specs.Iso.{IsoCase, is_case, nc_of, ne_of, shape_for, is_tolerated}
use Rattle.apdu_stated.specs.Writing.{Parts, parts_of, writing_of, strict_writing_of}
use Rattle.apdu_stated.specs.Terms.{IsPair, row7, InTable, LcZero, Differ, Carries, CarriesStrictly, apdu_of, IsIso, iso_header, iso_says, iso_data}
use Rattle.apdu_stated.specs.Promises.{WriteBy}
use Rattle.apdu_stated.specs.Claims
use Rattle.apdu_stated.proofs.Cases
use Rattle.apdu_stated.proofs.LaidOut.{carried}
use Rattle.apdu_stated.proofs.Fields.{write_alike, buffer_alike}
use Rattle.apdu_stated.proofs.IsoCases.{iso_read, iso_said, iso_counts, says_iso}
use Rattle.apdu_stated.proofs.Only.{DataExactly as only_data}
use Rattle.apdu_stated.proofs.Frames.{said}
use Rattle.apdu_stated.proofs.Entries.{can, carried_carries}
use Rattle.apdu_stated.proofs.Numbers.{shape_same, says_same, reading_same, written_same, row_same}
use Rattle.apdu_stated.proofs.Rows.{in_row_lem, row_in, iso_row, row_iso}
use Rattle.apdu_stated.proofs.Readings.{place_is, reads_entry, read_exactly, short_exactly, no_shape_exactly, pairs_exactly, missing_exactly, given_long, surplus_exactly, payload_exactly, of_table, iso_exactly, of_case, reading_exactly}
use Rattle.apdu_stated.proofs.StrictAndOrdinary.{short_at, wide_at, strict_zero_at, old_at, read_nine_at, otherwise_alike, eight_old, alike, strict_row}
use Rattle.apdu_stated.proofs.Writings.{fits_exactly, write_r5, write_refused, write_exactly, same_carried, read_then_written, written_then_read, accepts_what_is_read}

-- ---- reading
pub ReadExactly : Claims.ReadExactly InTable read_of
ReadExactly = read_exactly Ordinary

pub ShortExactly : Claims.ShortExactly read_of
ShortExactly = short_exactly Ordinary

pub NoShapeExactly : Claims.NoShapeExactly InTable read_of
NoShapeExactly = no_shape_exactly Ordinary

pub MissingExactly : Claims.MissingExactly read_of
MissingExactly = missing_exactly Ordinary

pub SurplusExactly : Claims.SurplusExactly InTable read_of
SurplusExactly = surplus_exactly Ordinary

pub ReadingExactly : Claims.ReadingExactly InTable read_of
ReadingExactly = reading_exactly Ordinary

pub StrictExactly : Claims.StrictExactly strict_of
StrictExactly = reading_exactly Strict

pub StrictNoShapeExactly : Claims.StrictNoShapeExactly strict_of
StrictNoShapeExactly = no_shape_exactly Strict

pub ReadPairsExactly : Claims.ReadPairsExactly read_of strict_of
ReadPairsExactly = (pairs_exactly Ordinary, pairs_exactly Strict)

pub PlacesExactly : Claims.PlacesExactly read_of strict_of
PlacesExactly =
    record {
      short_form = λ frame nz more. (short_at frame Ordinary nz more, short_at frame Strict nz more);
      extended_form = λ frame z more. wide_at frame Ordinary (Cases.ordinary_has (pair_at frame 5)) z more;
      strict_extended = λ frame z some more. wide_at frame Strict (Cases.has_data Strict (pair_at frame 5) (omega arith)) z more;
      old_form = λ frame o. (old_at frame Ordinary o, old_at frame Strict o);
      strict_lc_zero = strict_zero_at;
    }

pub PayloadExactly : Claims.PayloadExactly InTable (lengths_of Ordinary)
PayloadExactly = payload_exactly Ordinary

pub StrictPayloadExactly : Claims.StrictPayloadExactly (lengths_of Strict)
StrictPayloadExactly = payload_exactly Strict

pub ExamplesRead : Claims.ExamplesRead read_of
unfolding read_by say_of lengths_of short_of extended_of after_data
ExamplesRead = refl

-- ---- the data and its place
pub DataExactly : Claims.DataExactly data_of
unfolding data_of
DataExactly =
    record {
      of_table = of_table;
      as_long = λ frame says h. part_length frame says.data_at (says.data_at + says.lc) (omega arith) h ∙ omega arith;
      each = λ frame says i h l. part_byte frame says.data_at (says.data_at + says.lc) i (omega arith) h;
      past = λ frame says h. sym (part_past frame says.data_at (says.data_at + says.lc) (omega arith) h);
    }

pub AtMostOneShape : Claims.AtMostOneShape
AtMostOneShape frame a b i j =
    let same : a.0 ≡ b.0 = gives_same _ _ (sym (reads_entry Ordinary frame a.1 a.0 i) ∙ reads_entry Ordinary frame b.1 b.0 j) in
    ap₂ (λ (x : Says) (y : List ℕ). (x, y)) same (sym (of_table frame a.1 a.0 i) ∙ ap (data_of frame) same ∙ of_table frame b.1 b.0 j)

pub PlaceExactly : Claims.PlaceExactly (λ a. place_of (says_of a))
PlaceExactly =
    record {
      instruction = λ h lc le. refl;
      le1 = λ h lc le. refl;
      lc1_data = λ h lc le. refl;
      lc1_data_le1 = λ h lc le. refl;
      lc3_data = λ h lc le. refl;
      lc3_data_le2 = λ h lc le. refl;
      le3 = λ h lc le. refl;
    }

pub ShapeNumberExactly : Claims.ShapeNumberExactly shape_no
ShapeNumberExactly =
    record { instruction = refl; le1 = refl; lc1_data = refl; lc1_data_le1 = refl; lc3_data = refl; lc3_data_le2 = refl; le3 = refl }

pub RowExactly : Claims.RowExactly row_of
RowExactly =
    record { instruction = refl; le1 = refl; lc1_data = refl; lc1_data_le1 = refl; lc3_data = refl; lc3_data_le2 = refl; le3 = refl }

pub SaysExactly : Claims.SaysExactly says_of
SaysExactly =
    record {
      instruction = λ h lc le. refl;
      le1 = λ h lc le. refl;
      lc1_data = λ h lc le. refl;
      lc1_data_le1 = λ h lc le. refl;
      lc3_data = λ h lc le. refl;
      lc3_data_le2 = λ h lc le. refl;
      le3 = λ h lc le. refl;
    }

-- ---- the strict entry beside the ordinary one
pub StrictOtherwise : Claims.StrictOtherwise read_of strict_of
StrictOtherwise =
    record {
      lc_zero = strict_zero_at;
      other = otherwise_alike;
    }

-- ---- writing
pub FitsExactly : Claims.FitsExactly Carries can_carry
FitsExactly s n le = (λ e. carried_carries s n le (carried s n le e), can s n le)

pub StrictRowExactly : Claims.StrictRowExactly (in_row Strict)
StrictRowExactly s n = (λ e. iso_row s n (row_in Strict s n e), λ r. in_row_lem Strict s n (row_iso s n r))

pub StrictFitsExactly : Claims.StrictFitsExactly (carried_by Strict)
StrictFitsExactly = fits_exactly Strict

pub WriteExactly : Claims.WriteExactly Carries InTable writing_of
WriteExactly = write_exactly Ordinary

pub StrictWriteExactly : Claims.StrictWriteExactly strict_writing_of
StrictWriteExactly = write_exactly Strict

pub StrictWriteOtherwise : Claims.StrictWriteOtherwise writing_of strict_writing_of
StrictWriteOtherwise =
    record {
      seven = λ w old e empty. refuses w old (λ c. let some = c.row.some_data (omega arith) (omega arith) in omega arith);
      other = same;
    }
  where
    refuses : (w : Parts) (old : List ℕ) → (CarriesStrictly w.shape (length w.content) w.le → ⊥) → strict_writing_of w old ≡ (R 5, old)
    refuses w old n =
        let e : (strict_writing_of w old).0 ≡ R 5 = (write_r5 Strict w old).1 n in
        ap₂ (λ (x : Outcome ℕ) (y : List ℕ). (x, y)) e (write_refused Strict w old 5 e)

    same : (w : Parts) (old : List ℕ) → (shape_no w.shape ≡ 7 → 1 ≤ length w.content) → strict_writing_of w old ≡ writing_of w old
    same w old m =
        let alike = same_carried w.shape (length w.content) w.le m in
        ap₂ (λ (x : Outcome ℕ) (y : List ℕ). (x, y)) (sym (write_alike w alike (length old))) (sym (buffer_alike w alike old))

-- ---- there and back
pub ReadThenWritten : Claims.ReadThenWritten read_of data_of writing_of
ReadThenWritten = read_then_written Ordinary

pub WrittenThenRead : Claims.WrittenThenRead read_of data_of writing_of
WrittenThenRead = written_then_read Ordinary

pub AcceptsWhatIsRead : Claims.AcceptsWhatIsRead read_of data_of writing_of
AcceptsWhatIsRead = accepts_what_is_read Ordinary

pub StrictThereAndBack : Claims.StrictThereAndBack strict_of data_of strict_writing_of
StrictThereAndBack = record { read_then_written = read_then_written Strict; written_then_read = written_then_read Strict; accepts = accepts_what_is_read Strict }

-- ---- the numbers tell the cases apart
pub ShapeOneToOne : Claims.ShapeOneToOne
ShapeOneToOne = shape_same

pub SaysOneToOne : Claims.SaysOneToOne
SaysOneToOne = says_same

pub ReadingOneToOne : Claims.ReadingOneToOne
ReadingOneToOne = reading_same

pub WrittenOneToOne : Claims.WrittenOneToOne
WrittenOneToOne = written_same

-- ---- what the answers say
pub ReadingSaidExactly : Claims.ReadingSaidExactly reading_of
ReadingSaidExactly = record { frame = λ r a. (reading_same _ _, ap reading_of); status = λ r s. (reading_same _ _, ap reading_of) }

pub WrittenSaidExactly : Claims.WrittenSaidExactly written_of
WrittenSaidExactly = record { refused = λ r why. (written_same _ _, ap written_of); frame = λ r n. (written_same _ _, ap written_of) }

-- ---- a function that gives what a definition gives, input by input, is that definition
pub ContractsAsClaimed : Claims.ContractsAsClaimed
ContractsAsClaimed =
    record {
      row = λ f is. subst Claims.RowExactly (λ d s. row_same (row_of s) (f s) (sym (is s).lc) (sym (is s).least) (sym (is s).le) d) RowExactly;
      payload = λ f is. (
        subst (Claims.PayloadExactly InTable) (λ d p. sym (is Ordinary p).0 d) PayloadExactly,
        subst Claims.StrictPayloadExactly (λ d p. sym (is Strict p).0 d) StrictPayloadExactly,
      );
      shape_number = λ f is. subst Claims.ShapeNumberExactly (λ d s. sym (is s) d) ShapeNumberExactly;
      data_place = λ f is. subst Claims.PlaceExactly (λ d a. sym (is a).0 d) PlaceExactly;
      cut_data = λ f is g c frame a. is frame a ∙ only_data data_of g DataExactly c frame (says_of a);
      fits = λ f is. subst (Claims.FitsExactly Carries) (λ d s n le. sym (is s n le) d) FitsExactly;
      strict_has = λ f is. subst Claims.StrictRowExactly (λ d s n. sym (is s n) d) StrictRowExactly;
      read = λ f is. subst (Claims.ReadingExactly InTable) (λ d frame. sym (is frame) d) ReadingExactly;
      read_strict = λ f is. subst Claims.StrictExactly (λ d frame. sym (is frame) d) StrictExactly;
      write = λ f is. subst (Claims.WriteExactly Carries InTable) (λ d w old. (sym (is w old).0 d, sym (is w old).1 d)) WriteExactly;
      write_strict = λ f is. subst Claims.StrictWriteExactly (λ d w old. (sym (is w old).0 d, sym (is w old).1 d)) StrictWriteExactly;
    }

-- ---- two results are equal
pub ResultsDetermined : Claims.ResultsDetermined
ResultsDetermined =
    record {
      row = λ s a b p q. row_same a b (both_are _ _ p.lc q.lc) (both_are _ _ p.least q.least) (both_are _ _ p.le q.le);
      fits = λ s n le a b. both_are a b;
      strict_has = λ s n a b. both_are a b;
      payload = λ entry p a b q r. both_are a b q.0 r.0;
      shape_number = λ s a b. both_are a b;
      read = λ frame a b p q. reading_same a b (both_are _ _ p q);
      read_strict = λ frame a b p q. reading_same a b (both_are _ _ p q);
      data_place = λ says a b p q. both_are a b p.0 q.0;
      cut_data = λ frame says a b. both_are a b;
      write = by Ordinary;
      write_strict = by Strict;
    }
  where
    by : (entry : Entry) (w : Parts) (old : List ℕ) → AtMostOne (λ (o : Written × List ℕ). WriteBy entry w old o.0 o.1)
    by entry w old a b p q = ap₂ (λ (r : Written) (l : List ℕ). (r, l)) (written_same a.0 b.0 (both_are _ _ p.0 q.0)) (both_are _ _ p.1 q.1)

-- ---- ISO's seven cases
pub IsoExactly : Claims.IsoExactly read_of
IsoExactly = iso_exactly Ordinary

pub IsoCounts : Claims.IsoCounts read_of
IsoCounts = iso_counts Ordinary

pub StrictIsIso : Claims.StrictIsIso strict_of
StrictIsIso =
    record {
      each_case = λ frame c long. (
        λ e. let r = (iso_exactly Strict frame c long).0 e in (r.0, r.1, r.2),
        λ t. (iso_exactly Strict frame c long).1 (t.0, t.1, t.2, strict_row frame t.0 t.1),
      );
      no_other = λ frame says e. (given_long Strict frame says e, of_case Strict frame says e (strict_row frame says e));
      counts = iso_counts Strict;
    }

pub DifferExactly : Claims.DifferExactly read_of strict_of
DifferExactly =
    record {
      on_iso = λ frame c long e. let r = iso_read (drop 4 frame) c e in iso_said frame c long r Strict ∙ sym (iso_said frame c long r Ordinary);
      agree = alike;
      differ = differs;
      at_eight = λ frame l e. let o = eight_old frame l e in let empty = l.zero_lc in (old_at frame Ordinary o ∙ ap surplus_at (omega arith), strict_zero_at frame l);
      at_nine = λ h a b le o. (reads_entry Ordinary _ [] _ (row7 no_lc o), strict_zero_at _ (record { longer = omega arith; extended = refl; zero_lc = refl }));
      from_ten = λ frame l more. (read_ten frame l more, strict_zero_at frame l);
    }
  where
    read_ten : (frame : List ℕ) → LcZero frame → 10 ≤ length frame → read_of frame ≡ surplus_at 9
    read_ten frame l more =
        let empty = l.zero_lc in
        wide_at frame Ordinary (Cases.ordinary_has (pair_at frame 5)) l.extended (omega arith) ∙ ap surplus_at (omega arith)

    no_lc : IsPair 0x00 0x00 0
    no_lc = record { high = omega arith; low = omega arith; is = refl }

    zero_differs : (frame : List ℕ) → LcZero frame → 9 ≤ length frame → Dec (length frame ≡ 9) → strict_of frame ≡ read_of frame → ⊥
    zero_differs frame l more (yes h) e = word_gives _ _ (sym (strict_zero_at frame l) ∙ e ∙ (read_nine_at frame l.extended l.zero_lc h).1)
    zero_differs frame l more (no m) e =
        let z : ◌≡◌ {A = ℕ} 7 9 = place_is _ _ (sym (strict_zero_at frame l) ∙ e ∙ read_ten frame l (omega arith)) in
        omega arith

    differs : (frame : List ℕ) → Differ frame → strict_of frame ≡ read_of frame → ⊥
    differs frame d e = zero_differs frame d.lc_zero d.nine (ℕ_discrete (length frame) 9) e

pub ToleratedExactly : Claims.ToleratedExactly read_of
ToleratedExactly = record { of_no_case = λ frame said e. (forth frame said e, back frame said e); is_read = nine }
  where
    forth : (frame : List ℕ) (said : Says) → read_of frame ≡ Gives said → is_tolerated said.shape said.lc ≡ true → (c : IsoCase) → is_case c (drop 4 frame) ≡ false
    forth frame said e t c = go (is_case c (drop 4 frame)) refl
      where
        go : (b : Bool) → is_case c (drop 4 frame) ≡ b → b ≡ false
        go false x = refl
        go true x =
            let r = (IsoExactly frame c (given_long Ordinary frame said e)).0 x in
            let same : r.0 ≡ said = gives_same _ _ (sym r.1 ∙ e) in
            absurd (true≢false (sym t ∙ ap (λ (y : Says). is_tolerated y.shape y.lc) (sym same) ∙ r.3))

    back : (frame : List ℕ) (said : Says) → read_of frame ≡ Gives said → ((c : IsoCase) → is_case c (drop 4 frame) ≡ false) → is_tolerated said.shape said.lc ≡ true
    back frame said e never = go (is_tolerated said.shape said.lc) refl
      where
        go : (b : Bool) → is_tolerated said.shape said.lc ≡ b → b ≡ true
        go true t = refl
        go false t = let c = of_case Ordinary frame said e t in absurd (true≢false (sym c.1 ∙ never c.0))

    nine : (frame : List ℕ) → LcZero frame → length frame ≡ 9 → (says : Says) × (read_of frame ≡ Gives says) × (is_tolerated says.shape says.lc ≡ true)
    nine frame l e = let r = read_nine_at frame l.extended l.zero_lc e in (_, r.1, rw l.zero_lc)

-- what is written is read back, and what is read strictly is of a case, with its Nc and Ne
pub WritesIso : Claims.WritesIso strict_writing_of
unfolding data_of
WritesIso = record { of_case = written; each_case = again }
  where
    written : (w : Parts) (old : List ℕ) (n : ℕ) → (strict_writing_of w old).0 ≡ Gives n
        → let frame = take n (strict_writing_of w old).1 in
        (c : IsoCase) × IsIso c frame × (w.shape ≡ shape_for c) × (w.header ≡ iso_header frame) × (w.content ≡ iso_data c frame) × (w.le ≡ ne_of c (drop 4 frame))
    written w old n e =
        let frame = take n (strict_writing_of w old).1 in
        let says = says_of (apdu_of w.header w.shape (length w.content) w.le) in
        let back = written_then_read Strict w old n e in
        let of = StrictIsIso.no_other frame says back.0 in
        let c = of.1.0 in
        let i : IsIso c frame = (of.0, of.1.1) in
        let same : says ≡ iso_says c frame = gives_same _ _ (sym back.0 ∙ iso_counts Strict frame c i) in (
          c,
          i,
          shape_same _ _ of.1.2,
          ap (λ (s : Says). s.header) same,
          sym back.1 ∙ ap (data_of frame) same,
          ap (λ (s : Says). s.le) same,
        )

    again : (frame old : List ℕ) (c : IsoCase) → AreBytes frame → IsIso c frame → length frame ≤ length old
        → strict_writing_of (parts_of (iso_header frame) (shape_for c) (iso_data c frame) (ne_of c (drop 4 frame))) old ≡ (Gives (length frame), frame ++ drop (length frame) old)
    again frame old c bytes i room =
        let a = apdu_of (iso_header frame) (shape_for c) (nc_of c (drop 4 frame)) (ne_of c (drop 4 frame)) in
        let same : says_of a ≡ iso_says c frame = says_iso c frame in
        ap (λ (d : List ℕ). strict_writing_of (parts_of (iso_header frame) (shape_for c) d (ne_of c (drop 4 frame))) old) (ap (data_of frame) (sym same))
        ∙ read_then_written Strict frame old a bytes (iso_counts Strict frame c i ∙ ap Gives (sym same)) room
