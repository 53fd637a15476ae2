-- Only the definitions meet the claims: two programs that meet one agree. Of a reading, on every frame of bytes.
use Prim.Native.Nat.{ℕ, ◌+◌, ◌<◌, ◌≤◌}
use mathlib.Core.Path.{◌≡◌, refl, sym, ◌∙◌}
use mathlib.Core.Bool.{Bool, true, false}
use mathlib.Core.List.{List}
use native.Mathlib.Omega.{arith}
use native.Mathlib.Decide.{ℕ_discrete, dec_lt}
use lib.ListN.{length}
use lib.Seq.{ext_get_or}
use Rattle.std.specs.Prelude.{Ok, Err}
use Rattle.outcome.specs.Notation.{Determines, Determines2, Determines3}
use Rattle.outcome.specs.Outcome.{Outcome}
use Rattle.octets.specs.Bytes.{AreBytes}
use Rattle.octets.specs.Terms.{DeterminesOn}
use Rattle.apdu_stated.specs.Words.{ApduHeader, Case, Instruction, Le1, Lc1Data, Lc1DataLe1, Lc3Data, Lc3DataLe2, Le3, shape_no}
use Rattle.apdu_stated.specs.Answers.{Says}
use Rattle.apdu_stated.specs.Reading.{Entry, Ordinary, Strict, lengths_of}
use Rattle.apdu_stated.specs.declared.Lengths.{Lengths}
use Rattle.apdu_stated.specs.declared.Lengths.TheVariants.{Found, Missing, Surplus}
use Rattle.apdu_stated.specs.Writing.{Parts}
use Rattle.apdu_stated.specs.Terms.{InTable, LcZero, apdu_of, Carries, IsIso}
use Rattle.apdu_stated.specs.Iso.{IsoCase}
use Rattle.apdu_stated.specs.Claims
use Rattle.apdu_stated.proofs.Ways.{TableOf}
use Rattle.apdu_stated.proofs.Readings.{payload_exactly}
use Rattle.apdu_stated.proofs.StrictAndOrdinary.{lc_zero_known}
use Rattle.apdu_stated.proofs.Agree.{same_reading, same_writing}

-- ---- reading, by either table
pub ReadingExactly : DeterminesOn AreBytes (Claims.ReadingExactly InTable)
ReadingExactly f g p q frame bytes = same_reading Ordinary f p frame bytes ∙ sym (same_reading Ordinary g q frame bytes)

pub StrictExactly : DeterminesOn AreBytes Claims.StrictExactly
StrictExactly f g p q frame bytes = same_reading Strict f p frame bytes ∙ sym (same_reading Strict g q frame bytes)

-- ---- the payload by itself
only_payload : (entry : Entry) (payload : List ℕ → Lengths) → Claims.PayloadExactly (TableOf entry) payload → (p : List ℕ) → AreBytes p → payload p ≡ lengths_of entry p
only_payload entry payload exact p bytes = go (lengths_of entry p) refl
  where
    h0 : ApduHeader
    h0 = record { cla = 0; ins = 0; p1 = 0; p2 = 0 }

    go : (l : Lengths) → lengths_of entry p ≡ l → payload p ≡ l
    go (Found s lc le) e = (exact.in_shape p bytes h0 s lc le).1 (((payload_exactly entry).in_shape p bytes h0 s lc le).0 e)
    go Missing e = (exact.too_few p).1 (((payload_exactly entry).too_few p).0 e)
    go (Surplus k) e = (exact.too_many p bytes h0 k).1 (((payload_exactly entry).too_many p bytes h0 k).0 e)

pub PayloadExactly : DeterminesOn AreBytes (Claims.PayloadExactly InTable)
PayloadExactly f g p q l bytes = only_payload Ordinary f p l bytes ∙ sym (only_payload Ordinary g q l bytes)

pub StrictPayloadExactly : DeterminesOn AreBytes Claims.StrictPayloadExactly
StrictPayloadExactly f g p q l bytes = only_payload Strict f p l bytes ∙ sym (only_payload Strict g q l bytes)

-- ---- strict reading
-- beside one first reading, on every frame
pub StrictOtherwise : (read : List ℕ → Outcome Says) → Determines (Claims.StrictOtherwise read)
StrictOtherwise read f g p q frame = go (lc_zero_known frame)
  where
    go : Dec (LcZero frame) → f frame ≡ g frame
    go (yes l) = p.lc_zero frame l ∙ sym (q.lc_zero frame l)
    go (no m) = p.other frame m ∙ sym (q.other frame m)

-- ---- the data and its place
pub DataExactly : Determines2 Claims.DataExactly
DataExactly f g p q frame says = go (dec_lt (length frame) (says.data_at + says.lc))
  where
    go : Dec (length frame < says.data_at + says.lc) → f frame says ≡ g frame says
    go (yes h) = p.past frame says h ∙ sym (q.past frame says h)
    go (no n) =
        let within : says.data_at + says.lc ≤ length frame = omega arith in
        let long = p.as_long frame says within in
        ext_get_or 0 (f frame says) (g frame says) (long ∙ sym (q.as_long frame says within))
        (λ i h. p.each frame says i within (omega arith) ∙ sym (q.each frame says i within (omega arith)))

pub PlaceExactly : Determines Claims.PlaceExactly
PlaceExactly f g p q a = go a.shape a.header a.lc a.le
  where
    go : (s : Case) (h : ApduHeader) (lc le : ℕ) → f (apdu_of h s lc le) ≡ g (apdu_of h s lc le)
    go Instruction h lc le = p.instruction h lc le ∙ sym (q.instruction h lc le)
    go Le1 h lc le = p.le1 h lc le ∙ sym (q.le1 h lc le)
    go Lc1Data h lc le = p.lc1_data h lc le ∙ sym (q.lc1_data h lc le)
    go Lc1DataLe1 h lc le = p.lc1_data_le1 h lc le ∙ sym (q.lc1_data_le1 h lc le)
    go Lc3Data h lc le = p.lc3_data h lc le ∙ sym (q.lc3_data h lc le)
    go Lc3DataLe2 h lc le = p.lc3_data_le2 h lc le ∙ sym (q.lc3_data_le2 h lc le)
    go Le3 h lc le = p.le3 h lc le ∙ sym (q.le3 h lc le)

pub SaysExactly : Determines Claims.SaysExactly
SaysExactly f g p q a = go a.shape a.header a.lc a.le
  where
    go : (s : Case) (h : ApduHeader) (lc le : ℕ) → f (apdu_of h s lc le) ≡ g (apdu_of h s lc le)
    go Instruction h lc le = p.instruction h lc le ∙ sym (q.instruction h lc le)
    go Le1 h lc le = p.le1 h lc le ∙ sym (q.le1 h lc le)
    go Lc1Data h lc le = p.lc1_data h lc le ∙ sym (q.lc1_data h lc le)
    go Lc1DataLe1 h lc le = p.lc1_data_le1 h lc le ∙ sym (q.lc1_data_le1 h lc le)
    go Lc3Data h lc le = p.lc3_data h lc le ∙ sym (q.lc3_data h lc le)
    go Lc3DataLe2 h lc le = p.lc3_data_le2 h lc le ∙ sym (q.lc3_data_le2 h lc le)
    go Le3 h lc le = p.le3 h lc le ∙ sym (q.le3 h lc le)

pub ShapeNumberExactly : Determines Claims.ShapeNumberExactly
ShapeNumberExactly f g p q Instruction = p.instruction ∙ sym q.instruction
ShapeNumberExactly f g p q Le1 = p.le1 ∙ sym q.le1
ShapeNumberExactly f g p q Lc1Data = p.lc1_data ∙ sym q.lc1_data
ShapeNumberExactly f g p q Lc1DataLe1 = p.lc1_data_le1 ∙ sym q.lc1_data_le1
ShapeNumberExactly f g p q Lc3Data = p.lc3_data ∙ sym q.lc3_data
ShapeNumberExactly f g p q Lc3DataLe2 = p.lc3_data_le2 ∙ sym q.lc3_data_le2
ShapeNumberExactly f g p q Le3 = p.le3 ∙ sym q.le3

pub RowExactly : Determines Claims.RowExactly
RowExactly f g p q Instruction = p.instruction ∙ sym q.instruction
RowExactly f g p q Le1 = p.le1 ∙ sym q.le1
RowExactly f g p q Lc1Data = p.lc1_data ∙ sym q.lc1_data
RowExactly f g p q Lc1DataLe1 = p.lc1_data_le1 ∙ sym q.lc1_data_le1
RowExactly f g p q Lc3Data = p.lc3_data ∙ sym q.lc3_data
RowExactly f g p q Lc3DataLe2 = p.lc3_data_le2 ∙ sym q.lc3_data_le2
RowExactly f g p q Le3 = p.le3 ∙ sym q.le3

fits_exactly : (Carry : Case → ℕ → ℕ → Type 0) → Determines3 (Claims.FitsExactly Carry)
fits_exactly Carry f g p q s n le = go (f s n le) (g s n le) refl refl
  where
    go : (a b : Bool) → f s n le ≡ a → g s n le ≡ b → f s n le ≡ g s n le
    go true b e d = e ∙ sym ((q s n le).1 ((p s n le).0 e))
    go false true e d = (p s n le).1 ((q s n le).0 d) ∙ sym d
    go false false e d = e ∙ sym d

pub FitsExactly : Determines3 (Claims.FitsExactly Carries)
FitsExactly = fits_exactly Carries

pub StrictRowExactly : Determines2 Claims.StrictRowExactly
StrictRowExactly f g p q s n = go (f s n) (g s n) refl refl
  where
    go : (a b : Bool) → f s n ≡ a → g s n ≡ b → f s n ≡ g s n
    go true b e d = e ∙ sym ((q s n).1 ((p s n).0 e))
    go false true e d = (p s n).1 ((q s n).0 d) ∙ sym d
    go false false e d = e ∙ sym d

pub StrictFitsExactly : Determines3 Claims.StrictFitsExactly
StrictFitsExactly = fits_exactly _

-- ---- writing: the answer and the buffer, for any parts and any buffer, by either table
pub WriteExactly : Determines2 (Claims.WriteExactly Carries InTable)
WriteExactly = same_writing Ordinary

pub StrictWriteExactly : Determines2 Claims.StrictWriteExactly
StrictWriteExactly = same_writing Strict

-- beside one writer
pub StrictWriteOtherwise : (write : Parts → List ℕ → Outcome ℕ × List ℕ) → Determines2 (Claims.StrictWriteOtherwise write)
StrictWriteOtherwise write f g p q w old = go (ℕ_discrete (shape_no w.shape) 7) (ℕ_discrete (length w.content) 0)
  where
    go : Dec (shape_no w.shape ≡ 7) → Dec (length w.content ≡ 0) → f w old ≡ g w old
    go (yes e) (yes z) = p.seven w old e z ∙ sym (q.seven w old e z)
    go (yes e) (no m) = p.other w old (λ x. omega arith) ∙ sym (q.other w old (λ x. omega arith))
    go (no d) z = p.other w old (λ x. absurd (d x)) ∙ sym (q.other w old (λ x. absurd (d x)))

-- ---- views
pub ReadingSaidExactly : Determines Claims.ReadingSaidExactly
ReadingSaidExactly f g p q (Ok a) = (p.frame _ a).1 refl ∙ sym ((q.frame _ a).1 refl)
ReadingSaidExactly f g p q (Err s) = (p.status _ s).1 refl ∙ sym ((q.status _ s).1 refl)

pub WrittenSaidExactly : Determines Claims.WrittenSaidExactly
WrittenSaidExactly f g p q (Err why) = (p.refused _ why).1 refl ∙ sym ((q.refused _ why).1 refl)
WrittenSaidExactly f g p q (Ok n) = (p.frame _ n).1 refl ∙ sym ((q.frame _ n).1 refl)

-- ---- ISO's cases: of two readings that have their counts, on every frame of a case
pub IsoCounts : (f g : List ℕ → Outcome Says) → Claims.IsoCounts f → Claims.IsoCounts g → (frame : List ℕ) (c : IsoCase) → IsIso c frame → f frame ≡ g frame
IsoCounts f g p q frame c i = p frame c i ∙ sym (q frame c i)
