-- What each public function of `apdu_shapes`, `apdu_write` and `apdu` promises of its result, and of what is lent to it for writing, on every input.
use Rattle.std.specs.Prelude.{◌≤◌, ◌≡◌}
use Rattle.apdu_stated.specs.Words.{ℕ, Bool, List, length, Case, shape_no}
use Rattle.apdu_stated.specs.Table.{TableRow, lc_field, lc_least, le_field, can_carry, in_row}
use Rattle.apdu_stated.specs.Answers.{Apdu, Place, Reading, Written, says_of, reading_of, written_of}
use Rattle.apdu_stated.specs.Reading.{Entry, Ordinary, Strict, lengths_of, read_of, strict_of, place_of, data_of}
use Rattle.apdu_stated.specs.Writing.{Parts, write_by, buffer_by}
use Rattle.apdu_stated.specs.declared.Lengths.{Lengths}
use Rattle.apdu_stated.specs.declared.Lengths.TheVariants.{Found, Missing, Surplus}

-- a shape's three columns, each of them small
pub record Row (shape : Case) (r : TableRow) : Type 0 where
  pub lc : r.lc_field ≡ lc_field shape
  pub least : r.lc_least ≡ lc_least shape
  pub le : r.le_field ≡ le_field shape
  pub lc_small : r.lc_field ≤ 3
  pub le_small : r.le_field ≤ 3

abbrev pub Fits : Case → ℕ → ℕ → Bool → Type 0
Fits shape count le r = r ≡ can_carry shape count le

abbrev pub StrictHas : Case → ℕ → Bool → Type 0
StrictHas shape count r = r ≡ in_row Strict shape count

-- the Lc that was found
abbrev pub lc_found : Lengths → ℕ
lc_found (Found s lc le) = lc
lc_found Missing = 0
lc_found (Surplus place) = 0

-- the second part says nothing new of bytes, but that Lc fits into two of them
abbrev pub Payload : Entry → List ℕ → Lengths → Type 0
Payload entry p r = (r ≡ lengths_of entry p) × (lc_found r ≤ 65535)

abbrev pub ShapeNumber : Case → ℕ → Type 0
ShapeNumber shape r = r ≡ shape_no shape

abbrev pub Read : List ℕ → Reading → Type 0
Read frame r = reading_of r ≡ read_of frame

abbrev pub ReadStrict : List ℕ → Reading → Type 0
ReadStrict frame r = reading_of r ≡ strict_of frame

-- the second part says nothing new, but that no sum from here on can wrap
abbrev pub DataPlace : Apdu → Place → Type 0
DataPlace says r = (r ≡ place_of (says_of says)) × (r.start ≤ 7)

abbrev pub Data : List ℕ → Apdu → List ℕ → Type 0
Data frame says r = r ≡ data_of frame (says_of says)

-- the answer, and what the buffer holds afterwards
abbrev pub WriteBy : Entry → Parts → List ℕ → Written → List ℕ → Type 0
WriteBy entry w old r after = (written_of r ≡ write_by entry w (length old)) × (after ≡ buffer_by entry w old)

abbrev pub Write : Parts → List ℕ → Written → List ℕ → Type 0
Write w old r after = WriteBy Ordinary w old r after

abbrev pub WriteStrict : Parts → List ℕ → Written → List ℕ → Type 0
WriteStrict w old r after = WriteBy Strict w old r after
