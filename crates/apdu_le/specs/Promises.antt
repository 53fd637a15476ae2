-- What each public function of src/lib.rt promises of its result, and of what is lent to it for writing, on every input: of an Le
-- field of so many bytes (`width`), or of these bytes (`field`).
use Rattle.std.specs.Prelude.{ℕ, ◌≡◌, Bool, List}
use Rattle.apdu_le.specs.Field.{said_of, can_say, put_of}

abbrev pub Fits : ℕ → ℕ → Bool → Type 0
Fits width le r = r ≡ can_say width le

abbrev pub Read : List ℕ → ℕ → Type 0
Read field r = r ≡ said_of field

abbrev pub Put : ℕ → ℕ → List ℕ → List ℕ → Type 0
Put width le old after = after ≡ put_of width le old
