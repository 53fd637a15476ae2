-- What each public function of src/lib.rt promises of its result, and of what its lent buffer holds afterwards, on every input.
use Rattle.std.specs.Prelude.{ℕ, ◌+◌, ◌*◌, ◌<◌, ◌≡◌, Bool, List, [], ◌∷◌}
use Rattle.octets.specs.Bytes.{laid, bytes2, bytes4, all_zero, part_of}

abbrev pub Wide : ℕ → ℕ → Type 0
Wide b r = (r ≡ b) × (r < 256)

abbrev pub Pair : ℕ → ℕ → ℕ → Type 0
Pair hi lo r = r ≡ hi * 256 + lo

-- of a writer: `old` is what the buffer held, `after` what it holds
abbrev pub Put : List ℕ → List ℕ → List ℕ → Type 0
Put src old after = after ≡ laid src old

abbrev pub PutByte : ℕ → List ℕ → List ℕ → Type 0
PutByte b old after = after ≡ laid (b ∷ []) old

abbrev pub PutPair : ℕ → List ℕ → List ℕ → Type 0
PutPair n old after = after ≡ laid (bytes2 n) old

abbrev pub PutWord : ℕ → List ℕ → List ℕ → Type 0
PutWord n old after = after ≡ laid (bytes4 n) old

abbrev pub AllZero : List ℕ → Bool → Type 0
AllZero s r = r ≡ all_zero s

abbrev pub Part : List ℕ → ℕ → ℕ → List ℕ → Type 0
Part s start end r = r ≡ part_of s start end
