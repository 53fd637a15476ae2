-- The names that Iso.antt is written with.
pub use Rattle.std.specs.Prelude.{◌-◌, ◌↔◌, ◌+◌, ◌≤◌, ◌≡◌, ◌&&◌}
pub use Rattle.outcome.specs.Notation.{when◌then◌else◌}
pub use Rattle.outcome.specs.Outcome.{Outcome, Gives}
pub use Rattle.octets.specs.Bytes.{byte, pair_at}
pub use Rattle.apdu_stated.specs.Words.{ℕ, ApduHeader, Bool, true, not, leb, eqb, List, length, drop, Case, Instruction, Le1, Lc1Data, Lc1DataLe1, Lc3Data, Lc3DataLe2, Le3, shape_no}
pub use Rattle.apdu_stated.specs.InTable.{Says, saying}
