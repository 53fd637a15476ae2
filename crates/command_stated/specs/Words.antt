-- The notation and the names that the definitions here are written with, brought together.
pub use Rattle.std.specs.Prelude.{ℕ, ◌+◌, ◌≤◌, ◌<◌, ◌≡◌, Bool, true, not, ◌||◌, List, [], ◌∷◌, ◌++◌, ltb, eqb, length}
pub use Rattle.outcome.specs.Notation.{when◌then◌else◌, AtMostOne}
pub use Rattle.outcome.specs.declared.ApduStatusCode.{ApduStatusCode}
pub use Rattle.outcome.specs.Outcome.{StatusWord, Outcome, R, Word, SW, Gives, wrong_length, against_ins, word_of}
pub use Rattle.outcome.specs.Terms.{HasStatus}
pub use Rattle.octets.specs.Bytes.{byte, part_of}
pub use Rattle.apdu_stated.specs.declared.Apdu.{Apdu}
pub use Rattle.apdu_stated.specs.declared.Place.{Place}
