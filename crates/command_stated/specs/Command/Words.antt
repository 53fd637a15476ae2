-- The names that Command.antt is written with.
pub use Rattle.std.specs.Prelude.{◌+◌, ◌||◌}
pub use Rattle.command_stated.specs.Words.{ℕ, Bool, not, List, ltb, eqb, when◌then◌else◌, Outcome, R, Word, SW, Gives, against_ins, byte, part_of, Place}
pub use Rattle.apdu_stated.specs.Answers.{Says}
pub use Rattle.apdu_stated.specs.Reading.{read_of, data_of}
