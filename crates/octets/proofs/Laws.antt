-- The laws that other crates cite.
pub use Rattle.octets.proofs.Laid.{laid_fits, length_laid, laid_whole}
pub use Rattle.octets.proofs.Tails.{tail_is, laid_then, laid_over}
pub use Rattle.octets.proofs.Between.{part_within, part_length, part_past, part_split, part_byte, part_one}
pub use Rattle.octets.proofs.Parts.{length_part, parts_join, field_at, length_take_most, laid_zeros, all_zero_replicate, replicate_all_zero}
pub use Rattle.octets.proofs.Tests.{both, leb_same, bytes_of}
unfoldable pub use Rattle.octets.proofs.Tests.{small}
pub use Rattle.octets.proofs.Theorems.{LaidExactly as laid_exactly}
