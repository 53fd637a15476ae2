pub mod Ways
pub mod Standing
pub mod Theorems
pub mod Only
pub mod Refuted
