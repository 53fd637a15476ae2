pub mod Theorems
pub mod Only
pub mod Refuted
pub mod Ways
pub mod Within
pub mod Laws
