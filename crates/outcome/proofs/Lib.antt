pub mod Cases
pub mod Numbers
pub mod Laws
pub mod Theorems
pub mod Only
pub mod Refuted
