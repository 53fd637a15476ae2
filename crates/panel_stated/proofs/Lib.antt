pub mod Lists
pub mod Cases
pub mod Outcomes
pub mod Exported
pub mod Theorems
pub mod Only
pub mod Refuted
