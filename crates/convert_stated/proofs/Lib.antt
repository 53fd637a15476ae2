pub mod OldForms
pub mod Becoming
pub mod Ways
pub mod Numbers
pub mod Theorems
pub mod Only
pub mod Refuted
pub mod Laws
