pub mod Notation
pub mod Outcome
pub mod NotDone
pub mod Terms
pub mod Promises
pub mod Claims
pub mod Wrong
