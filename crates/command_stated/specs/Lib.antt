pub mod Words
pub mod Answers
pub mod Command
pub mod Promises
pub mod Terms
pub mod Claims
pub mod Wrong
