pub mod Words
pub mod Rows
pub mod Trying
pub mod Answers
pub mod Promises
pub mod Terms
pub mod Claims
pub mod Wrong
