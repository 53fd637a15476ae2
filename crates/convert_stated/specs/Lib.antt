pub mod Words
pub mod Converting
pub mod Answers
pub mod Promises
pub mod Terms
pub mod Claims
pub mod Wrong
