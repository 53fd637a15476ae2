pub mod Words
pub mod Numbers
pub mod Exports
pub mod Promises
pub mod Terms
pub mod Claims
pub mod Wrong
