pub mod Words
pub mod Sheet
pub mod Promises
pub mod Terms
pub mod Claims
pub mod Wrong
