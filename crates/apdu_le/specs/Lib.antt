pub mod Field
pub mod Promises
pub mod Claims
pub mod Wrong
