pub mod Bytes
pub mod Promises
pub mod Terms
pub mod Claims
pub mod Wrong
