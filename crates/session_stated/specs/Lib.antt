pub mod Held
pub mod Sessions
pub mod Promises
pub mod Terms
pub mod Claims
pub mod Wrong
