pub mod Words
pub mod Responses
pub mod Parts
pub mod Terms
pub mod Promises
pub mod Fetching
pub mod Claims
pub mod Wrong
