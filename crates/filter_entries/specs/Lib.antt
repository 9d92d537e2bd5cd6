pub mod Entries
pub mod Changes
pub mod Bad
pub mod Promises
