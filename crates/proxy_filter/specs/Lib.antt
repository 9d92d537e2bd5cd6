pub mod Filters
pub mod Calls
pub mod Tables
pub mod Promises
