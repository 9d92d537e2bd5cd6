pub mod Lookup
pub mod Lists
pub mod Bad
pub mod Promises
