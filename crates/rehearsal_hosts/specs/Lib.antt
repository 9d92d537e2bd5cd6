pub mod Hosts
pub mod Ends
pub mod Promises
