pub mod Laws
pub mod Tables
pub mod Reading
pub mod Back
pub mod Promises
