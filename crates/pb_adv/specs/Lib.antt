pub mod Frame
pub mod Tables
pub mod Promises
