mod Places
mod Holding
mod Turns
pub mod Tables
pub mod Promises
