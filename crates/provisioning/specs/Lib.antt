pub mod Layout
pub mod Message
pub mod Tables
pub mod Promises
