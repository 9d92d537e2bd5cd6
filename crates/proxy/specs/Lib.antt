pub mod Pieces
pub mod Transfers
pub mod Tables
pub mod Promises
