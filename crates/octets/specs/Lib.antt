pub mod Numbers
pub mod Lengths
pub mod Parts
pub mod Cut
pub mod Told
pub mod Tables
pub mod Writing
pub mod Promises
