pub mod Tests
pub mod Tables
pub mod Parts
pub mod Cut
pub mod Writing
pub mod Loops
pub mod Numbers
