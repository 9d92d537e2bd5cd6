pub mod Numbers
pub mod Segments
pub mod Promises
