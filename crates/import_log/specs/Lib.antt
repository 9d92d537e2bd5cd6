pub mod Logs
pub mod Records
pub mod Answers
pub mod Counting
pub mod Shown
pub mod Sockets
pub mod Refusals
