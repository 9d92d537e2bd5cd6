pub mod Messages
pub mod Tables
