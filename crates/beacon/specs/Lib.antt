pub mod Rules
pub mod Beacons
pub mod Tables
pub mod Promises
