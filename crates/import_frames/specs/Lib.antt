pub mod Origins
pub mod Heard
pub mod Sent
