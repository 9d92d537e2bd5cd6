pub mod Channel
pub mod Forms
pub mod Laws
pub mod Numbers
pub mod Promises
pub mod Refusals
