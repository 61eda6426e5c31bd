pub mod Lifted
pub mod Truths
