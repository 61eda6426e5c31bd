pub mod Digits
pub mod Numbers
pub mod Writing
pub mod Routes
