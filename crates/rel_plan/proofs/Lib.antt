pub mod Anywhere
pub mod Counts
pub mod Worked
