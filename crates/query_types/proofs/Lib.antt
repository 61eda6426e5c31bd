pub mod Typers
pub mod Aggregates
pub mod Lists
pub mod Narrow
pub mod Parts
pub mod Worked
pub mod Greatest
pub mod OutcomeLaws
