pub mod Forms
pub mod Appending
mod Counted
pub mod Powers
pub mod Compiled
mod Worked
