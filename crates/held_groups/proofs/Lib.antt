pub mod Codes
pub mod Sorted
pub mod Groups
pub mod Aggregates
pub mod Firsts
pub mod Heads
pub mod Overs
pub mod Members
