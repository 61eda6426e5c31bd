pub mod Groups
pub mod Aggregates
pub mod Heads
pub mod Overs
pub mod Members
