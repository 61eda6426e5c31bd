pub mod Answered
pub mod SchemaFaults
pub mod Reading
