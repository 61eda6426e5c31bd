pub mod Marks
pub mod Inferred
pub mod Tuples
pub mod Examples
