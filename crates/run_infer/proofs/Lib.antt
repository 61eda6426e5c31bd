pub mod Divisions
pub mod MarkLaws
pub mod InferLaws
pub mod TupleLaws
