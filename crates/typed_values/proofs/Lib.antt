pub mod Evaluations
mod Counted
pub mod Kept
pub mod Found
mod FoundForms
pub mod FoundParts
pub mod Ranges
