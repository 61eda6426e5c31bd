pub mod FindingFolds
pub mod FirstFindings
pub mod Sizes
mod Examples
