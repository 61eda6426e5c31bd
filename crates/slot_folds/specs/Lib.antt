pub mod Folds
pub mod Jobs
