pub mod Job
pub mod Examples
pub mod Loading
pub mod Query
pub mod Answers
