pub mod PlanAnswers
pub mod Sizes
pub mod Laws
pub mod WellFormed
pub mod Examples
