pub mod Days
mod BoundedForms
mod Keeping
mod Literals
mod Texts
mod Scales
mod Columns
pub mod WrittenForms
mod Forms
mod Steps
mod Trees
mod Parts
mod Clauses
mod Queries
mod Plans
pub mod Ranges
mod Lowerable
