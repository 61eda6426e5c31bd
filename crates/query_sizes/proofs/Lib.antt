pub mod Totals
mod Costs
mod Weights
mod Expressions
mod Clauses
mod TokenCount
pub mod Nodes
mod Growth
mod Forms
mod Typers
mod Parts
mod Items
pub mod Sizes
