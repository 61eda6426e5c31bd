pub mod Held
pub mod Kinds
pub mod Conditions
pub mod Shown
pub mod Examples
