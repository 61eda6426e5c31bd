pub mod Plans
pub mod Pushes
pub mod Prunes
pub mod Examples
