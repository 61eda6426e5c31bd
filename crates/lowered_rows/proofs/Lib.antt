pub mod Making
pub mod Stores
pub mod Paths
pub mod Loaded
pub mod Runs
pub mod Uses
pub mod Shapes
pub mod Checks
