pub mod Cells
pub mod Builders
pub mod Stops
pub mod Readers
