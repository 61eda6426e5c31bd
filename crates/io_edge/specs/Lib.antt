pub mod Faults
pub mod Shelves
pub mod Files
pub mod Sinks
