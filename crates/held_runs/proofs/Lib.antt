pub mod Marks
pub mod Stretches
pub mod Heads
pub mod Folded
pub mod Whole
