pub mod Stretches
pub mod Positions
pub mod Writers
pub mod KernelLaws
