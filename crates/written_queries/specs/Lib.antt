pub mod Bounds
pub mod Scales
pub mod Laws
pub mod Plans
