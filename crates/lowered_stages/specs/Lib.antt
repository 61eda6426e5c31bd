pub mod Stages
pub mod Laws
pub mod Parts
pub mod Plans
