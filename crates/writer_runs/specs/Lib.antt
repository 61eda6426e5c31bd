pub mod Runs
pub mod Uses
pub mod Laws
