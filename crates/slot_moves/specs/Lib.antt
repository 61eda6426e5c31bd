pub mod Moves
pub mod Crosses
