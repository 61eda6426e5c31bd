pub mod Sound
mod Pieces
mod Operators
mod Naming
mod Lists
mod Forms
pub mod Whole
