pub mod Digits
pub mod Integers
pub mod Decimals
pub mod Capped
pub mod Laws
pub mod Ranges
pub mod Examples
