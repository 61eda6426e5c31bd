pub mod Numerals
pub mod Writers
pub mod Statements
pub mod Names
pub mod Codes
pub mod Laws
