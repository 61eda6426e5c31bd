pub mod Numerals
pub mod Civil
pub mod Counted
pub mod KindLaw
pub mod RowTexts
mod Worked
