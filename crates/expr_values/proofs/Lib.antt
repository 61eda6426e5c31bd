pub mod Names
pub mod Codes
mod Cells
mod Numbers
mod Texts
mod Sides
pub mod Scales
mod Operands
mod Between
mod Lists
mod Choices
mod Fits
mod Sound
mod Forms
mod Whole
mod Blank
pub mod AggregateScales
