pub mod Numbers
pub mod Dates
pub mod DateLaws
pub mod Fields
pub mod Texts
pub mod Examples
