mod Ends
mod Forms
pub mod Values
