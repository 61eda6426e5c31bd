mod Spelled
pub mod Lists
