mod Lists
mod Columns
mod Grown
mod Forms
mod Typers
mod Parts
mod Values
mod Keys
mod Tables
pub mod Queries
