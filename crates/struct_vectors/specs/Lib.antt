pub mod Columns
pub mod Forms
pub mod Makers
pub mod Numbers
pub mod Making
pub mod Vectors
pub mod Refusals
pub mod Stores
