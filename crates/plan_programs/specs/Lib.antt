pub mod Sites
pub mod Rows
pub mod Groups
pub mod Items
pub mod Lowered
