pub mod Listed
pub mod Composing
pub mod Outlined
pub mod Leading
