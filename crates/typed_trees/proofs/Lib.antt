pub mod TypeForms
pub mod SideForms
pub mod ScaleForms
pub mod ColumnForms
pub mod NameForms
pub mod Named
mod Worked
pub mod Inversions
pub mod Scaled
