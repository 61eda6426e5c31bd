mod Naming
mod Checked
mod Cells
mod Running
mod Landing
mod Used
pub mod Whole
