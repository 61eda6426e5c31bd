mod FewSources
mod Columns
pub mod Refused
pub mod Plans
pub mod Runs
pub mod Printing
