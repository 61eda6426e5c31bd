pub mod Findings
pub mod Widths
pub mod Catalog
pub mod Examples
