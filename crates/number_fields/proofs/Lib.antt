mod Examples
mod CappedLaws
mod DecimalLaws
pub mod RangeLaws
