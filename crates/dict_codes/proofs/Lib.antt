pub mod Members
pub mod AscendingLaws
pub mod DictionaryLaws
pub mod DistinctLaws
