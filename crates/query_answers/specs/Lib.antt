pub mod Overs
pub mod Clauses
pub mod Answers
pub mod Runs
pub mod Laws
pub mod FoldLaws
pub mod LoadedKeys
pub mod Examples
