pub mod Texts
pub mod Bools
pub mod Forms
pub mod Steps
pub mod ReadingLaws
pub mod Orders
pub mod Stretches
