pub mod Keys
pub mod Orders
pub mod Keyed
pub mod Buckets
pub mod Pairs
pub mod Answers
pub mod Laws
