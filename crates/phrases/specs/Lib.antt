pub mod Phrases
pub mod Parsers
pub mod Promise
