pub mod DateFacts
pub mod Computing
mod Examples
