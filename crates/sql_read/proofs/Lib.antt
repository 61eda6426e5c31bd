pub mod Digits
pub mod TokenList
pub mod GoodSchema
pub mod Semicolons
pub mod Sound
pub mod SchemaLaws
mod Examples
mod Fronts
pub mod NameLaws
pub mod FormLaws
pub mod LiteralLaws
pub mod NumberLaws
