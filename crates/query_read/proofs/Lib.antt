mod Spans
mod TokenKinds
mod Checked
mod FitsAtoms
mod FitsExpressions
mod FitsClauses
mod Levels
mod Lenient
mod LenientQueries
mod QueryLaws
mod LiteralLaws
mod Keeping
mod MeasuredForms
pub mod NumberLaws
mod Examples
