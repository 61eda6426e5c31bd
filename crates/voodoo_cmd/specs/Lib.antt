pub mod RunEffects
pub mod AnswerTexts
pub mod Reads
