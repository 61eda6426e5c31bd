pub mod MoveLaws
pub mod CrossLaws
