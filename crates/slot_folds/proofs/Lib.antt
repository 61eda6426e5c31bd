pub mod RunLaws
pub mod StretchLaws
pub mod PushLaws
