pub mod ColumnLaws
pub mod VectorLaws
pub mod MakerLaws
pub mod ShapeLaws
pub mod ArrangeLaws
pub mod ColumnFronts
