pub mod RowPlaces
pub mod Selected
pub mod Sorted
pub mod Upserted
pub mod Projected
pub mod Paired
pub mod VectorLaws
