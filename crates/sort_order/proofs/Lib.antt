pub mod Counts
pub mod BucketLaws
pub mod StableSorts
pub mod KeyOrders
pub mod KeyedSorts
pub mod CellLaws
pub mod PairLaws
