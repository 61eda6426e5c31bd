pub mod Results
pub mod Writers
