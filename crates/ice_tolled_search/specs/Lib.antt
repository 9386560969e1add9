pub mod Stated
pub mod Pass
pub mod Turn
pub mod Results
