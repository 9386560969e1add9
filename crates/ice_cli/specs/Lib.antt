pub mod Served
pub mod Completeness
