pub mod Shape
pub mod Judging
pub mod Laws
