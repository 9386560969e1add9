pub mod Worths
pub mod Equality
pub mod Products
