pub mod Costs
pub mod Weighted
pub mod Priced
pub mod Accurate
pub mod Balanced
pub mod Sums
pub mod Sizes
mod Worked
