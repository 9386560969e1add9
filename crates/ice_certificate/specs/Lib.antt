pub mod Bounded
pub mod Excess
