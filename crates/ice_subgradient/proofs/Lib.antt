pub mod Offering
pub mod Stepping
