pub mod Economy
pub mod Stored
pub mod Marginals
