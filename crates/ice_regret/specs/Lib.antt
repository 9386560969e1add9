pub mod Regretted
pub mod Ties
