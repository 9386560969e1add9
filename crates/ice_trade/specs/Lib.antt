pub mod Fault
pub mod Parts
pub mod Excess
pub mod Bidders
