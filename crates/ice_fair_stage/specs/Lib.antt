pub mod Paid
pub mod Certified
pub mod Stages
pub mod Turns
pub mod Ends
