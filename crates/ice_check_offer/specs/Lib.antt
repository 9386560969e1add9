pub mod Broken
pub mod Offers
pub mod Rows
pub mod Rounds
pub mod Taking
