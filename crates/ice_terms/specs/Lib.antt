pub mod Bids
pub mod Made
pub mod Terms
