pub mod Alike
pub mod Bounds
pub mod Fault
pub mod Making
pub mod Stored
pub mod Units
