pub mod Nearness
pub mod Evenness
pub mod Weights
pub mod Passing
pub mod Paying
pub mod Keeping
pub mod Lows
pub mod Stating
