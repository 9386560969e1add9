pub mod Code
pub mod Passing
pub mod Waiting
pub mod Moving
pub mod Faults
pub mod Laws
