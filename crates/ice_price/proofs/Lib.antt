pub mod Programs
pub mod Scanning
pub mod Certifying
pub mod Turning
pub mod TurnEnds
pub mod Deltas
pub mod Finishing
