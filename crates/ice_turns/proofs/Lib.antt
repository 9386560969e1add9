pub mod Multiples
pub mod Scanning
pub mod LargeWeights
pub mod Points
pub mod Works
pub mod Units
pub mod Signed
pub mod Stops
