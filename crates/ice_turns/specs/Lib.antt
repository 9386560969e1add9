pub mod Stages
pub mod Scans
pub mod Works
pub mod Large
pub mod Solutions
pub mod Steps
pub use Rattle.ice_pricing.specs.Provisional
pub use Rattle.ice_pricing.specs.Priced
