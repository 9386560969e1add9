pub mod Programs
pub mod Runs
pub mod Ends
pub mod Certified
pub use Rattle.ice_pricing.specs.Bounding
pub use Rattle.ice_turns.specs.Stages
pub use Rattle.ice_pricing.specs.Provisional
pub use Rattle.ice_pricing.specs.Priced
