pub mod Provisional
pub mod Priced
pub mod Tallies
pub mod Lawful
pub mod Bounding
pub use Rattle.ice_certificate.specs.Excess
pub use Rattle.ice_best_at_prices.specs.Net
pub use Rattle.ice_row_laws.specs.Laws
