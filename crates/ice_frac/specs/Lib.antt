pub mod Laws
pub mod Lowest
pub mod Order
