pub mod Judges
pub mod Laws
