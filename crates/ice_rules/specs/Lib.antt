pub mod Profiles
pub mod Centre
pub mod Laws
pub mod Verdicts
