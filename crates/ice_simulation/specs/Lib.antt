pub mod TruthFile
pub mod Faults
pub mod Rounds
pub mod Laws
