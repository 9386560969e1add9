pub mod Running
pub mod Stops
pub mod Written
pub mod Laws
pub mod Branches
pub mod BranchLaws
pub mod FoundLaws
