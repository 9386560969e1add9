pub mod FairPrograms
pub mod Sets
pub mod Certifying
pub mod FairTurns
pub mod FairEnds
