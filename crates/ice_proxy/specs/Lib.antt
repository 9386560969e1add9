pub mod Proposals
pub mod Bidders
pub mod Sessions
pub mod Laws
