pub mod Truths
pub mod Laws
pub mod Summaries
pub mod Rounds
pub mod Ends
