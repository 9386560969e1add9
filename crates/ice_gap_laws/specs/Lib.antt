pub mod Gap
pub mod Answers
pub mod Laws
