pub mod Candidates
