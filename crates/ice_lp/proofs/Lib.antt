pub mod Steps
pub mod Entries
pub mod Pivoting
pub mod Turns
pub mod Firsts
pub mod Pivots
pub mod TraceEnds
pub mod Certified
