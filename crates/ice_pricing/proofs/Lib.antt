pub mod Violations
pub mod Divisors
pub mod Summing
pub mod Numerators
pub mod Weighing
-- tallies of rows
pub mod Tallying
-- whether prices are lawful is decided
pub mod Deciding
