-- records that are neither a submission nor the beginning of a settlement
pub mod Quiet
-- what a session writes
pub mod Written
