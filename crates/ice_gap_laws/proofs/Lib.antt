-- a journal has one answer
pub mod Single
-- where the head of a group is awaited, the exchange is lawful
pub mod Ready
-- what a gap says is right
pub mod Right
-- a `spent` record is read as the head of its group
pub mod Heading
-- what is answered at the end
pub mod Ending
-- what a writer writes is a gap
pub mod Written
