-- what a leaf changes
pub mod Changing
-- the records of a group
pub mod Groups
-- what searches give may be written
pub mod Writable
-- lists that are put element by element
pub mod Loops
-- the parts of an exchange
pub mod Described
-- the steps of a log
pub mod Stepping
