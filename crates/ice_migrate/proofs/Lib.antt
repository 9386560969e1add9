-- a journal behind its exchange keeps the exchange and its version
pub mod Keeping
-- what a section takes names goods and bidders, and it counts those
pub mod Growing
-- what one record of version 1 that may stand in its place makes of the state
pub mod Following
-- the place behind the first record of a stop, and behind each record after it
pub mod Stopping
-- journals of version 1 whose records stand in order, and those that stop
pub mod Walking
-- what is found of a version 1 journal that passes every test, or that stops
pub mod Judged
-- the records that are left, taken one after another
pub mod Coming
-- the order of records behind a stop, one after another
pub mod Ordering
-- the records behind a head, put one after another
pub mod Puts
-- what a leaf changes of the leaf before it, and that it may stand in a record
pub mod Changes
-- the line of a stop, and what stands before and behind it
pub mod Located
-- a text that is gathered piece by piece, and put in long ones
pub mod Gathering
-- but for want of memory, bytes are judged in one way
pub mod Deciding
