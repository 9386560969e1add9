-- the records that are read so far, and what is known of them
pub mod SoFar
-- why nothing is said of bytes, by what was found in them
pub mod Unjudged
-- what holds of a reader behind all records
pub mod Running
-- bytes have one answer, where journals do
pub mod Deciding
-- the first line of the bytes of a journal
pub mod First
