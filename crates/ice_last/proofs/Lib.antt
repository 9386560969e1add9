-- journals of sessions: their kind stays
pub mod Sessions
-- what is kept of the records, one after another
pub mod Watched
-- what is known behind all records
pub mod Closed
-- what a last settlement is made of
pub mod Constructed
-- what is answered at the end
pub mod Settled
-- bytes have one answer
pub mod Deciding
