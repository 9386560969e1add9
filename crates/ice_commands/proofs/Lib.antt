-- what `check` answers
pub mod Checking
-- the best sets of all bidders
pub mod Bidding
-- what `best` answers
pub mod Besting
-- what `replay` answers
pub mod Replayed
-- the journal that `regret` writes
pub mod RegretJournal
-- what `regret` answers
pub mod Regretting
-- what `xor` answers
pub mod Translating
-- from why nothing is said of a file to what a command answers
pub mod Unwriting
-- what `migrate` answers
pub mod Migrating
-- what `statement` answers
pub mod Stating
-- what `audit` answers
pub mod Auditing
-- what is found of a last settlement may be written
pub mod FairWritable
-- what `fair` answers
pub mod Fairing
-- from the gap that a file states to what `gap` answers
pub mod Gaps
