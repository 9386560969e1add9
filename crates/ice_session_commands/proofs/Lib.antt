-- faults of round files as records
pub mod RoundFaults
-- the rounds of a run's journal are the bids of its files
pub mod RunRounds
-- the exchange of a file begins the journal
pub mod Begun
-- pieces of a journal that end it
pub mod Putting
-- a settlement ends the session or opens a round
pub mod Settling
-- the journal that `run` writes is one of which its contract speaks
pub mod RunJournal
-- and the one that `simulate` writes
pub mod SimulateJournal
-- bids that are judged and put one after another
pub mod RunJudging
-- what sources of bids lead to
pub mod Sources
-- the rest of a session is put: each step behind what was put before
pub mod Playing
-- what `gen` answers: the figures of a trial, or its journal
pub mod Trials
