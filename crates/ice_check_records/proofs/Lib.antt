-- what a record makes of the tests where the exchange may be complete
pub mod Behind
-- settings stand first in a section
pub mod Settled
-- a state keeps what is known of it
pub mod Knowing
-- what the records of a group make of what is known of a journal behind its exchange
pub mod Grouped
-- and the records of its logs
pub mod Logged
-- and those of the regret, the offer and the payments
pub mod Ending
-- the weights, the sides and the sets that a walk of an exchange's logs begins with
pub mod Walks
-- the multipliers after changes, one change after another
pub mod Changes
-- what the stages of the checker make of a record
pub mod Placing
-- what the stages of the checker stand for, behind the exchange and at the end
pub mod Staged
-- a journal that has not ended leaves no session
pub mod Leaving
-- what the stages of a checker of gaps stand for
pub mod Gapping
