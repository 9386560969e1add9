-- exact values leave no regret
pub mod Exact
-- bids that state true values are accepted
pub mod Accepted
-- the bids of true values
pub mod Bidding
-- bids that are submitted one after another
pub mod Submitting
-- a round of true values, whose bids are all accepted
pub mod Telling
-- the figures of a settlement that closes
pub mod Summing
-- how a trial ends
pub mod Ending
-- the true values of a generated exchange lie inside its bounds
pub mod Generating
