-- what the tests of true values mean
pub mod Telling
-- the bids of all bidders
pub mod Bidding
-- sessions of proxies that run
pub mod Running
-- bids that say true values: the opening bounds hold them
pub mod Holding
