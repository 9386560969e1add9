-- from the searches to the final sets, their rival and the regret
pub mod Settlements
-- from the parts of a close to the last settlement of a session
pub mod Closings
-- a settlement that goes on
pub mod GoingOn
-- the bounds and sets of a round
pub mod Rounds
-- limits of values and Vickrey discounts
pub mod Limiting
-- what a halt says
pub mod Halting
-- one more bidder is done
pub mod Growing
