-- under every profile an assignment leads the final one by no more than at perturbed weights
pub mod Cancelled
-- the best value at perturbed weights, less the final value at lower ones, is the regret
pub mod Perturbed
-- there is one regret, and it isn't negative
pub mod Regrets
-- what is used is covered by what is given: order and sums
pub mod Covered
-- it is decided whether a set serves a trade
pub mod Decided
-- a trade that some set serves has a worth
pub mod Greatest
-- where each number below n has a thing, there is a list of such things
pub mod Chosen
-- assignments trade, and the best trade is no better than the best assignment
pub mod Trades
-- under every profile a bidder's own trade is worth at least its set's lower value
pub mod Worths
