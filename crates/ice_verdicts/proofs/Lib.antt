-- the rounds to which judged submissions lead
pub mod Leading
-- verdicts by marks and counts
pub mod Accepting
-- what a submission makes of a round
pub mod Submitting
-- opening bounds begin a round, and an accepted submission leaves one
pub mod Starting
-- prices of 0
pub mod Zeros
-- the bounds of a round are bounds of the exchange's trees
pub mod Bounded
