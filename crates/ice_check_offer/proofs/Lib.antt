-- what an offer knows of a state that it stands for
pub mod Standing
-- provisional sets begin an offer
pub mod Beginning
-- what a record makes of an offer at the prices and their violation
pub mod Priced
-- at the rows of their certificates
pub mod Listed
-- and in the round
pub mod Judging
-- values of a record are in range
pub mod Values
-- the rule that a set breaks by itself
pub mod Breaking
