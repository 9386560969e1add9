-- a proposal holds the truth and lies inside the old bounds
pub mod Proposals
-- an attempt is accepted or not, and some attempt is the least that is
pub mod Attempts
-- a judged attempt gives its bounds, or is not acceptable
pub mod Trying
-- sessions of proxies
pub mod Sessions
-- what is accepted stays so where it is tightened
pub mod Tighter
