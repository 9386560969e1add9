-- lists that count the same things, as one list of records
pub mod Aligning
-- the least good of which a tree may sell more than is owned
pub mod Finding
-- an exchange that grows by a good or a bidder that isn't refused stays lawful
pub mod Unfinished
-- names by their numbers
pub mod NameLists
-- the bounds of an exchange's bidders, and weights of 0 for them
pub mod Weighted
-- what the makers take of a lawful exchange
pub mod Passing
