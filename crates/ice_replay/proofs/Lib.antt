-- where a stop leads: behind it neither a regret nor prices come
pub mod Stopping
-- where the tests of a session's records have come, and the settlements among the records
pub mod Coming
-- what one record more makes of what is known of a settlement
pub mod Following
-- what is known behind all records
pub mod Knowing
-- what is answered where the records end
pub mod Answering
-- the names and the bounds of the bidders, one more at a time
pub mod Listed
-- a session states the regret of each settlement once
pub mod Once
-- a journal has one replay of a settlement
pub mod Same
-- bytes have one replay of a settlement, or one reason why there is none
pub mod Deciding
