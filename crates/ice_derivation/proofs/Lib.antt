-- numbers after changes
pub mod Numbers
-- amounts of bidders, row by row
pub mod Rows
-- how a walk is seen when its numbers change
pub mod Views
-- a log that is walked until no side is open passes
pub mod Walked
-- the derived goods that stand, and the log of the next one
pub mod Standing
