-- where reading a side leaves steps, no feasible assignment that meets the side is above the target
pub mod Refutes
-- logs with derived goods: by goods alone, with more of them, and lawful lists
pub mod Derived
-- reading a side has one end
pub mod Same
-- reading the open sides one after another
pub mod Reading
-- marks and branches that are kept: how many free nodes
-- there are after a mark, and which sides wait
pub mod Kept
-- a passing log over n free nodes has fewer than 2^n branch steps
pub mod Counting
-- a passing log closes all sides, and each of its steps stands in one
pub mod Closing
-- fixings with the same numbers of nodes
pub mod NodeCounts
-- steps at the first open side of a walk
pub mod Opening
-- the loop over the steps of a log
pub mod Standing
