-- the units of the nodes so far, and those of one node more
pub mod Adding
-- bounds that pass the tests
pub mod Bounding
-- the children of a node, and those of them that are inside a set
pub mod Children
-- counts of the numbers below a bound that pass a test
pub mod Counting
-- what a maker keeps at each of its calls
pub mod Drafting
-- weights that are filled from bounds, node by node and bidder by bidder
pub mod Filling
-- a tree that grows by one node, or whose innermost open node is closed
pub mod MoreNodes
-- a set is satisfied exactly where no node has a fault, and the test decides it
pub mod Satisfied
-- the children of all nodes, one node's after another
pub mod Storing
-- sums of the units of the bidders' sets
pub mod Summing
