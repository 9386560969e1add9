-- a choice that takes what is above a threshold and leaves what is below it is greatest
pub mod Threshold
-- the greedy choice is greatest
pub mod Greedy
-- where as many children are possible as must be taken, all of them are taken
pub mod Whole
-- where all that add value may be taken, taking them is a best choice
pub mod Gains
-- picks among the children of a node, as sums over all nodes
pub mod Children
-- the root's entry of a table bounds every satisfied set that meets the fixing
pub mod Bounding
-- what the table's choices take is a satisfied set that meets the fixing, and has the root's gain
pub mod Taken
-- a choice that is made child by child, best first
pub mod Partial
-- the offers of the children of one node: listed, put in order, and taken from the last one on
pub mod Offers
-- the best child that is left, found in one pass
pub mod BestLeft
-- writes to the flags of children
pub mod Flags
-- an entry stays what it is while those of its children stay
pub mod Frame
-- the gains of the nodes with no entry's parent below a bound stay small
pub mod Roots
-- one more entry of a half-filled table
pub mod NewEntry
-- the entry of a node without children
pub mod Leaf
-- from the table to the answer
pub mod RootEntry
-- the test `is_satisfied` decides which sets are satisfied
pub mod Deciding
-- the greatest sale, over the list of all sets and over the satisfied sets, and sales as weights
pub mod Sales
-- the net of a set at rates is its value at the net weights
pub mod NetValues
-- what a table's choices take from the root down is some set
pub mod Existence
-- a table that is filled anew from a node up to the root
pub mod Renewing
-- a choice that stays the best though one of the children adds more or less than it did
pub mod Rising
-- a change of a node's gain followed to the entry of its parent
pub mod Following
