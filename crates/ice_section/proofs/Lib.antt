-- a tree that grows by one node: what holds of a tree whose last nodes are still to come
pub mod NewNode
-- the open nodes of a tree: each waits for its last children, and the nodes outside are closed
pub mod OpenNodes
-- a bidder whose tree is not complete, and the records that were taken of it
pub mod Drafts
-- what holds of a section after the records that it took, and that those records describe it
pub mod Sections
-- the numbers of a section's settings and owned amounts are in their ranges
pub mod Ranges
-- where a section may end, its exchange is lawful, and its records are those that describe it
pub mod Whole
-- the records of a lawful bidder's nodes are taken, and give its tree again
pub mod NodeRecords
-- the records that describe a lawful exchange are taken, and give it again
pub mod BidderRecords
-- the records that describe a lawful exchange are records,
-- and a section takes them and has that exchange
pub mod Describing
-- the open nodes of a tree from what is kept of them
pub mod KeptNodes
-- the sections that lawful records lead to
pub mod ReachedSections
-- a node is taken by the maker of the tree as the section takes it
pub mod NodesTaken
-- what a section keeps stays so
pub mod HeldSections
-- a section takes a node as its two makers do
pub mod SectionNodes
-- a file in line form, of which so many lines were read
pub mod Files
