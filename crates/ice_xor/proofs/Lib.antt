-- sums and counts over a tree and a set side by side
pub mod Paired
-- the nodes of packages, and sets that take each package whole
pub mod PackageNodes
-- sets of packages as sets of the tree's nodes
pub mod Spreading
-- what a satisfied set takes of each package
pub mod Gathering
-- the flat worth is the tree's
pub mod Worth
-- how many children a node has
pub mod Children
-- the refusals of nodes, part by part
pub mod NodesRefused
-- a tree of packages that is built node by node
pub mod Built
-- units that are inserted in ascending order of goods
pub mod Inserting
-- what is read of packages is lawful
pub mod PackagesRead
-- how far a package, and a tree of packages, is built
pub mod Packing
-- how far an exchange is translated
pub mod Translated
-- arrays of packages and objects of units, empty or not
pub mod Listed
-- bidders that are read one after another
pub mod BiddersRead
-- a whole file of flat bids
pub mod FlatFiles
