-- one leaf shows a derived good, whatever stands before it
pub mod Shown
-- amounts of the nodes of trees
pub mod Nodes
