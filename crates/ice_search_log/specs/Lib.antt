pub mod Parts
pub mod Searching
pub mod Nodes
pub mod Laws
pub mod Code
