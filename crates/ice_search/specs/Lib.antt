pub mod Instance
pub mod Nodes
pub mod Open
pub mod State
pub mod Workspace
pub mod Ended
pub mod Results
