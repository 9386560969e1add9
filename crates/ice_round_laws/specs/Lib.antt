pub mod Laws
pub mod Entries
pub mod Running
pub mod Keeping
