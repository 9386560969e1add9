pub mod Bidders
pub mod Writable
pub mod Pieces
