pub mod Records
pub mod Writable
pub mod Payments
pub mod Pieces
