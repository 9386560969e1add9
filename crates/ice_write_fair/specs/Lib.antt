pub mod Lines
pub mod Writable
