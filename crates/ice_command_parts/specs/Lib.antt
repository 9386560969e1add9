pub mod Call
pub mod Parts
pub mod Keeping
pub mod Lines
pub mod Files
pub mod Refusals
pub mod Journals
