pub mod Answers
pub mod Auditing
pub mod Lines
pub mod Standing
pub mod Taking
