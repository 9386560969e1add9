pub mod Reading
pub mod Failing
pub mod Tools
pub mod Stepping
pub mod Judged
pub mod Paying
pub mod Sectioned
pub mod Walked
