pub mod Settlements
pub mod Replays
pub mod Watching
pub mod Ending
pub mod Lines
pub mod Laws
