pub mod Lasts
pub mod Watching
pub mod Reading
pub mod Laws
