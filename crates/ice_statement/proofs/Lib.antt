pub mod Puts
pub mod Gathers
pub mod Named
pub mod Judged
pub mod Deciding
