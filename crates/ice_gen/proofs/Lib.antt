pub mod Numbers
pub mod Drawing
pub mod Keeping
pub mod Selling
pub mod Packaging
pub mod Joining
