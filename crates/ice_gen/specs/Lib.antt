pub mod Generated
pub mod Drawing
pub mod Growing
pub mod Parts
