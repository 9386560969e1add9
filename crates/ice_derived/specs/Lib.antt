pub mod Ranges
pub mod Packing
pub mod Goods
pub mod Charges
pub mod Nets
pub mod Weighing
pub mod Signs
pub mod Answer
