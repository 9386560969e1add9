pub mod Statement
pub mod Audit
pub mod Own
pub mod Parts
pub mod Texts
pub mod Laws
pub mod Gathering
pub mod Sections
