pub mod Numbers
pub mod Walks
pub mod Derivations
pub mod Laws
