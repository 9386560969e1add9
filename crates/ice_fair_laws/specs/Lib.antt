pub mod Fair
pub mod Laws
pub mod Whole
pub mod FairRun
pub mod Run
