-- the numbers of bidders, one after another
pub mod Holding
