-- a set that has the greatest value at net weights has the greatest net
pub mod Best
-- weighted and perturbed values are small enough for nets
pub mod Modest
