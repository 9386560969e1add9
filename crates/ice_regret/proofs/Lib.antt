-- from the best assignment at perturbed values to the regret
pub mod Rivals
-- what stays as it was where a rival is taken as the final trade
pub mod Tied
