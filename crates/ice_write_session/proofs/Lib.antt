-- records put in parts
pub mod Puts
-- the records of final sets and their regret
pub mod Regrouped
-- what each bidder pays
pub mod Paying
-- the groups without each bidder
pub mod Withouts
-- halted settlements
pub mod Halts
-- the records of settlements are in their ranges
pub mod Lawful
-- what the program's types keep in range
pub mod Ranges
