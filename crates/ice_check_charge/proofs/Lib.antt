-- a step of the loop over the values without each bidder
mod Steps
-- the parts of a line, tested one by one
mod Parts
-- what a record makes of the tests in each state that awaits the cut or a payment
mod Taken
