pub mod Nets
pub mod Living
pub mod Above
pub mod Derived
pub mod Totals
pub mod Fixings
pub mod Modest
pub mod Renewing
pub mod Changing
pub mod Summing
pub mod Marking
pub mod Copying
pub mod Staying
-- what a set costs where one good has another multiplier
pub mod Moving
-- the sum of the greatest nets where a multiplier is one more, or one less
pub mod Reaching
pub mod Tables
pub mod NextLeaves
