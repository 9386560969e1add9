-- bounds of a product
pub mod Products
-- what lies where in the list of numbers
pub mod Rows
-- the value of a set at charged nets
pub mod Values
-- the sum of the bidders' greatest nets, less their tolls
pub mod Totals
-- another toll changes what nodes are charged
pub mod Charging
-- amounts as weights
pub mod Fitting
-- a leaf's numbers, and derived goods that it shows
pub mod Following
