-- products of integers: a factor moves into sums, and bounds of a product
pub mod Products
-- multiples of integers, and their order
pub mod Multiples
-- integers: tests of their order, their size, and a negated factor
pub mod Integers
-- sums over the numbers below a bound
pub mod Sums
-- facts of each item of a list
pub mod Lists
-- the numbers below a bound, filtered and searched
pub mod Below
-- options and truth values
pub mod Choices
-- names that are apart
pub mod Naming
-- facts that hold, or don't
pub mod Decided
-- all sets of one length, and free fixings
pub mod NodeSets
-- the empty sets, which are a feasible assignment
pub mod EmptySets
-- the marks that searches begin with
pub mod Starts
-- lower and perturbed weights
pub mod Weights
-- lists of values
pub mod Values
-- worked examples of the definitions
mod Worked
mod WorkedBound
mod WorkedRules
