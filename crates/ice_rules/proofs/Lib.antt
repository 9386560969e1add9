-- by how much one set's net exceeds another's, at all profiles
pub mod Gaps
-- the loss of a set, and which sets are best, ahead or gain more, by the profiles that decide
pub mod Losses
-- a set that is best at the centre of the bounds is as good as any that is best throughout
pub mod Reflected
-- values that are in range and not crossed are bounds
pub mod Unrefused
-- among the satisfied sets of a tree there is a greatest one
pub mod Found
-- a bid that states its true values exactly, inside its bounds, is accepted
pub mod Exact
