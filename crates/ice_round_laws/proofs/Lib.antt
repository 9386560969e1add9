-- there is one verdict on a submission
pub mod Verdicts
-- names, and the submissions of one of them
pub mod Names
-- rounds with the same submissions of each name in the same order give the same verdicts
pub mod Order
-- rounds leave bounds that are bounds of the bidders' trees
pub mod Keeping
-- the entries that submissions leave, one after another, are the definition's
pub mod Entering
-- verdicts that are taken one at a time, by the entries
-- that the earlier ones left, are those of a round
pub mod Taking
-- a submission looks at its bidder's entry alone, and changes that one alone
pub mod Single
-- a verdict looks at the earlier submissions of its own name alone
pub mod Others
-- bidders of other names: a submission changes nothing of theirs
pub mod Apart
-- the names of the entries are the bidders', and stay
pub mod Naming
-- small rounds, worked
pub mod Worked
