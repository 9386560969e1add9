-- what feasible sets of an exchange are worth
pub mod Worth
-- what a search finds is a group that is shown and earned, and its records are in their ranges
pub mod Found
-- final sets with their regret are shown and earned, and may be written
pub mod Settling
-- how large a violation of provisional sets gets, and what their certificates may be written with
pub mod Violations
-- a settlement that goes on is shown and earned, and may be written
pub mod Openings
-- the last settlement of a session is shown, and may be written
pub mod Closings
-- the journal of a session between two groups
pub mod Between
-- a session as it runs: it begins, a settlement opens a round, the round goes on, and it ends
pub mod Rounds
-- what the journal of a session is, as far as it has come, and where it closes
pub mod Sessions
-- what the journal of a session is in a round, and where it stops there
pub mod RoundStops
-- a journal that stops at a search that spent its branches states a gap
pub mod Gaps
-- a settlement that stops at a search that spent its branches: where it had come, and the journal
pub mod Spending
-- a settlement that has found its final sets and regret: the journal so far
pub mod Finding
-- what a limit of the pricing may be written with
pub mod Limits
-- a settlement that stops at a limit of its pricing: the journal
pub mod Limiting
-- verdicts may be written
pub mod Verdicts
-- stops of a session, and what may be written, from what a settlement gives
pub mod Ends
-- a log that passes from the start of a group has few branch steps
pub mod BranchLogs
-- the two searches of a regret have enough branches
pub mod BranchRegrets
-- the searches of a session, settlement by settlement, have enough branches
pub mod BranchSessions
