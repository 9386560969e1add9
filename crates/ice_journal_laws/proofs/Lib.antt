-- small worked journals: the order of records, and what the tests look at
mod Worked
-- an assign journal that passes every test: so the tests can be passed
mod Passing
-- a journal has one first failed test
pub mod Single
-- where the progress of the tests leads: to the first failed test of the records, or to none
pub mod Leading
-- a set without a fault is satisfied, and what doesn't fail to be covered is covered
pub mod Faultless
-- what the records of an assign journal say so far, where each test of them passes
pub mod Assigning
-- an assign journal that passes each test states a lawful exchange and a feasible assignment of it
pub mod Assigned
-- the value that an assign journal says is a function of its records
pub mod Said
-- the amount that a regret journal says is a function of its records
pub mod Amount
-- bytes have one answer, and it is the one that the progress of their records ends with
pub mod Answered
-- what a record makes of the tests while the exchange is described
pub mod Places
-- what a record makes of the tests at prices, at their certificates and in a round
pub mod Priced
-- and at the rows of their certificates
pub mod PricedRows
-- what a set makes of the tests, in any group
pub mod Sets
-- what a record of a log makes of the tests, in any group
pub mod Walking
-- what the records of a journal say in version 1, record by record
pub mod Plaining
-- the kind of a journal stays that of its head
pub mod KindStays
-- the head of a journal that passes so far
pub mod Heads
-- a group of a journal, its head, its sets and its log, where each test passes
pub mod Grouping
-- what the records of a regret journal say so far, where each test of them passes
pub mod Regretting
-- a regret journal that passes each test states a lawful exchange, the best value at lower values,
-- and the exact regret of its sets
pub mod Regretted
-- the best value without a bidder, where the log of its group passes
pub mod Without
-- settlements that are past: one more of them, and the last settlement behind them
pub mod Past
-- the last settlement, from its threshold line and its payments
pub mod Closing
-- prices of a settlement, and the rows that certify them
pub mod Pricing
-- what the records of a session say so far, where each test of them passes
pub mod Sessions
-- the groups of a session, where each test of them passes
pub mod SessionGroups
-- the prices of a session, their rows and the round, where each test of them passes
pub mod SessionPrices
-- the threshold, the payments and the end of a session, where each test of them passes
pub mod SessionEnds
-- a session that passes each test is right
pub mod SessionRight
-- states that differ only in the order of a round's submissions go on alike
pub mod Alike
-- two submissions of different bidders, each with its verdict, may change places in a journal
pub mod Swapping
-- records that lead on are joined, and a journal of them passes, ends early or stops
pub mod Carried
-- the record of a step says that step, and changes nothing that is so already
pub mod Spelled
-- the sets of a group, written one after another
pub mod CarriedSets
-- the log of a group, written step after step
pub mod CarriedLog
-- a group, written whole: its head, its sets and its log
pub mod CarriedGroup
-- the section of the exchange, written whole, and the record after it
pub mod CarriedSection
-- the two groups of a settlement and its regret
pub mod CarriedSettlement
-- a regret journal, written whole, passes every test
pub mod CarriedRegret
-- the closing of a session: the groups without each bidder, the cut, the payments and the end
pub mod CarriedClosing
-- prices, their violation and the rows of their certificates
pub mod CarriedPricing
-- the submissions of a round with their verdicts, and the next settlement
pub mod CarriedRound
-- a settlement of a session, written whole: one that goes on, and the last one
pub mod CarriedGoing
-- a session, written whole, passes every test
pub mod CarriedSession
-- the records of a session in version 1 are those that say it
pub mod CarriedPlain
-- what a writer writes in version 2 says the journal of version 1
pub mod CarriedVersions
-- what a writer of a session writes in version 2 says the session
pub mod CarriedSays
-- a journal so far: each front of records that lead on, and each front of a stop behind them
pub mod CarriedSoFar
-- a stop at a search that spent its branches: its records may stand behind the records before them
pub mod CarriedSpent
-- journals that stop: at a spent search, at a limit of the pricing, and for want of a round file
pub mod CarriedStops
-- the verdicts of a round, taken one after another
pub mod CarriedVerdicts
-- a session whose last settlement goes on
pub mod CarriedOpen
-- records that lead on, each of whose steps has a property
pub mod CarriedTaken
-- the steps of the groups that are written are earned
pub mod CarriedEarned
-- the steps of settlements that go on, and of the groups without each bidder, are earned
pub mod CarriedEarnedGoing
-- a session as far as its next settlement: its exchange, and settlements that go on
pub mod CarriedComing
-- the statements of a writer's journals
pub mod CarriedLaws
-- a session as far as a search that is spent, or as far as a group that comes next
pub mod CarriedPosition
-- a session that stops at a search that spent its branches
pub mod CarriedSpentSession
-- how many branch steps records have, piece by piece
pub mod CarriedBranches
-- a regret journal that stops at a search that spent its branches
pub mod CarriedSpentRegret
-- a session of one bidder that closes at settlement 0: what a writer is to know can be known
mod WorkedWriting
-- where the records of a journal that stops have come, and what they say in version 1
pub mod CarriedReached
-- a session as far as its prices, and its stop at a limit there
pub mod CarriedLimited
-- how many branch steps a session has that stops at a spent search
pub mod CarriedCounted
-- a session that stops at a spent search is one of which the run's contract speaks
pub mod CarriedIsSpent
-- a session of one bidder whose settlement 0 goes on: what a writer is to know of it can be known
mod WorkedGoing
-- a regret journal that stops at a spent search is one of which the run's contract speaks
pub mod CarriedIsSpentRegret
-- what a record makes of the tests at a group's head, at the regret, at the cut and the payments,
-- and at the end of a journal
pub mod Settling
-- the cut, the surplus and the payments as whole numbers
pub mod Charged
-- the regret and the surplus that a session says are functions of its records
pub mod SaidSession
