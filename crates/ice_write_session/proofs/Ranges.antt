-- What the types of the program keep in the ranges of its records.
use Rattle.std.proofs.Common.{List, ℤ, pos, neg_ℤ}
use Rattle.std.specs.List.{AllByRecursion}
use Rattle.ice_defs.specs.Making.{is_value}
use Rattle.ice_defs.specs.Round.{Submission}
use Rattle.ice_terms.specs.Bids.{AreValues, IsBid}
use Rattle.ice_journal.specs.Ranges.{IsSubmission, IsValue}
use Rattle.ice_journal.proofs.Tested.{between, all_tested}

pub values_are : (zs : List ℤ) → AreValues zs → AllByRecursion IsValue zs
values_are zs is = all_tested is_value IsValue zs (λ z h. between (neg_ℤ (pos 1000000000)) (pos 1000000000) z h) is.each

pub bid_is : (s : Submission) → IsBid s → IsSubmission s
bid_is s is = record { name = is.name; lo_count = is.lo.few; lo = values_are s.lo is.lo; hi_count = is.hi.few; hi = values_are s.hi is.hi }
