-- Verdicts may be written.
use Rattle.std.proofs.Common.{◌≡◌, ◌≤◌, ℕ, Bool, true, false, length, refl, subst, arith, Option, Some, None, sym}
use Rattle.std.specs.Prelude.{IsTrue}
use Rattle.ice_defs.specs.declared.Verdict.{Verdict}
use Rattle.ice_defs.specs.declared.Verdict.TheVariants.{Accepted, Loosened, Crossed, Mrpar, Improve, Repeated, UnknownBidder, WrongCount}
use Rattle.ice_defs.specs.Tree.{Tree}
use Rattle.ice_defs.specs.Set.{NodeSet}
use Rattle.ice_defs.specs.Bounds.{Bounds}
use Rattle.ice_defs.specs.Prices.{Prices}
use Rattle.ice_defs.specs.Judging.{IsJudged}
use Rattle.ice_defs.specs.Round.{Submission, Standing, stated_bounds, has_tree_length, IsVerdict}
use Rattle.ice_defs.specs.Exchange.{Exchange}
use Rattle.std.specs.Prelude.{ℤ}
use Rattle.ice_journal.specs.Ranges.{IsVerdictRecord}
use Rattle.ice_verdicts.specs.Judges.{Round, IsVerdictOf, bidder_named, bidder_in, is_marked}
use Rattle.ice_session_laws.specs.Laws.{VerdictMayBeWritten}

-- new bounds of at most 200 nodes
judged_fits : (t : Tree) (p : Prices) (improve : ℤ) (s : NodeSet) (old new : Bounds) (v : Verdict) → length new.lo ≤ 200 → IsJudged t p improve s old new v → IsVerdictRecord v
judged_fits t p improve s old new (Crossed n) few is = let there = is.0.0 in omega (arith, few, there)
judged_fits t p improve s old new (Loosened n) few is = let there = is.1.0.0 in omega (arith, few, there)
judged_fits t p improve s old new Accepted few is = tt
judged_fits t p improve s old new Mrpar few is = tt
judged_fits t p improve s old new Improve few is = tt
judged_fits t p improve s old new Repeated few is = tt
judged_fits t p improve s old new UnknownBidder few is = tt
judged_fits t p improve s old new WrongCount few is = tt

fits_marked : (p : Prices) (improve : ℤ) (bidder : Standing) (taken : Bool) (s : Submission) (v : Verdict) → length s.lo ≤ 200 → IsVerdict p improve bidder taken s v → IsVerdictRecord v
fits_marked p improve bidder true s v few is = subst IsVerdictRecord (sym is) tt
fits_marked p improve bidder false s v few is = by (has_tree_length bidder.tree s) is.0 is.1
  where
    by : (b : Bool) → (IsTrue b → IsJudged bidder.tree p improve bidder.set bidder.bounds (stated_bounds s) v) → (b ≡ false → v ≡ WrongCount) → IsVerdictRecord v
    by true judged wrong = judged_fits bidder.tree p improve bidder.set bidder.bounds (stated_bounds s) v few (judged refl)
    by false judged wrong = subst IsVerdictRecord (sym (wrong refl)) tt

fits_named : (ex : Exchange) (r : Round) (named : Option ℕ) (s : Submission) (v : Verdict) → length s.lo ≤ 200 → IsVerdictOf ex r named s v → IsVerdictRecord v
fits_named ex r None s v few is = subst IsVerdictRecord (sym is) tt
fits_named ex r (Some b) s v few is = fits_marked r.prices ex.settings.improve (bidder_in ex r b) (is_marked r b) s v few is

pub verdict_may_be_written : VerdictMayBeWritten
verdict_may_be_written ex r s verdict few is = fits_named ex r (bidder_named ex s.name) s verdict few is
