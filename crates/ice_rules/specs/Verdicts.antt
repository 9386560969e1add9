-- The verdict where a bidder stands.
use Rattle.std.specs.Prelude.{List, ℤ, Result, Ok, Err}
use Rattle.ice_defs.specs.declared.Verdict.{Verdict}
use Rattle.ice_defs.specs.declared.Verdict.TheVariants.{Accepted, Crossed, Loosened, Mrpar, Improve}
use Rattle.ice_defs.specs.Bounds.{Bounds}
use Rattle.ice_defs.specs.Judging.{IsJudged}
use Rattle.ice_rules.specs.declared.refusal.Refusal.{Refusal}
use Rattle.ice_rules.specs.declared.refusal.Refusal.TheVariants as refusal
use Rattle.ice_rules.specs.declared.standing.Standing.{Standing}

-- new lower and upper values
abbrev pub values : List ℤ → List ℤ → Bounds
values lo hi = record { lo = lo; hi = hi }

-- the verdict on new values
abbrev pub IsVerdict : Standing → ℤ → List ℤ → List ℤ → Verdict → Type 0
IsVerdict at improve lo hi verdict = IsJudged at.tree.now at.prices.now improve at.set.now at.bounds.now (values lo hi) verdict

-- the verdict that gives the new bounds, or refuses them
abbrev pub verdict_of : Result Bounds Refusal → Verdict
verdict_of (Ok new) = Accepted
verdict_of (Err (refusal.Crossed node)) = Crossed node
verdict_of (Err (refusal.Loosened node)) = Loosened node
verdict_of (Err refusal.Mrpar) = Mrpar
verdict_of (Err refusal.Improve) = Improve
