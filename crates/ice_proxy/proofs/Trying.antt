-- A judged attempt gives its bounds, or is not acceptable.
use Rattle.std.proofs.Common.{◌≡◌, ℤ, Option, Result, Ok, Err}
use Rattle.std.specs.Prelude.{IfOk, MatchOption}
use Rattle.std.specs.Result.{result_ok}
use Rattle.ice_defs.specs.Bounds.{Bounds}
use Rattle.ice_defs.specs.Prices.{Prices}
use Rattle.ice_defs.specs.Judging.{IsJudged}
use Rattle.ice_defs.specs.Round.{Standing}
use Rattle.ice_rules.specs.declared.refusal.Refusal.{Refusal}
use Rattle.ice_rules.specs.Verdicts.{verdict_of}
use Rattle.ice_rules.proofs.Exact.{refused_alone}
use Rattle.ice_proxy.specs.Proposals.{IsAcceptable}

abbrev pub IsTried : Prices → ℤ → Standing → Bounds → Option Bounds → Type 0
IsTried p improve b new found = MatchOption found (¬ IsAcceptable p improve b new) (λ bounds. (bounds ≡ new) × IsAcceptable p improve b new)

pub tried : (p : Prices) (improve : ℤ) (b : Standing) (new : Bounds) (judged : Result Bounds Refusal) → IsJudged b.tree p improve b.set b.bounds new (verdict_of judged)
    → IfOk judged (λ made. made ≡ new) → IsTried p improve b new (result_ok judged)
tried p improve b new (Ok made) accepted same = (same, accepted)
tried p improve b new (Err refusal) judged same = refused_alone b.tree p improve b.set b.bounds new refusal judged
