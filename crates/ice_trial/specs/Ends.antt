-- How a trial ends.
use Rattle.std.specs.Prelude.{◌≡◌, List, Option, None, IfSome}
use Rattle.ice_defs.specs.Bounds.{Bounds}
use Rattle.ice_defs.specs.Exchange.{Exchange}
use Rattle.ice_round.specs.SessionAt.{SessionAt}
use Rattle.ice_round.specs.Ends.{IsHaltOf, IsSpentAt, IsLimitAt}
use Rattle.ice_session_laws.specs.Running.{IsRunning}
use Rattle.ice_trial.specs.declared.trial.TruthRound.{TruthRound}
use Rattle.ice_trial.specs.declared.trial.TrialEnd.{TrialEnd}
use Rattle.ice_trial.specs.declared.trial.TrialEnd.TheVariants as ends
use Rattle.ice_trial.specs.Summaries.{IsSummary}
use Rattle.ice_trial.specs.Rounds.{goings_of, IsTruthRound}

-- the session of the exchange has come so far: behind the
-- round of the true values, if there was one
pub record IsTrial (ex : Exchange) (truths : List Bounds) (first : Option TruthRound) (s : SessionAt) : Type 0 where
  pub exchange : s.exchange ≡ ex
  pub running : IsRunning (goings_of first) s
  pub round : IfSome first (IsTruthRound ex truths)

-- it closed, or a search or the pricing of settlement 0 ended it; want of memory has no cause
abbrev pub IsTrialEnd : Exchange → List Bounds → TrialEnd → Type 0
IsTrialEnd ex truths (ends.Closed summary) = IsSummary ex truths summary
IsTrialEnd ex truths (ends.Spent first halt spent) = (s : SessionAt) × IsTrial ex truths first s × IsHaltOf s halt
    × IsSpentAt s halt.best halt.regret halt.provisional halt.marginals.items spent
IsTrialEnd ex truths (ends.Limit halt limit) = (s : SessionAt) × IsTrial ex truths None s × IsHaltOf s halt
    × IsLimitAt s halt.best halt.regret halt.provisional halt.marginals.items limit
IsTrialEnd ex truths ends.NoMemory = Unit {0}
