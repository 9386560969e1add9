-- What else a right session promises: laws, as statements.
use Rattle.std.specs.Prelude.{◌≡◌}
use Rattle.ice_defs.specs.Trade.{IsFeasible}
use Rattle.ice_defs.specs.Bounds.{IsProfile}
use Rattle.ice_defs.specs.Weighing.{perturbed_weights}
use Rattle.ice_defs.specs.Regret.{lead}
use Rattle.ice_defs.specs.Exchange.{trees_of, exact_of}
use Rattle.ice_defs.specs.Session.{Session}
use Rattle.ice_headline_laws.specs.Right.{IsRight, final_bounds}
use Rattle.ice_round_laws.specs.Keeping.{HaveBounds}

-- each bidder has final bounds, and they are bounds of its tree
abbrev pub FinalBoundsAreBounds : Type 0
FinalBoundsAreBounds = (s : Session) → IsRight s → HaveBounds s.exchange.bidders (final_bounds s)

-- the rival shows that the regret is exact: undivided perturbed weights are a profile
-- inside the final bounds, and under it the rival leads the final sets by the regret
pub record ShowsRegret (s : Session) : Type 0 where
  pub profile : IsProfile (final_bounds s) 1 (perturbed_weights s.closed.settlement.final.sets (final_bounds s))
  pub feasible : IsFeasible (trees_of s.exchange) (exact_of s.exchange) s.closed.settlement.rival.sets
  pub attained : lead s.closed.settlement.rival.sets s.closed.settlement.final.sets
      (perturbed_weights s.closed.settlement.final.sets (final_bounds s)) ≡ s.closed.settlement.regret

-- every right session has such a rival
abbrev pub RivalShowsRegret : Type 0
RivalShowsRegret = (s : Session) → IsRight s → ShowsRegret s
