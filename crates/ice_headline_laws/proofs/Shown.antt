-- The rival of the last settlement shows that its regret is exact.
use Rattle.std.proofs.Common.{List, sym, subst, ◌∙◌}
use Rattle.std.proofs.lemmas.List.{length-map}
use Rattle.ice_defs.specs.Trade.{IsBestOfAll}
use Rattle.ice_defs.specs.Bounds.{Bounds}
use Rattle.ice_defs.specs.Weighing.{perturbed_weights}
use Rattle.ice_defs.specs.Exchange.{Exchange, trees_of, exact_of, opening_bounds, market_of}
use Rattle.ice_defs.specs.Session.{Closed}
use Rattle.ice_headline_laws.specs.Right.{IsClosed, final_bounds}
use Rattle.ice_regret_laws.proofs.Perturbed.{perturbed_attains}
use Rattle.ice_headline_laws.specs.Promises.{RivalShowsRegret}
use Rattle.ice_headline_laws.proofs.Last.{last_is_closed}
use Rattle.ice_round_laws.specs.Keeping.{HaveBounds}
use Rattle.ice_round_laws.proofs.Keeping.{bounds_count, bounds_at}
use Rattle.ice_headline_laws.proofs.Rounds.{final_bounds_are_bounds}

pub rival_shows_regret : RivalShowsRegret
rival_shows_regret s right =
    let ex : Exchange = s.exchange in
    let bounds : List Bounds = final_bounds s in
    let c : Closed = s.closed in
    let is : IsClosed ex bounds c = last_is_closed ex 0 (opening_bounds ex) s.going c right.settlements in
    let are : HaveBounds ex.bidders bounds = final_bounds_are_bounds s right in
    let rival = is.settled.rival in
    let best : IsBestOfAll (trees_of ex) (exact_of ex) (perturbed_weights c.settlement.final.sets bounds) _ =
    subst (IsBestOfAll (trees_of ex) (exact_of ex) (perturbed_weights c.settlement.final.sets bounds)) (sym rival.value) rival.best in
    let (profile, lead) =
    perturbed_attains (market_of ex) bounds c.settlement.final.sets c.settlement.rival.sets c.settlement.regret (bounds_count ex.bidders bounds are ∙ sym (length-map ex.bidders _)) (bounds_at ex.bidders bounds are)
    is.settled.final.feasible is.settled.regret best in
    record { profile = profile; feasible = rival.feasible; attained = lead }
