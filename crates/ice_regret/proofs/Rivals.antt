-- From the best assignment at perturbed values to the regret.
use Rattle.std.proofs.Common.{◌≡◌, sym, subst, List, length, ◌-ℤ◌}
use Rattle.ice_defs.specs.Trade.{Assignment, IsFeasible, total_value, IsBest, IsBestOfAll}
use Rattle.ice_defs.specs.Bounds.{Bounds}
use Rattle.ice_defs.specs.Group.{free_side}
use Rattle.ice_defs.specs.Weighing.{lower_weights, perturbed_weights}
use Rattle.ice_defs.specs.Regret.{IsRegret}
use Rattle.ice_defs.specs.Searched.{IsFound}
use Rattle.ice_defs.specs.Exchange.{Exchange, trees_of, exact_of, market_of}
use Rattle.ice_regret_laws.proofs.Perturbed.{perturbed_gives_regret, perturbed_attains}
use Rattle.ice_regret_laws.proofs.Trades.{regret_bounds_trades}
use Rattle.ice_defs.specs.Conditions.{AreBoundsOf}
use Rattle.ice_search.specs.Results.{AreWritten}
use Rattle.ice_search.proofs.Freely.{best_of_all}
use Rattle.ice_regret.specs.Regretted.{IsRegretOf, proved_rival}
use Rattle.ice_regret.specs.declared.lead.Regret.{Regret}

pub rival_gives_regret : (ex : Exchange) (bounds : List Bounds) (chosen : Assignment) (r : Regret) → AreBoundsOf (trees_of ex) bounds → IsFeasible (trees_of ex) (exact_of ex) chosen
    → IsFound (trees_of ex) (exact_of ex) (perturbed_weights chosen bounds) (free_side (trees_of ex)) chosen (proved_rival r) → AreWritten (length (exact_of ex)) r.log
    → IsBest (trees_of ex) (exact_of ex) (perturbed_weights chosen bounds) (free_side (trees_of ex)) r.value → r.amount ≡ (r.value -ℤ total_value chosen (lower_weights bounds))
    → IsRegretOf ex bounds chosen r
rival_gives_regret ex bounds chosen r are feasible found written best amount =
    let market = market_of ex in
    let ws = perturbed_weights chosen bounds in
    let all = best_of_all ex ws r.value best in
    let regret : IsRegret market bounds chosen r.amount =
    subst (IsRegret market bounds chosen) (sym amount) (perturbed_gives_regret market bounds chosen r.value are.same_length are.each feasible all) in
    let attains = perturbed_attains market bounds chosen r.rival r.amount are.same_length are.each feasible regret (subst (IsBestOfAll (trees_of ex) (exact_of ex) ws) (sym found.attained.has) all) in
    record {
      regret = regret;
      difference = amount;
      found = found;
      written = written;
      inside = attains.0;
      attained = attains.1;
      trades = regret_bounds_trades market bounds chosen r.amount feasible regret;
    }
