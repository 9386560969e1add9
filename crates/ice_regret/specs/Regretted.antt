-- The regret of an assignment, as a search finds it.
use Rattle.std.specs.Prelude.{◌≡◌, List, length, ◌-ℤ◌}
use Rattle.ice_defs.specs.Trade.{Assignment, total_value}
use Rattle.ice_defs.specs.Bounds.{Bounds, IsProfile}
use Rattle.ice_defs.specs.Weighing.{lower_weights, perturbed_weights}
use Rattle.ice_defs.specs.Group.{free_side}
use Rattle.ice_defs.specs.Regret.{lead, IsRegret, NoTradeBeatsBy}
use Rattle.ice_defs.specs.Session.{Proved}
use Rattle.ice_defs.specs.Searched.{IsFound}
use Rattle.ice_defs.specs.Exchange.{Exchange, trees_of, exact_of, market_of}
use Rattle.ice_search.specs.Instance.{Instance, instance_of, empty_search}
use Rattle.ice_search.specs.Results.{AreWritten}
use Rattle.ice_regret.specs.declared.lead.Regret.{Regret}

-- the search for the best assignment at lower values: with all nodes free, from the empty sets
abbrev pub lower_search : Exchange → List Bounds → Instance
lower_search ex bounds = empty_search ex (lower_weights bounds)

-- the search for the rival: at the values that the assignment perturbs, with all nodes free, from
-- the assignment itself
abbrev pub rival_search : Exchange → List Bounds → Assignment → Instance
rival_search ex bounds chosen = instance_of ex (perturbed_weights chosen bounds) (free_side (trees_of ex)) chosen

abbrev pub proved_rival : Regret → Proved
proved_rival r = record { value = r.value; sets = r.rival; log = r.log }

-- the amount is the regret, and bounds every trade; the rival is the best at perturbed values,
-- which
-- are a profile inside the bounds, under which it leads by the amount
pub record IsRegretOf (ex : Exchange) (bounds : List Bounds) (chosen : Assignment) (r : Regret) : Type 0 where
  pub regret : IsRegret (market_of ex) bounds chosen r.amount
  pub difference : r.amount ≡ (r.value -ℤ total_value chosen (lower_weights bounds))
  pub found : IsFound (trees_of ex) (exact_of ex) (perturbed_weights chosen bounds) (free_side (trees_of ex)) chosen (proved_rival r)
  pub written : AreWritten (length (exact_of ex)) r.log
  pub inside : IsProfile bounds 1 (perturbed_weights chosen bounds)
  pub attained : lead r.rival chosen (perturbed_weights chosen bounds) ≡ r.amount
  pub trades : NoTradeBeatsBy (market_of ex) bounds chosen r.amount
