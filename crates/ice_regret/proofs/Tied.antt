-- A rival that is worth as much at lower values is found by the same search, with the same log.
use Rattle.std.proofs.Common.{◌≡◌, List}
use Rattle.ice_defs.specs.Trade.{Assignment, IsFeasible, total_value}
use Rattle.ice_defs.specs.Bounds.{Bounds}
use Rattle.ice_defs.specs.Weighing.{lower_weights}
use Rattle.ice_defs.specs.Exchange.{Exchange, trees_of, exact_of}
use Rattle.ice_defs.proofs.Starts.{meets_free_side}
use Rattle.ice_search.specs.Results.{IsFoundBy}
use Rattle.ice_search.specs.declared.results.Found.{Found}
use Rattle.ice_regret.specs.Regretted.{lower_search}

pub tie_is_found : (ex : Exchange) (bounds : List Bounds) (f : Found) (rival : Assignment) → IsFoundBy (lower_search ex bounds) f → IsFeasible (trees_of ex) (exact_of ex) rival
    → total_value rival (lower_weights bounds) ≡ f.value → IsFoundBy (lower_search ex bounds) (record { best = rival; value = f.value; log = f.log })
tie_is_found ex bounds f rival is feasible worth = record {
  found = record {
    attained = record { feasible = feasible; meets = meets_free_side (trees_of ex) rival; has = worth };
    passes = is.found.passes;
    earned = is.found.earned;
  };
  written = is.written;
}
