-- What is known of the market without one bidder, from its search.
use Rattle.std.proofs.Common.{ℕ, ◌≡◌, ◌<◌, arith, length, pos, ◌-ℤ◌, ◌≤ℤ◌}
use Rattle.std.proofs.lemmas.Int.{ints}
use Rattle.ice_defs.specs.Trade.{IsBest}
use Rattle.ice_defs.specs.Weighing.{lower_weights}
use Rattle.ice_defs.specs.declared.Group.TheVariants.{Without}
use Rattle.ice_defs.specs.Group.{start_of, empty_sets}
use Rattle.ice_defs.specs.Searched.{IsFound}
use Rattle.ice_defs.specs.Exchange.{trees_of, exact_of}
use Rattle.ice_defs.specs.Lawful.{IsExchange}
use Rattle.ice_search.specs.Results.{AreWritten}
use Rattle.ice_vickrey.specs.Economy.{Economy, IsEconomy}
use Rattle.ice_vickrey.specs.Marginals.{proved_without, IsMarginalOf}
use Rattle.ice_vickrey.specs.declared.marginal.Marginal.{Marginal}
use Rattle.ice_vickrey.proofs.Leaving.{exchange_tree, leaves_out, best_without, without_low, without_high}

pub is_marginal : (e : Economy) (b : ℕ) (m : Marginal) → IsExchange e.exchange → IsEconomy e → e.total ≤ℤ pos 8000000000000 → b < length (trees_of e.exchange) → m.bidder ≡ b
    → IsFound (trees_of e.exchange) (exact_of e.exchange) (lower_weights e.bounds) (start_of (trees_of e.exchange) (Without b)) (empty_sets (trees_of e.exchange)) (proved_without m)
    → AreWritten (length (exact_of e.exchange)) m.log
    → IsBest (trees_of e.exchange) (exact_of e.exchange) (lower_weights e.bounds) (start_of (trees_of e.exchange) (Without b)) m.without
    → m.discount ≡ (e.total -ℤ m.without) → IsMarginalOf e b m
is_marginal e b m lawful economy few there is_its found written best difference =
    let ts = trees_of e.exchange in
    let exact = exact_of e.exchange in
    let ws = lower_weights e.bounds in
    let tree = exchange_tree e.exchange b lawful there in
    let without = best_without ts exact ws b there m.without tree best in
    let low = without_low ts exact ws b there m.without best in
    let high = without_high ts exact ws b there m.without e.total best economy.total in
    record {
      bidder = is_its;
      found = found;
      written = written;
      left_out = leaves_out ts exact ws b there m.witness tree found.attained.feasible found.attained.meets;
      without = without;
      difference = difference;
      vickrey = (e.total, m.without, economy.total, without, difference);
      low = omega (arith, ints, difference, high);
      high = omega (arith, ints, difference, low, few);
    }
