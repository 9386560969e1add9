-- What is known of a market without each of its bidders.
use Rattle.std.specs.Prelude.{ℕ, suc, ◌+◌, ◌<◌, ◌≡◌, List, [], ◌∷◌, length, sum_by, pos, ◌-ℤ◌, ◌≤ℤ◌}
use Rattle.ice_defs.specs.Trade.{set_of}
use Rattle.ice_defs.specs.Weighing.{lower_weights}
use Rattle.ice_defs.specs.Vickrey.{IsEmpty, IsBestWithout, IsVickrey}
use Rattle.ice_defs.specs.Steps.{branch_count}
use Rattle.ice_defs.specs.declared.Group.TheVariants.{Without}
use Rattle.ice_defs.specs.Group.{start_of, empty_sets}
use Rattle.ice_defs.specs.Session.{Proved}
use Rattle.ice_defs.specs.Searched.{IsFound}
use Rattle.ice_defs.specs.Exchange.{trees_of, exact_of}
use Rattle.ice_search.specs.Results.{AreWritten, IsSpentBy}
use Rattle.ice_search.specs.declared.results.Spent as search
use Rattle.ice_vickrey.specs.Economy.{Economy, without_search}
use Rattle.ice_vickrey.specs.declared.marginal.Marginal.{Marginal}

abbrev pub proved_without : Marginal → Proved
proved_without m = record { value = m.without; sets = m.witness; log = m.log }

-- the best without this bidder, by a log that passes, and the Vickrey discount
pub record IsMarginalOf (e : Economy) (b : ℕ) (m : Marginal) : Type 0 where
  pub bidder : m.bidder ≡ b
  pub found : IsFound (trees_of e.exchange) (exact_of e.exchange) (lower_weights e.bounds)
      (start_of (trees_of e.exchange) (Without b)) (empty_sets (trees_of e.exchange)) (proved_without m)
  pub written : AreWritten (length (exact_of e.exchange)) m.log
  pub left_out : IsEmpty (set_of m.witness b)
  pub without : IsBestWithout (trees_of e.exchange) (exact_of e.exchange) (lower_weights e.bounds) b m.without
  pub difference : m.discount ≡ e.total -ℤ m.without
  pub vickrey : IsVickrey (trees_of e.exchange) (exact_of e.exchange) (lower_weights e.bounds) b m.discount
  pub low : pos 0 ≤ℤ m.discount
  pub high : m.discount ≤ℤ pos 8000000000000

-- those of the bidders in order, from this one on
abbrev pub AreMarginalsFrom : Economy → ℕ → List Marginal → Type 0
AreMarginalsFrom e b [] = Unit {0}
AreMarginalsFrom e b (m ∷ later) = IsMarginalOf e b m × AreMarginalsFrom e (suc b) later

-- how many branch steps their logs have
abbrev pub branches_of : List Marginal → ℕ
branches_of ms = sum_by (λ m. branch_count m.log) ms

-- one for each bidder in order
pub record AreMarginals (e : Economy) (ms : List Marginal) : Type 0 where
  pub count : length ms ≡ length (trees_of e.exchange)
  pub each : AreMarginalsFrom e 0 ms

-- the search without the next bidder spent what the searches before it left
pub record IsSpentWithout (e : Economy) (old : ℕ) (done : List Marginal) (s : search.Spent) : Type 0 where
  pub next : length done < length (trees_of e.exchange)
  pub each : AreMarginalsFrom e 0 done
  pub spent : IsSpentBy (without_search e.exchange e.bounds (length done)) (branch_count s.log) s
  pub branches : branches_of done + branch_count s.log ≡ old
