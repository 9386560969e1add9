-- Sets and logs that may be written.
use Rattle.std.specs.Prelude.{ℕ, ◌≤◌, List, length}
use Rattle.std.specs.List.{AllByRecursion}
use Rattle.ice_defs.specs.Trade.{Assignment}
use Rattle.ice_defs.specs.Steps.{Step}
use Rattle.ice_refute.specs.Code.{CountsGoods}
use Rattle.ice_journal.specs.Ranges.{IsBits, IsStepRecord}

-- sets of at most 40 bidders, and a log whose leaves have a multiplier for each of at most 32
-- goods; all numbers are in the ranges of their records
pub record AreWritable (goods : ℕ) (sets : Assignment) (log : List Step) : Type 0 where
  pub few_bidders : length sets ≤ 40
  pub few_goods : goods ≤ 32
  pub bits : AllByRecursion IsBits sets
  pub counts : AllByRecursion (CountsGoods goods) log
  pub steps : AllByRecursion IsStepRecord log
