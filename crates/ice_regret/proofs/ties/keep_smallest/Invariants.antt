use Rattle.std.proofs.Common.{◌≡◌, ◌+◌, ◌⊎◌, pos, ◌+ℤ◌, ◌≤ℤ◌, ◌<ℤ◌}
use Rattle.ice_defs.specs.Steps.{branch_count}
use Rattle.ice_search.specs.Results.{IsFoundBy}
use Rattle.ice_regret.specs.Regretted.{IsRegretOf, lower_search}
use Rattle.ice_regret.proofs.ties.keep_smallest.Given as goal

abbrev pub invariant-loop-try : goal.invariant-loop-try
invariant-loop-try l = record {
  found : IsFoundBy (lower_search l.exchange l.bounds) l.best;
  log : l.best.log ≡ l.fn.best.log;
  value : l.best.value ≡ l.fn.best.value;
  regret : IsRegretOf l.exchange l.bounds l.best.best l.kept;
  branches : l.branches + branch_count l.kept.log ≡ l.before;
  falls : (l.kept.amount +ℤ pos l._try) ≤ℤ l.fn.first.amount;
  changed : (l.best ≡ l.fn.best) ⊎ (l.kept.amount <ℤ l.fn.first.amount);
  unchanged : l.fn.first.amount ≤ℤ l.exchange.settings.close_regret → l.best ≡ l.fn.best;
}
