-- The two searches of a regret: where one is spent, there were fewer branches than both could use.
use Rattle.std.proofs.Common.{inl, inr, arith}
use Rattle.ice_defs.specs.Weighing.{lower_weights, perturbed_weights}
use Rattle.ice_defs.specs.declared.Group.TheVariants.{Final, Rival}
use Rattle.ice_session_laws.specs.BranchLaws.{SpentRegretHasFew}
use Rattle.ice_session_laws.proofs.BranchLogs.{group_log_is_short}

pub spent_regret_has_few : SpentRegretHasFew
spent_regret_has_few ex bounds (inl (spent, is)) =
    omega (arith, group_log_is_short ex (lower_weights bounds) spent.bound Final spent.log is.spent.passes, is.branches)
spent_regret_has_few ex bounds (inr (left, final, spent, found, count, is)) =
    omega (
      arith,
      group_log_is_short ex (lower_weights bounds) final.value Final final.log found.found.passes,
      count,
      group_log_is_short ex (perturbed_weights final.best bounds) spent.bound Rival spent.log is.spent.passes,
      is.branches,
    )
