use Rattle.std.proofs.Common.{sym, subst}
use Rattle.std.specs.Prelude.{Ok}
use Rattle.ice_defs.specs.declared.Group.{Group}
use Rattle.ice_check_records.specs.Taking.{are_short, Closes}
use Rattle.ice_check_records.proofs.Grouped.{log_follows}
use Rattle.ice_check_records.proofs.groups.Groups.end_sets.Goals as goal

pub returns-then-not-are_balanced : goal.returns-then-not-are_balanced
returns-then-not-are_balanced c = are_short c.if-not-are_balanced.ensures

pub returns-in-Assign : goal.returns-in-Assign
returns-in-Assign c = subst (λ (group : Group). Closes group c.args.self.now (Ok tt) c.keep_final.new.self) (sym c.in-Assign.is) (c.if-not-are_balanced.ensures, c.keep_final.ensures)

pub returns-in_default : goal.returns-in_default
returns-in_default c = log_follows c.args.group c.args.self.now c.begin_log.result c.begin_log.new.self c.in_default.not-Assign c.if-not-are_balanced.ensures c.begin_log.ensures
