use Rattle.std.proofs.Common.{sym, subst}
use Rattle.ice_defs.specs.declared.Group.{Group}
use Rattle.ice_check_records.specs.Groups.{HasOpen}
use Rattle.ice_check_records.specs.Taking.{LeavesGroup}
use Rattle.ice_check_records.proofs.Logged.{final_left}
use Rattle.ice_check_records.proofs.groups.Groups.complete.Goals as goal

pub returns-in-Final : goal.returns-in-Final
returns-in-Final c =
    let g = c.args.self.now in
    subst (λ (group : Group). LeavesGroup group g c.keep_final.new.self) (sym c.in-Final.is) (final_left g c.keep_final.new.self (subst (HasOpen g) c.in-Final.is c.requires.opened) c.keep_final.ensures)
