use Rattle.std.proofs.Common.{subst}
use Rattle.std.specs.Prelude.{Some}
use Rattle.ice_defs.specs.Tree.{Tree}
use Rattle.ice_check_offer.specs.Broken.{IsBroken}
use Rattle.ice_check_records.proofs.Grouped.{broken_set}
use Rattle.ice_check_records.proofs.groups.Groups.put_if_satisfied.Goals as goal

pub returns-in-Some : goal.returns-in-Some
returns-in-Some c =
    let x = c.args.set.now in
    let y = c.in-Some.rule in
    broken_set c.args.group c.args.self.now x y c.requires.ready.1 (subst (λ (t : Tree). IsBroken t x (Some y)) c.tree.ensures c.in-Some.ensures)
