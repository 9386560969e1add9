use Rattle.ice_audit.proofs.Stepping.{offered_broken}
use Rattle.ice_audit.proofs.settlements.Settlements.state_offered.Goals as goal

pub returns-in-Some : goal.returns-in-Some
returns-in-Some c = offered_broken c.args.self.now c.args.set.now c.in-Some.rule c.requires.next c.in-Some.ensures
