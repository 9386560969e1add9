use Rattle.ice_audit.proofs.Stepping.{kept_broken}
use Rattle.ice_audit.proofs.settlements.Settlements.state_kept.Goals as goal

pub returns-in-Some : goal.returns-in-Some
returns-in-Some c = kept_broken c.args.self.now c.args.regret c.args.set.now c.in-Some.rule c.requires.next c.in-Some.ensures
