use Rattle.std.proofs.Common.{sym, ◌∙◌}
use Rattle.ice_audit.proofs.Judged.{settlement_misnumbered}
use Rattle.ice_audit.proofs.settlements.Settlements.state_settlement.Goals as goal

pub returns-then-not-follows : goal.returns-then-not-follows
returns-then-not-follows c = settlement_misnumbered c.args.self.now c.requires.kept c.args.number c.requires.next (sym c.follows.ensures ∙ c.if-not-follows.true)
