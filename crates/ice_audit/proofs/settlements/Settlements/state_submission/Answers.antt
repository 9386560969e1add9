use Rattle.std.proofs.Common.{sym, ◌∙◌}
use Rattle.ice_audit.proofs.Judged.{submission_misnamed}
use Rattle.ice_audit.proofs.settlements.Settlements.state_submission.Goals as goal

pub returns-then-not-has_name : goal.returns-then-not-has_name
returns-then-not-has_name c = submission_misnamed c.args.self.now c.requires.kept _ c.requires.next (sym c.has_name.ensures ∙ c.if-not-has_name.true)
