use Rattle.std.proofs.Common.{◌∙◌, ap, None, []}
use Rattle.ice_round.specs.Kept.{session_at}
use Rattle.ice_round.proofs.Halting.{halted_by}
use Rattle.ice_round.proofs.session.Session.stop.Goals as goal

pub returns : goal.returns
returns c =
    halted_by (session_at c.args.self) c.halt.result c.args.best None [] c.halt.ensures.best c.halt.ensures.regret c.halt.ensures.provisional
    (ap (λ v. v.items) c.halt.ensures.marginals ∙ c.new-none.ensures.items) c.halt.ensures.session c.args.end c.requires
