use Rattle.std.proofs.Common.{sym, ◌∙◌}
use Rattle.ice_audit.proofs.Paying.{payment_misnamed}
use Rattle.ice_audit.proofs.settlements.Settlements.state_payment.Goals as goal

pub returns-then-not-has_name : goal.returns-then-not-has_name
returns-then-not-has_name c =
    payment_misnamed c.args.self.now c.requires.kept c.args.cut.now c.args.discount.now c.args.payment.now c.args.name.now c.args.vickrey c.requires.next (sym c.has_name.ensures ∙ c.if-not-has_name.true)
