use Rattle.std.proofs.Common.{sym, ◌∙◌}
use Rattle.std.proofs.lemmas.Bool.{true≢false}
use Rattle.ice_check_records.proofs.Logged.{log_closes, log_goes_on}
use Rattle.ice_check_records.proofs.groups.Groups.leave.Goals as goal

pub returns-then-is_closed : goal.returns-then-is_closed
returns-then-is_closed c = log_closes c.args.group c.args.self.now c.complete.new.self (c.is_closed.ensures.0 c.if-is_closed.true) c.complete.ensures

pub returns-else-is_closed : goal.returns-else-is_closed
returns-else-is_closed c = log_goes_on c.args.group c.args.self.now c.requires.next c.requires.opened c.requires.kept (λ e. true≢false (sym (c.is_closed.ensures.1 e) ∙ c.if-is_closed.false))
