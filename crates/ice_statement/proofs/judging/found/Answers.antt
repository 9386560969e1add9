use Rattle.std.proofs.Common.{◌∙◌}
use Rattle.ice_statement.proofs.Judged.{yes_checks, has_statement, has_no_bidder}
use Rattle.ice_statement.proofs.judging.found.Goals as goal

pub returns-then-has_bidder : goal.returns-then-has_bidder
returns-then-has_bidder c = λ journal is session answers.
    has_statement c.args.bytes.now c.args.name.now journal is session (yes_checks journal c.args.answer c.in_default.not-No answers) (c.has_bidder.ensures journal is ∙ c.if-has_bidder.true)

pub returns-else-has_bidder : goal.returns-else-has_bidder
returns-else-has_bidder c = λ journal is session answers.
    has_no_bidder c.args.name.now journal session (yes_checks journal c.args.answer c.in_default.not-No answers) (c.has_bidder.ensures journal is ∙ c.if-has_bidder.false)
