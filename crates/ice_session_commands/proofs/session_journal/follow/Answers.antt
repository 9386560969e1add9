use Rattle.std.proofs.Common.{[], ◌∙◌, sym}
use Rattle.ice_session_commands.proofs.session_journal.follow.Goals as goal

pub close-requires-clause-running : goal.close-requires-clause-running
close-requires-clause-running g c = c.requires.running

pub close-requires-clause-found : goal.close-requires-clause-found
close-requires-clause-found g c = ([], c.requires.found)

pub close-requires-clause-closes : goal.close-requires-clause-closes
close-requires-clause-closes g c = sym c.closes.ensures ∙ c.if-closes.true

pub returns-then-closes : goal.returns-then-closes
returns-then-closes g c = c.close.ensures [] c.requires.found

pub go_on-requires-clause-running : goal.go_on-requires-clause-running
go_on-requires-clause-running g c = c.requires.running

pub go_on-requires-clause-found : goal.go_on-requires-clause-found
go_on-requires-clause-found g c = c.requires.found

pub go_on-requires-clause-goes_on : goal.go_on-requires-clause-goes_on
go_on-requires-clause-goes_on g c = sym c.closes.ensures ∙ c.if-closes.false

pub returns : goal.returns
returns g c = c.go_on.ensures
