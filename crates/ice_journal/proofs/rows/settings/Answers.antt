use Rattle.std.proofs.Common.{rules}
use Rattle.ice_journal.proofs.rows.settings.Goals as goal

pub returns : goal.returns
returns c = (search rules, search rules)
