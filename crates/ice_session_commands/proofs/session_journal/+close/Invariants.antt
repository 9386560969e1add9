use Rattle.std.proofs.Common.{◌-◌, length}
use Rattle.ice_defs.specs.Exchange.{trees_of}
use Rattle.ice_session_commands.proofs.session_journal.+close.Given as goal

abbrev pub decreases-close : goal.decreases-close
decreases-close g l = length (trees_of l.settling.session.exchange) - length l.settling.discounts
