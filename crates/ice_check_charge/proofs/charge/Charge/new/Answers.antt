use Rattle.std.proofs.Common.{arith}
use Rattle.ice_journal.specs.Lines.{fraction_of}
use Rattle.ice_journal_laws.proofs.Charged.{stated_lowest}
use Rattle.ice_check_charge.proofs.charge.Charge.new.Goals as goal

pub invariant_of-result : goal.invariant_of-result
invariant_of-result c = (stated_lowest (fraction_of c.args.cut) c.requires.cut, stated_lowest (fraction_of c.args.surplus) c.requires.surplus, omega (arith, c.requires.cut.den.1))
