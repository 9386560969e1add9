use Rattle.std.proofs.Common.{ℕ, ◌<◌, pos, ◌-ℤ◌, get_or}
use Rattle.ice_defs.specs.Fraction.{whole_number, AtMost}
use Rattle.ice_journal.specs.Lines.{fraction_of}
use Rattle.ice_check_charge.proofs.amounts.is_reached.Given as goal

abbrev pub invariant-loop-without : goal.invariant-loop-without
invariant-loop-without l = (k : ℕ) → k < l.without-index → ¬ AtMost (fraction_of l.cut) (whole_number (l.total -ℤ get_or l.withouts k (pos 0)))
