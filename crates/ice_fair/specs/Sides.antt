-- The two sides of the fairness test, of amounts over their denominators.
use Rattle.std.specs.Prelude.{◌≡◌, ◌+ℤ◌, ◌-ℤ◌, ◌*ℤ◌}
use Rattle.ice_fair.specs.declared.even.Dens.{Dens}
use Rattle.ice_fair.specs.declared.even.Amounts.{Amounts}

-- what is asked for and what the rows weigh at the violation on
-- one side, what is paid and what the rows are worth less the
-- greatest gap on the other
abbrev pub AreEven : Dens → Amounts → Type 0
AreEven d a = (d.cut *ℤ (d.prices *ℤ a.cost)) +ℤ (d.cut *ℤ (a.violation *ℤ a.weight))
    ≡ ((d.prices *ℤ a.paid) +ℤ (d.cut *ℤ (d.prices *ℤ a.worth))) -ℤ (d.certificate *ℤ a.gap)
