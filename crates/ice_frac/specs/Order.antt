-- The order of two fractions.
use Rattle.std.specs.Prelude.{pos, ◌*ℤ◌}
use Rattle.std.specs.Ordering.{int_cmp}
use Rattle.std.specs.declared.cmp.Ordering.{Ordering}
use Rattle.ice_defs.specs.Fraction.{Fraction}

-- that of the numerators over the product of the denominators
abbrev pub order_of : Fraction → Fraction → Ordering
order_of a b = int_cmp (a.num *ℤ pos b.den) (b.num *ℤ pos a.den)
