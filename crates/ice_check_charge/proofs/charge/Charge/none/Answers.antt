use Rattle.std.proofs.Common.{pos, arith}
use Rattle.ice_defs.specs.Fraction.{whole_number}
use Rattle.ice_frac.specs.Lowest.{IsLowest}
use Rattle.ice_frac.proofs.Gcd.{gcd_one}
use Rattle.ice_check_charge.proofs.charge.Charge.none.Goals as goal

pub invariant_of-result : goal.invariant_of-result
invariant_of-result c =
    let lowest : IsLowest (whole_number (pos 0)) = record { num_fits = omega arith; positive = omega arith; den_fits = omega arith; coprime = gcd_one 0 } in
    (lowest, lowest, omega arith)
