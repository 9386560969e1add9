use Rattle.ice_frac.proofs.Gcd.{IsGcd-gcd}
use Rattle.ice_frac.proofs.laws.common_divisors_are_greatest.Goals as goal

pub returns : goal.returns
returns c = IsGcd-gcd
