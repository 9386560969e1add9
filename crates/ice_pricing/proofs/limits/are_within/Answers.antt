use Rattle.std.proofs.Common.{ℕ, ◌<◌, length, pos, ◌*ℤ◌, ◌≤ℤ◌, refl, arith, rules}
use Rattle.ice_defs.specs.Prices.{price_of}
use Rattle.ice_pricing.proofs.Numerators.{numerators-low}
use Rattle.ice_pricing.proofs.limits.are_within.Goals as goal

pub returns-clause-yes : goal.returns-clause-yes
returns-clause-yes c =
    let high : (g : ℕ) → g < length c.args.prices.now.nums → price_of c.args.prices.now g ≤ℤ (c.args.cap *ℤ pos c.args.prices.now.den) = search rules in
    λ _. record {
      positive = omega (arith, c.nums-num-items.ensures.limits.den.0);
      same_length = refl;
      low = numerators-low c.args.prices.now.nums c.nums-num-items.ensures.limits.each;
      high = high;
    }
