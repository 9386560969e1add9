use Rattle.std.proofs.Common.{◌∙◌}
use Rattle.ice_frac.proofs.Gcd.{gcd_step, gcd-zero}
use Rattle.ice_frac.proofs.euclid.short_divisor.Goals as goal

pub loop-y-preserved : goal.loop-y-preserved
loop-y-preserved c = gcd_step c.loop-y.x c.loop-y.y ∙ c.loop-y.invariant

pub returns : goal.returns
returns c = cc (gcd-zero c.loop-y.x c.loop-y.y c.loop-y-test.false)
