use Rattle.std.proofs.Common.{◌≡◌, subst, eq-eqb, arith}
use Rattle.std.specs.Int.{IsGcd}
use Rattle.std.proofs.lemmas.Bool.Decides.{nat_tests}
use Rattle.std.proofs.lemmas.Nat.Gcd.{IsGcd-from_mod, IsGcd-from_zero, same_from_IsGcd}
use Rattle.ice_journal.proofs.fractions.are_coprime.Goals as goal

pub loop-low-preserved : goal.loop-low-preserved
loop-low-preserved c = λ g h. c.loop-low.invariant g (IsGcd-from_mod c.loop-low.high c.loop-low.low g h)

pub returns : goal.returns
returns c =
    let last = c.loop-low.invariant c.loop-low.high (IsGcd-from_zero c.loop-low.high c.loop-low.low (omega arith)) in (
      λ e. let same : c.loop-low.high ≡ 1 = grind (arith, nat_tests) in subst (IsGcd c.args.a c.args.b) same last,
      λ h. eq-eqb c.loop-low.high 1 (same_from_IsGcd c.args.a c.args.b c.loop-low.high 1 last h),
    )
