use Rattle.std.proofs.Common.{arith, ap, sym, ◌∙◌, length}
use Rattle.ice_mult.proofs.Settling.{live_at}
use Rattle.ice_mult.proofs.kept.sweep_kept.Goals as goal

pub settle-requires-clause-may : goal.settle-requires-clause-may
settle-requires-clause-may c =
    let kept = c.loop-good.kept in
    let alike = c.loop-good.invariant.alike in
    record {
      live = live_at c.args.kept.now.trees kept.trees c.args.kept.now.marks kept.marks alike.trees alike.marks c.requires.live;
      there = omega (arith, c.loop-good-test.true, c.goods-good-end.ensures.value, ap length alike.exact, ap length c.requires.exact);
      fits = omega (arith, c.loop-good-test.true, c.goods-good-end.ensures.fits);
      goods = c.loop-good.invariant.goods ∙ ap length (sym alike.exact);
    }
