use Rattle.std.proofs.Common.{refl}
use Rattle.ice_subgradient.proofs.Stepping.{still_live, same_again}
use Rattle.ice_subgradient.proofs.polishing.repeat.Goals as goal

pub loop-numbers-init : goal.loop-numbers-init
loop-numbers-init c = record { side = record { trees = refl; weights = refl; marks = refl; exact = refl }; polished = c.begin-least.ensures }

pub go_on-requires-clause-live : goal.go_on-requires-clause-live
go_on-requires-clause-live c = still_live c.args.kept.now c.loop-numbers.kept c.loop-numbers.invariant.side c.requires.live

pub loop-numbers-preserved : goal.loop-numbers-preserved
loop-numbers-preserved c =
    let i = c.loop-numbers.invariant in
    record {
      side = same_again c.args.kept.now c.loop-numbers.kept c.go_on.new.kept i.side c.go_on.ensures.side;
      polished = c.go_on.ensures.polished c.args.kept.now c.args.incumbent.now i.side i.polished;
    }
