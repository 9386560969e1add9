use Rattle.std.proofs.Common.{refl, ◌∙◌}
use Rattle.ice_subgradient.proofs.Stepping.{still_live, same_again}
use Rattle.ice_subgradient.proofs.polishing.polish.Goals as goal

pub loop-look-init : goal.loop-look-init
loop-look-init c = record {
  side = record { trees = refl; weights = refl; marks = refl; exact = refl };
  polished = c.begin-least.ensures;
  relaxation = c.from-descent.ensures ∙ c.clear.ensures;
}

pub go_on-requires-clause-live : goal.go_on-requires-clause-live
go_on-requires-clause-live c = still_live c.args.kept.now c.loop-look.kept c.loop-look.invariant.side c.requires.live

pub loop-look-preserved : goal.loop-look-preserved
loop-look-preserved c =
    let i = c.loop-look.invariant in
    record {
      side = same_again c.args.kept.now c.loop-look.kept c.go_on.new.kept i.side c.go_on.ensures.side;
      polished = c.go_on.ensures.polished c.args.kept.now c.args.incumbent.now i.side i.polished;
      relaxation = c.go.ensures ∙ i.relaxation;
    }
