use Rattle.std.proofs.Common.{List, map, replicate, length, sym, ◌∙◌, subst, ap}
use Rattle.ice_defs.specs.declared.Mark.TheVariants.{Free}
use Rattle.ice_defs.specs.Tree.{Tree}
use Rattle.ice_defs.specs.Exchange.{trees_of}
use Rattle.ice_defs.specs.Conditions.{AreFixingsOf}
use Rattle.ice_bound.proofs.Fixings.{free_fixings}
use Rattle.ice_test_session.proofs.markets.free.Goals as goal

pub returns : goal.returns
returns c =
    subst (AreFixingsOf (trees_of c.args.exchange.now)) (sym (c.in_ok-marks.ensures ∙ ap (λ (ts : List Tree). map (λ (t : Tree). replicate (length t) Free) ts) c.trees.ensures.value))
    (free_fixings (trees_of c.args.exchange.now))
