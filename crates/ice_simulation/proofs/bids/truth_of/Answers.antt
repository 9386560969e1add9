use Rattle.std.proofs.Common.{◌∙◌, sym, ap}
use Rattle.ice_simulation.specs.TruthFile.{truth_in}
use Rattle.ice_simulation.proofs.Telling.{truth_at}
use Rattle.ice_simulation.proofs.bids.truth_of.Goals as goal

pub returns : goal.returns
returns c =
    c.truth_in.ensures ∙ ap (truth_in c.args.truths.now) c.bidder_name.ensures ∙ sym (truth_at c.args.truths.now c.args.exchange.now.bidders c.args.bidder c.requires)
