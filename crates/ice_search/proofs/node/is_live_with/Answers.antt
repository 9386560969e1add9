use Rattle.std.proofs.Common.{sym}
use Rattle.ice_search.proofs.Splitting.{live_there, same_back}
use Rattle.ice_search.proofs.node.is_live_with.Goals as goal

pub returns-clause-yes : goal.returns-clause-yes
returns-clause-yes c is =
    live_there c.args.kept.now.trees c.mark.new.self.trees c.mark.new.self.marks _ c.mark.ensures.trees c.mark.ensures.marks (c.is_live-live.ensures.yes is)

pub returns-clause-no : goal.returns-clause-no
returns-clause-no c isnt live =
    c.is_live-live.ensures.no isnt (live_there c.mark.new.self.trees c.args.kept.now.trees _ c.mark.new.self.marks (sym c.mark.ensures.trees) (sym c.mark.ensures.marks) live)

pub returns-clause-same : goal.returns-clause-same
returns-clause-same c =
    same_back c.args.kept.now c.mark.new.self c.mark-2.new.self c.args.candidate.bidder c.args.candidate.node c.args.mark c.requires.fit c.requires.free
    c.mark.ensures.trees c.mark.ensures.weights c.mark.ensures.marks c.mark.ensures.multipliers c.mark.ensures.exact
    c.mark-2.ensures.trees c.mark-2.ensures.weights c.mark-2.ensures.marks c.mark-2.ensures.multipliers c.mark-2.ensures.exact
