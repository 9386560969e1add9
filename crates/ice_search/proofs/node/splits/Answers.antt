use Rattle.ice_search.proofs.Splitting.{split_of, none_back}
use Rattle.ice_search.proofs.node.splits.Goals as goal

pub returns-clause-yes : goal.returns-clause-yes
returns-clause-yes c is =
    split_of c.args.kept.now c.is_live_with.new.kept c.args.candidate.bidder c.args.candidate.node c.is_live_with.ensures.same (c.is_free.ensures.free.0 c.if-not-is_free.false)
    (c.is_live_with.ensures.yes c.if-not-is_live_with.false) (c.is_live_with-2.ensures.yes is)

pub returns-clause-no : goal.returns-clause-no
returns-clause-no c isnt =
    none_back c.args.kept.now c.is_live_with.new.kept c.args.candidate.bidder c.args.candidate.node c.is_live_with.ensures.same (λ _ _ never. c.is_live_with-2.ensures.no isnt never)
