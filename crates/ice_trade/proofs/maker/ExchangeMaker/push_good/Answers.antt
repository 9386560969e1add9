use Rattle.std.proofs.Common.{rules, arith, ◌≡◌, None, IsOk}
use Rattle.std.proofs.lemmas.List.{length-map}
use Rattle.ice_defs.specs.Exchange.{Good}
use Rattle.ice_defs.specs.Making.{good_refusal}
use Rattle.ice_trade.proofs.NameLists.{numbered}
use Rattle.ice_trade.proofs.Unfinished.{good_passed, IsUnfinished-good}
use Rattle.ice_trade.proofs.maker.ExchangeMaker.push_good.Goals as goal

pub unwrap-requires : goal.unwrap-requires
unwrap-requires c =
    let was = c.self.invariant.by_good in
    let unrefused : good_refusal c.self.inside.goods c.self.inside.bidders c.args.name ≡ None = search rules in
    let (none, named, new, few) = good_passed c.self.inside.goods c.self.inside.bidders c.args.name unrefused in
    c.insert.ensures.succeeds (omega (arith, length-map c.self.inside.goods (λ (g : Good). g.name), few, was.1))

pub invariant_of-self : goal.invariant_of-self
invariant_of-self c =
    let was = c.self.invariant in
    let good : Good = record { name = c.args.name; exact = c.args.exact } in
    let unrefused : good_refusal c.self.inside.goods c.self.inside.bidders c.args.name ≡ None = search rules in
    let (none, named, new, few) = good_passed c.self.inside.goods c.self.inside.bidders c.args.name unrefused in
    let ok : IsOk c.insert.result = search rules in
    rw c.push.ensures (record {
      unfinished = IsUnfinished-good _ good was.unfinished unrefused;
      by_good = numbered (λ g. g.name) 32 c.self.inside.goods good c.insert.result c.self.inside.good_numbers c.insert.new.self c.copy.result was.by_good c.copy.ensures.copy ok c.insert.ensures.keys c.insert.ensures.spare new;
      by_bidder = was.by_bidder;
    })
