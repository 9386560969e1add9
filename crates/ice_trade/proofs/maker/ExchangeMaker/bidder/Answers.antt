use Rattle.std.proofs.Common.{rules, arith, ◌≡◌, ◌++◌, ◌∷◌, [], None, IsOk, length, sym, subst}
use Rattle.std.proofs.lemmas.List.{length-map}
use Rattle.ice_defs.specs.Exchange.{Bidder, Exchange}
use Rattle.ice_defs.specs.Lawful.{IsBidder}
use Rattle.ice_defs.specs.Making.{bidder_refusal}
use Rattle.ice_trade.proofs.NameLists.{numbered}
use Rattle.ice_trade.proofs.Unfinished.{bidder_passed, IsUnfinished-bidder}
use Rattle.ice_trade.proofs.maker.ExchangeMaker.bidder.Goals as goal

pub unwrap-requires : goal.unwrap-requires
unwrap-requires c =
    let b : Bidder = record { name = c.args.name.now; own = c.args.own.now; tree = c.args.tree; bounds = c.args.bounds } in
    let unrefused : bidder_refusal (length c.self.inside.goods) c.self.inside.bidders b ≡ None = search rules in
    let (named, new, few, few_nodes, sold) = bidder_passed (length c.self.inside.goods) c.self.inside.bidders b unrefused in
    c.insert.ensures.succeeds (omega (arith, length-map c.self.inside.bidders (λ (x : Bidder). x.name), few, c.self.invariant.by_bidder.1))

pub invariant_of-self : goal.invariant_of-self
invariant_of-self c =
    let was = c.self.invariant in
    let b : Bidder = record { name = c.args.name.now; own = c.args.own.now; tree = c.args.tree; bounds = c.args.bounds } in
    let unrefused : bidder_refusal (length c.self.inside.goods) c.self.inside.bidders b ≡ None = search rules in
    let (named, new, few, few_nodes, sold) = bidder_passed (length c.self.inside.goods) c.self.inside.bidders b unrefused in
    let bidder : IsBidder (length c.self.inside.goods) b = subst (λ (ex : Exchange). IsBidder (length ex.goods) b) (sym c.self.view_is) c.requires in
    let ok : IsOk c.insert.result = search rules in
    let pushed : c.push.new.self ≡ c.self.inside.bidders ++ b ∷ [] = search rules in
    let name : c.copy.result ≡ c.args.name.now = search rules in
    rw pushed (record {
      unfinished = IsUnfinished-bidder _ b was.unfinished bidder unrefused;
      by_good = was.by_good;
      by_bidder = numbered (λ x. x.name) 40 c.self.inside.bidders b c.insert.result c.self.inside.bidder_numbers c.insert.new.self c.copy.result was.by_bidder name ok c.insert.ensures.keys c.insert.ensures.spare new;
    })
