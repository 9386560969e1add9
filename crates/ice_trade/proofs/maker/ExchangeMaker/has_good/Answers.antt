use Rattle.std.proofs.Common.{ap, ◌∙◌}
use Rattle.std.specs.List.{list_any}
use Rattle.std.specs.Str.{bytes_eq}
use Rattle.ice_defs.specs.Exchange.{Good, Exchange}
use Rattle.ice_trade.proofs.NameLists.{called_so}
use Rattle.ice_trade.proofs.maker.ExchangeMaker.has_good.Goals as goal

pub returns : goal.returns
returns c =
    let name = c.args.name.now in
    c.contains.ensures ∙ ap (list_any (bytes_eq name)) c.self.invariant.by_good.0 ∙ called_so (λ (x : Good). x.name) name c.self.inside.goods
    ∙ ap (λ (ex : Exchange). list_any (λ other. bytes_eq other.name name) ex.goods) c.self.view_is
