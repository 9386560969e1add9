use Rattle.std.proofs.Common.{rules, ◌≡◌, None, IsTrue, sym, ◌∙◌, subst}
use Rattle.ice_defs.specs.Name.{is_name}
use Rattle.ice_defs.specs.Exchange.{names_of}
use Rattle.ice_trade.specs.Parts.{IsUnfinished}
use Rattle.ice_trade.proofs.Unfinished.{unlawful_absent}
use Rattle.ice_trade.proofs.maker.ExchangeMaker.find_bidder.Goals as goal

pub returns-in_err-new : goal.returns-in_err-new
returns-in_err-new c =
    let is : IsUnfinished c.args.self.now = subst IsUnfinished c.self.view_is c.self.invariant.unfinished in
    let unlawful : ¬ IsTrue (is_name c.args.name.now) = search rules in
    let none : c.from_residual.result ≡ None = search rules in
    none ∙ sym (unlawful_absent c.args.name.now (names_of c.args.self.now) is.bidders_named unlawful)
