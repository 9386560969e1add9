use Rattle.std.proofs.Common.{sym, subst}
use Rattle.ice_journal.specs.Lines.{record_of}
use Rattle.ice_journal.specs.Records.{Record}
use Rattle.ice_journal.specs.Records as line
use Rattle.ice_journal.specs.Ranges.{IsRecord}
use Rattle.ice_check_offer.specs.Offers.{trade_of}
use Rattle.ice_check_offer.specs.Taking.{GoesOn}
use Rattle.ice_check_offer.proofs.Listed.{balance_other, balance_taken}
use Rattle.ice_check_offer.proofs.offer.Offer.take_balance.Goals as goal

pub returns-in_default : goal.returns-in_default
returns-in_default c =
    let at = c.args.at.now in
    balance_other at.exchange.now at.number c.args.self.now c.requires.stands.place c.requires.passed (record_of c.args.line.now) c.requires.no_row c.in_default.ensures

pub returns : goal.returns
returns c =
    let at = c.args.at.now in
    let o = c.args.self.now in
    subst (λ (r : Record). GoesOn at.exchange.now at.number o r c.begin_list.new.self) (sym c.in-Some.ensures)
    (subst (GoesOn at.exchange.now at.number o (line.balance c.in-Some.den)) (sym c.begin_list.ensures.same)
    (balance_taken at.exchange.now at.number o c.requires.stands.place c.requires.passed c.in-Some.den c.begin_list.new.self.tally (subst IsRecord c.in-Some.ensures c.requires.lawful)
    (c.begin_list.ensures.none (trade_of at.exchange.now o) c.goods-goods.ensures.lawful.goods_count.1) c.requires.stands.kept))
