use Rattle.ice_audit.proofs.Paying.{cut_negative, surplus_negative, cut_taken}
use Rattle.ice_audit.proofs.settlements.Settlements.state_cut.Goals as goal

pub returns-then-is_negative : goal.returns-then-is_negative
returns-then-is_negative c = cut_negative c.args.self.now c.requires.kept c.args.cut.now c.args.surplus.now c.requires.next (c.is_negative.ensures.yes c.if-is_negative.true)

pub returns-then-is_negative-2 : goal.returns-then-is_negative-2
returns-then-is_negative-2 c = surplus_negative c.args.self.now c.requires.kept c.args.cut.now c.args.surplus.now c.requires.next (c.is_negative-2.ensures.yes c.if-is_negative-2.true)

pub returns : goal.returns
returns c =
    cut_taken c.args.self.now c.requires.kept c.args.cut.now c.args.surplus.now c.requires.next (c.is_negative.ensures.no c.if-is_negative.false) (c.is_negative-2.ensures.no c.if-is_negative-2.false)
    c.requires.den
