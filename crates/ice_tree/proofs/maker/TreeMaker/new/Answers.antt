use Rattle.ice_tree.proofs.Drafting.{IsMaking-new}
use Rattle.ice_tree.proofs.maker.TreeMaker.new.Goals as goal

pub invariant_of-result : goal.invariant_of-result
invariant_of-result c = rw (c.new.ensures.nodes, c.new.ensures.lo, c.new.ensures.hi, c.new.ensures.children, c.new-2.ensures) (IsMaking-new c.args.goods c.requires.few)
