use Rattle.ice_tree.proofs.Children.{parent_of-inside}
use Rattle.ice_tree.proofs.tree.Tree.parent.Goals as goal

pub returns-clause-inside : goal.returns-clause-inside
returns-clause-inside c = rw (c.deref.ensures.0, ← c.self.view_is) (parent_of-inside c.self.inside.nodes.items c.args.node c.self.invariant.tree.tree (rw (← c.self.view_is) at c.requires))
