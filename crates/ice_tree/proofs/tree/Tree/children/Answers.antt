use Rattle.ice_tree.proofs.Children.{children_of-inside}
use Rattle.ice_tree.proofs.tree.Tree.children.Goals as goal

pub returns-clause-inside : goal.returns-clause-inside
returns-clause-inside c =
    rw (c.deref.ensures.0, c.deref-2.ensures.0, c.deref-3.ensures.0, c.self.invariant.are_children c.args.node (rw (← c.self.view_is) at c.requires), ← c.self.view_is)
    (children_of-inside c.self.inside.nodes.items c.args.node)
