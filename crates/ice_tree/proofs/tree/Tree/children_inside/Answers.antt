use Rattle.std.proofs.Common.{◌∙◌, ap, arith}
use Rattle.std.specs.Prelude.{count_by}
use Rattle.std.proofs.lemmas.List.{take_all}
use Rattle.ice_defs.specs.Set.{has}
use Rattle.ice_tree.proofs.Children.{count_by-children_of}
use Rattle.ice_tree.proofs.tree.Tree.children_inside.Goals as goal

pub has-requires : goal.has-requires
has-requires c = omega (arith, c.children-child-items.ensures.inside c.loop-child.child-index 0 (omega arith), c.requires.nodes)

pub returns : goal.returns
returns c =
    c.loop-child.invariant.count_is
    ∙ ap (count_by (has c.args.set.now)) (take_all c.loop-child.child-index c.children-child-items.result.now (omega arith) ∙ c.children-child-items.ensures.value)
    ∙ count_by-children_of c.args.self.now c.args.set.now c.args.node
