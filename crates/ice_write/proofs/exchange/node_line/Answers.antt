use Rattle.std.proofs.Common.{rules, ◌≤◌, ap, subst, ℕ, length, arith}
use Rattle.std.proofs.lemmas.Int.{to_z-of_z}
use mir.Syntax.{w64}
use mir.Val.{SFits}
use Rattle.ice_defs.specs.Tree.{children_of}
use Rattle.ice_defs.specs.Lawful.{AreBounds}
use Rattle.ice_section.proofs.Describing.{few_children, nodes_are_records}
use Rattle.ice_write.proofs.exchange.node_line.Goals as goal

pub overflow_cast-result : goal.overflow_cast-result
overflow_cast-result c =
    let t = c.args.tree.now in
    let few : length (children_of t c.args.node) ≤ 199 = few_children t c.args.node c.nodes-nodes.ensures.tree.tree.rooted c.nodes-nodes.ensures.tree.count in
    omega (arith, few, ap length c.children.ensures.value)

pub returns-clause-record : goal.returns-clause-record
returns-clause-record c =
    let t = c.args.tree.now in
    let b = c.args.bounds.now in
    let lo_fits : SFits w64 c.lo.result = search rules in
    let hi_fits : SFits w64 c.hi.result = search rules in
    let bounds : AreBounds (length t) b = subst (λ (k : ℕ). AreBounds k b) c.requires.nodes c.len-values.ensures.bounds in
    rw (to_z-of_z w64 c.lo.result lo_fits, to_z-of_z w64 c.hi.result hi_fits, c.kind.ensures, c.children.ensures.value, c.lo.ensures, c.hi.ensures)
    (nodes_are_records 32 t b (omega arith) c.nodes-nodes.ensures.tree bounds c.args.node c.requires.node)
