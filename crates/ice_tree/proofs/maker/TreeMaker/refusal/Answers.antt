use Rattle.std.proofs.Common.{◌≡◌, ◌∙◌, ap, sym, arith, rules}
use mir.Syntax.{w64}
use mir.Val.{to_z, of_z}
use Rattle.ice_tree.specs.Making.{Making}
use Rattle.ice_tree.proofs.Drafting.{draft_refusal-unfinished}
use Rattle.ice_tree.proofs.maker.TreeMaker.refusal.Goals as goal

pub returns : goal.returns
returns c =
    let same_lo : to_z w64 (of_z w64 c.args.lo) ≡ c.args.lo = search rules in
    let same_hi : to_z w64 (of_z w64 c.args.hi) ≡ c.args.hi = search rules in
    rw (same_lo, same_hi) at c.node_refusal.ensures
    ∙ draft_refusal-unfinished _ _ _ _ c.args.self.now.draft c.args.kind c.args.lo c.args.hi (sym c.is_complete.ensures ∙ c.if-is_complete.false)
    (ap (λ (m : Making). m.goods) c.self.view_is) c.nodes.ensures.value (omega (arith, c.open_nodes.ensures.value))
