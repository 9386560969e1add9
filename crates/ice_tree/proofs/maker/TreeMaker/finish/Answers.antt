use Rattle.std.proofs.Common.{◌∙◌, sym}
use Rattle.ice_tree.proofs.Drafting.{IsLimitedTree-from_making, IsLimitedTree-more, parts_of_complete}
use Rattle.ice_tree.proofs.maker.TreeMaker.finish.Goals as goal

pub of-requires : goal.of-requires
of-requires c =
    let parts = parts_of_complete c.self.inside.rows.nodes.items c.self.inside.rows.lo.items c.self.inside.rows.hi.items c.self.inside.path.items
    (rw (← c.self.view_is) at (sym c.is_complete.ensures ∙ c.if-not-is_complete.false)) in
    IsLimitedTree-more c.self.inside.goods 32 _ c.self.invariant.few_goods (IsLimitedTree-from_making _ _ _ _ _ _ c.self.invariant parts.1 parts.0)
