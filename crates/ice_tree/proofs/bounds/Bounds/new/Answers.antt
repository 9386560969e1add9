use Rattle.std.proofs.Common.{◌≡◌, ◌∙◌, true, length, sym, arith}
use Rattle.std.specs.List.{list_all}
use Rattle.ice_defs.specs.Making.{is_value}
use Rattle.ice_tree.proofs.Bounding.{AreBounds-from_tests}
use Rattle.ice_tree.proofs.bounds.Bounds.new.Goals as goal
use Rattle.ice_tree.proofs.bounds.Bounds.new.Goals.{then-lo-nodes, else-lo-nodes, then-are_values, else-are_values}

pub of-requires-clause-bounds : goal.of-requires-clause-bounds
of-requires-clause-bounds c =
    let lo_count : length c.args.lo.now ≡ c.args.nodes = elim c.if-lo-nodes.branch [ then-lo-nodes w ↦ grind arith | else-lo-nodes w ↦ grind arith ] in
    let hi_count : length c.args.hi.now ≡ c.args.nodes = elim c.if-lo-nodes.branch [ then-lo-nodes w ↦ grind arith | else-lo-nodes w ↦ grind arith ] in
    let low : list_all is_value c.args.lo.now ≡ true = elim c.if-are_values.branch [ then-are_values w ↦ grind arith | else-are_values w ↦ grind arith ] in
    let high : list_all is_value c.args.hi.now ≡ true = elim c.if-are_values.branch [ then-are_values w ↦ grind arith | else-are_values w ↦ grind arith ] in
    rw (c.list_of.ensures, c.list_of-2.ensures) (AreBounds-from_tests c.args.lo.now c.args.hi.now (hi_count ∙ sym lo_count) low high (sym c.are_crossed.ensures ∙ c.if-are_crossed.false))
