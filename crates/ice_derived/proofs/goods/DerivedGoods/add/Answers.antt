use Rattle.std.proofs.Common.{◌≡◌, ◌++◌, rules, subst, to_z, of_z}
use mir.Syntax.{w128}
use Rattle.ice_defs.specs.Steps.{Side, leaf}
use Rattle.ice_defs.specs.Derived.{Derived, with_derived}
use Rattle.ice_refute.specs.Passing.{PassesAtBy}
use Rattle.ice_derived.proofs.Fitting.{amounts_are_weights}
use Rattle.ice_derived.proofs.Following.{leaf_follows}
use Rattle.ice_derived.proofs.goods.DerivedGoods.add.Goals as goal

pub judge_leaf-requires-clause-weights : goal.judge_leaf-requires-clause-weights
judge_leaf-requires-clause-weights c = amounts_are_weights c.args.trees.now c.args.amounts.now c.requires.amounts c.bidders-bidders.ensures.range

pub returns-clause-ok : goal.returns-clause-ok
returns-clause-ok c =
    let d : Derived = record { amounts = c.args.amounts.now; limit = c.args.limit } in
    let same : to_z w128 (of_z w128 c.from-target.result) ≡ c.args.limit = search rules in
    let pass = rw same at c.in_ok-judge_leaf.ensures.ok in
    leaf_follows c.args.trees.now c.args.room.now c.args.self.now.goods d (c.args.m.now ++ c.args.self.now.tolls)
    (subst (λ (side : Side). PassesAtBy (with_derived c.args.self.now.goods) c.args.trees.now c.args.room.now c.args.amounts.now c.args.limit side (leaf (c.args.m.now ++ c.args.self.now.tolls))) c.requires.free pass)
