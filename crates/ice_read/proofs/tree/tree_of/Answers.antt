use Rattle.std.proofs.Common.{◌≡◌, ◌∙◌, true, [], sym, ap, rules, arith, max, length}
use Rattle.std.proofs.lemmas.Grind.{common_steps}
use Rattle.std.proofs.lemmas.Result.{err_from_is_err_and}
use Rattle.serde_json.specs.View.{view}
use Rattle.ice_defs.specs.Lawful.{good_names}
use Rattle.ice_defs.specs.Making.{is_complete}
use Rattle.ice_tree.specs.Making.{Making}
use Rattle.ice_read.specs.Reading.{node_below}
use Rattle.ice_read.proofs.Trees.{tree_at-node, complete, limited}
use Rattle.ice_read.proofs.tree.tree_of.Goals as goal

pub returns-in_err-take_node-clause-reading : goal.returns-in_err-take_node-clause-reading
returns-in_err-take_node-clause-reading c =
    let p = err_from_is_err_and c.from_residual.result c.from_residual.ensures.1 in
    let goods = good_names c.args.exchange.now in
    rw (p.1, p.2) (λ path. tree_at-node goods path (view c.args.value.now) ∙ ap (λ (m : Making). node_below goods m.draft path (view c.args.value.now)) (sym c.new-maker.ensures) ∙ c.in_err-take_node.ensures.refused path)

pub unreachable-requires : goal.unreachable-requires
unreachable-requires c =
    let goods = good_names c.args.exchange.now in
    let read = ap (λ (m : Making). node_below goods m.draft [] (view c.args.value.now)) (sym c.new-maker.ensures) ∙ c.in_ok-take_node.ensures.taken [] in
    let closed = ap (λ (m : Making). m.draft.opened) c.in_ok-take_node.ensures.same ∙ ap (λ (m : Making). m.draft.opened) c.new-maker.ensures in
    let whole : is_complete c.take_node.new.maker.draft ≡ true = complete goods [] (view c.args.value.now) c.take_node.new.maker.draft read closed in
    search (rules, c.in_default.ensures.complete, whole)

pub returns-clause-reading : goal.returns-clause-reading
returns-clause-reading c = λ path.
    let goods = good_names c.args.exchange.now in
    tree_at-node goods path (view c.args.value.now) ∙ ap (λ (m : Making). node_below goods m.draft path (view c.args.value.now)) (sym c.new-maker.ensures) ∙ c.in_ok-take_node.ensures.taken path
    ∙ rw (c.in-Ok.ensures.made.0, c.in-Ok.ensures.made.1)

pub returns-clause-tree : goal.returns-clause-tree
returns-clause-tree c =
    let goods = good_names c.args.exchange.now in
    let read = ap (λ (m : Making). node_below goods m.draft [] (view c.args.value.now)) (sym c.new-maker.ensures) ∙ c.in_ok-take_node.ensures.taken [] in
    let counts = ap (λ (m : Making). m.goods) c.in_ok-take_node.ensures.same ∙ ap (λ (m : Making). m.goods) c.new-maker.ensures in
    let count : c.max.result ≡ max 1 (length c.args.exchange.now.goods) = grind (arith, common_steps) in
    limited c.args.exchange.now.goods [] (view c.args.value.now) c.take_node.new.maker.draft c.take_node.new.maker.goods _ read (counts ∙ count) c.in-Ok.ensures.tree
