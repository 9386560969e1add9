use Rattle.std.proofs.Common.{◌≡◌, ◌∙◌, ◌+◌, [], length, subst, Ok, Err, refl, sym, ap, arith}
use Rattle.std.specs.Prelude.{codes, decimal}
use Rattle.std.proofs.lemmas.Result.{err_from_is_err_and, IfOk-weaker, IfErr-weaker}
use Rattle.serde_json.specs.View.{view, items_view}
use Rattle.ice_defs.specs.Lawful.{good_names}
use Rattle.ice_tree.specs.Making.{Making, all_but_first}
use Rattle.ice_tree.specs.Fault.{tree_fault_number}
use Rattle.ice_read.specs.declared.cause.ReadCause.TheVariants.{Shape, Tree}
use Rattle.ice_read.specs.Values.{at_member, at_index}
use Rattle.ice_read.specs.TreeFile.{node_at}
use Rattle.ice_read.specs.Reading.{made_so_far, levels_below}
use Rattle.ice_read.proofs.PlacesOfFaults.{refused, fault_below}
use Rattle.ice_read.proofs.Nodes.{IsGoing, child_read, same_levels, buys, sells, has_no_form, not_opened, next_child, bad_child, no_more_child, begun, waiting_child, with_child, stopped, finished, not_finished}
use Rattle.ice_read.proofs.tree.+take_node.Goals as goal

pub returns-then-is_buy-clause-taken : goal.returns-then-is_buy-clause-taken
returns-then-is_buy-clause-taken t c = IfOk-weaker c.take_leaf.result _ _ (λ x h path. buys (good_names c.args.exchange.now) c.args.maker.now.draft path (view c.args.value.now) c.if-is_buy.ensures ∙ h path) c.take_leaf.ensures.taken

pub returns-then-is_buy-clause-refused : goal.returns-then-is_buy-clause-refused
returns-then-is_buy-clause-refused t c = IfErr-weaker c.take_leaf.result _ _ (λ x h path. buys (good_names c.args.exchange.now) c.args.maker.now.draft path (view c.args.value.now) c.if-is_buy.ensures ∙ h path) c.take_leaf.ensures.refused

pub returns-then-is_sell-clause-taken : goal.returns-then-is_sell-clause-taken
returns-then-is_sell-clause-taken t c =
    IfOk-weaker c.take_leaf-then-is_sell.result _ _ (λ x h path. sells (good_names c.args.exchange.now) c.args.maker.now.draft path (view c.args.value.now) c.if-is_buy.ensures c.if-is_sell.ensures ∙ h path) c.take_leaf-then-is_sell.ensures.taken

pub returns-then-is_sell-clause-refused : goal.returns-then-is_sell-clause-refused
returns-then-is_sell-clause-refused t c =
    IfErr-weaker c.take_leaf-then-is_sell.result _ _ (λ x h path. sells (good_names c.args.exchange.now) c.args.maker.now.draft path (view c.args.value.now) c.if-is_buy.ensures c.if-is_sell.ensures ∙ h path) c.take_leaf-then-is_sell.ensures.refused

pub returns-then-not-is_choose-clause-refused : goal.returns-then-not-is_choose-clause-refused
returns-then-not-is_choose-clause-refused t c = λ path.
    has_no_form (good_names c.args.exchange.now) c.args.maker.now.draft path (view c.args.value.now) c.if-is_buy.ensures c.if-is_sell.ensures c.if-not-is_choose.ensures
    ∙ refused 2 Shape c.of.result c.of.ensures refl path

pub returns-in_err-items-clause-refused : goal.returns-in_err-items-clause-refused
returns-in_err-items-clause-refused t c =
    let p = err_from_is_err_and c.from_residual.result c.from_residual.ensures.1 in
    rw (p.1, p.2) (λ path. not_opened (good_names c.args.exchange.now) c.args.maker.now.draft path (view c.args.value.now) c.if-is_buy.ensures c.if-is_sell.ensures c.if-not-is_choose.ensures _ (c.in_err-items.ensures.refused (good_names c.args.exchange.now) path))

pub loop-index-init : goal.loop-index-init
loop-index-init t c =
    let same = c.in_ok-items.ensures.same in
    let opened = ap (λ (m : Making). m.draft.opened) same in
    record {
      going = begun (good_names c.args.exchange.now) c.args.maker.now.draft c.open_choose.new.maker.draft c.in_ok-items.ensures.opened.0 _ [] (view c.args.value.now) c.requires.waiting (c.in_ok-items.ensures.opened.1 (good_names c.args.exchange.now) []) opened c.in_ok-items.ensures.shallow;
      same = same;
      rest = λ path. refl;
    }

pub take_node-requires : goal.take_node-requires
take_node-requires t c =
    let goods = ap (λ (m : Making). m.goods) c.loop-index.invariant.same ∙ c.requires.goods in
    let waiting = waiting_child c.args.maker.now.draft c.open_choose.new.maker.draft c.loop-index.maker.draft c.loop-index.index c.loop-index.invariant.going in
    let g = c.loop-index.invariant.going in
    let one_more = ap length g.opened in
    (omega (arith, one_more, g.deep), (goods, waiting))

pub overflow_cast-index : goal.overflow_cast-index
overflow_cast-index t c =
    let g = c.loop-index.invariant.going in
    omega (arith, g.added.longer, g.added.few g.few)

pub returns-in-Err-clause-refused : goal.returns-in-Err-clause-refused
returns-in-Err-clause-refused t c = λ path.
    let goods = good_names c.args.exchange.now in
    let old = c.args.maker.now.draft in
    let made = c.open_choose.new.maker.draft in
    let now = c.loop-index.maker.draft in
    let vs = c.deref-item-items.result.now in
    let i = c.loop-index.index in
    let g = c.loop-index.invariant.going in
    let opened = ap (λ (m : Making). m.draft.opened) c.in_ok-items.ensures.same in
    let interval = c.in_ok-items.ensures.opened.0 in
    let start = c.in_ok-items.ensures.opened.1 goods path ∙ ap (λ xs. Ok (record { interval = interval; items = items_view xs; made = made_so_far made })) (sym c.deref-item-items.ensures.value) in
    let inside = at_index (at_member path (codes "of")) i in
    let read = child_read goods old made now i g opened inside (view c.item-item.result) ∙ c.in-Err.ensures.refused inside in
    let child = bad_child (node_at goods (levels_below made) (length old.tree)) (at_member path (codes "of")) vs i (made_so_far now) c.item-item.result _ (omega arith) (sym c.item-item.is) read in
    stopped goods old made now interval vs path (view c.args.value.now) c.if-is_buy.ensures c.if-is_sell.ensures c.if-not-is_choose.ensures start i g _ (c.loop-index.invariant.rest (at_member path (codes "of")) ∙ child)
    ∙ ap Err (fault_below (decimal i) c.in-Err.fault c.at.result c.at.ensures.fault (at_member path (codes "of")) ∙ fault_below (codes "of") c.at.result c.under.result c.under.ensures path)

pub returns-in-Err-clause-short : goal.returns-in-Err-clause-short
returns-in-Err-clause-short t c =
    let g = c.loop-index.invariant.going in
    let opened = ap (λ (m : Making). m.draft.opened) c.in_ok-items.ensures.same in
    let same = same_levels c.args.maker.now.draft c.open_choose.new.maker.draft c.loop-index.maker.draft c.loop-index.index g opened in
    let outer : length c.under.result.place ≡ 3 + length c.at.result.place = rw c.under.ensures (omega arith) in
    omega (arith, g.levels, same, outer, c.in-Err.ensures.short, c.at.ensures.short)

pub loop-index-preserved : goal.loop-index-preserved
loop-index-preserved t c =
    let goods = good_names c.args.exchange.now in
    let old = c.args.maker.now.draft in
    let made = c.open_choose.new.maker.draft in
    let now = c.loop-index.maker.draft in
    let after = c.take_node.new.maker.draft in
    let vs = c.deref-item-items.result.now in
    let i = c.loop-index.index in
    let g = c.loop-index.invariant.going in
    let opened = ap (λ (m : Making). m.draft.opened) c.in_ok-items.ensures.same in
    record {
      going = with_child goods old made now after i [] (view c.item-item.result) g (ap (λ (m : Making). m.draft.opened) c.in_default.ensures.same) (c.in_default.ensures.taken []);
      same = c.in_default.ensures.same ∙ ap (λ (m : Making). record { goods = m.goods; draft = record after { opened = m.draft.opened } }) c.loop-index.invariant.same;
      rest = λ path.
          let read = child_read goods old made now i g opened (at_index path i) (view c.item-item.result) ∙ c.in_default.ensures.taken (at_index path i) in
          c.loop-index.invariant.rest path ∙ next_child (node_at goods (levels_below made) (length old.tree)) path vs i (made_so_far now) c.item-item.result (made_so_far after) (omega arith) (sym c.item-item.is) read;
    }

pub returns-in-Ok-clause-taken : goal.returns-in-Ok-clause-taken
returns-in-Ok-clause-taken t c = λ path.
    let goods = good_names c.args.exchange.now in
    let old = c.args.maker.now.draft in
    let made = c.open_choose.new.maker.draft in
    let now = c.loop-index.maker.draft in
    let vs = c.deref-item-items.result.now in
    let i = c.loop-index.index in
    let all : i ≡ length vs = omega arith in
    let g = subst (IsGoing old made now) all c.loop-index.invariant.going in
    let interval = c.in_ok-items.ensures.opened.0 in
    let start = c.in_ok-items.ensures.opened.1 goods path ∙ ap (λ xs. Ok (record { interval = interval; items = items_view xs; made = made_so_far made })) (sym c.deref-item-items.ensures.value) in
    let rest = c.loop-index.invariant.rest (at_member path (codes "of")) ∙ no_more_child (node_at goods (levels_below made) (length old.tree)) (at_member path (codes "of")) vs i (made_so_far now) (omega arith) in
    finished goods old made now interval vs path (view c.args.value.now) c.if-is_buy.ensures c.if-is_sell.ensures c.if-not-is_choose.ensures start c.requires.waiting g rest c.in-Ok.ensures.refused
    ∙ ap (λ (m : Making). Ok (made_so_far m.draft)) (sym c.in-Ok.ensures.made)

pub returns-in-Ok-clause-same : goal.returns-in-Ok-clause-same
returns-in-Ok-clause-same t c =
    let now = c.loop-index.maker.draft in
    c.in-Ok.ensures.made
    ∙ ap (λ (m : Making). record { goods = m.goods; draft = record now { opened = all_but_first m.draft.opened } }) c.loop-index.invariant.same
    ∙ ap (λ (m : Making). record { goods = c.args.maker.now.goods; draft = record m.draft { opened = c.args.maker.now.draft.opened } }) (sym c.in-Ok.ensures.made)

pub returns-in-Err-close-clause-refused : goal.returns-in-Err-close-clause-refused
returns-in-Err-close-clause-refused t c = λ path.
    let goods = good_names c.args.exchange.now in
    let old = c.args.maker.now.draft in
    let made = c.open_choose.new.maker.draft in
    let now = c.loop-index.maker.draft in
    let vs = c.deref-item-items.result.now in
    let i = c.loop-index.index in
    let all : i ≡ length vs = omega arith in
    let g = subst (IsGoing old made now) all c.loop-index.invariant.going in
    let interval = c.in_ok-items.ensures.opened.0 in
    let start = c.in_ok-items.ensures.opened.1 goods path ∙ ap (λ xs. Ok (record { interval = interval; items = items_view xs; made = made_so_far made })) (sym c.deref-item-items.ensures.value) in
    let rest = c.loop-index.invariant.rest (at_member path (codes "of")) ∙ no_more_child (node_at goods (levels_below made) (length old.tree)) (at_member path (codes "of")) vs i (made_so_far now) (omega arith) in
    not_finished goods old made now interval vs path (view c.args.value.now) c.if-is_buy.ensures c.if-is_sell.ensures c.if-not-is_choose.ensures start c.requires.waiting g rest (tree_fault_number c.in-Err-close.fault) c.in-Err-close.ensures.refused
    ∙ refused (tree_fault_number c.in-Err-close.fault) (Tree c.in-Err-close.fault) c.of-in-Err-close.result c.of-in-Err-close.ensures refl path
