use Rattle.std.proofs.Common.{◌≡◌, ◌<◌, ◌∙◌, ◌+◌, arith, ap, sym, subst, length, [], rules, refl}
use Rattle.std.proofs.lemmas.Int.{to_z-of_z}
use Rattle.ice_defs.specs.Conditions.{AreFixingsOf}
use Rattle.std.proofs.Common.{to_z, of_z}
use mir.Syntax.{w128}
use Rattle.ice_defs.specs.Exchange.{trees_of, exact_of}
use Rattle.ice_refute.specs.Waiting.{nodes_of}
use Rattle.ice_refute.proofs.NodeCounts.{fixings_of_nodes, nodes_of-free}
use Rattle.ice_tolled_search.specs.Pass.{IsWhole}
use Rattle.ice_tolled_search.proofs.Growing.{Grows, nodes_of_fixings, grows_begun, grows_turn, grows_idle, grown_whole, turn_length, idle_length}
use Rattle.ice_tolled_search.proofs.pass.pass.Goals as goal

pub loop-trees-init : goal.loop-trees-init
loop-trees-init c =
    let ts = c.trees-trees.result.now in
    record {
      shown = refl;
      same = record { goods = c.clear_tolls.ensures.goods; nodes = c.clear_tolls.ensures.nodes; most = c.clear_tolls.ensures.most };
      exact = c.in_ok-desk.ensures.exact ∙ c.exact.ensures;
      desk = fixings_of_nodes ts c.in_ok-desk.desk.marks (ap nodes_of c.in_ok-desk.ensures.marks ∙ nodes_of-free ts);
      marks = fixings_of_nodes ts c.in_ok-marks.marks (ap nodes_of c.in_ok-marks.ensures ∙ nodes_of-free ts);
      nodes = c.begin.ensures.nodes ∙ c.in_ok-walk.ensures.nodes;
      used = 0;
      grows = grows_begun c.args.stated.now.goods.goods ts (exact_of c.args.exchange.now) c.args.weights.now (to_z w128 (of_z w128 c.args.value)) c.args.start.now
          c.new-log.result c.begin.new.self.sides c.new-log.ensures c.begin.ensures.side;
      left = omega arith;
    }

pub look-bound-requires-clause-marks : goal.look-bound-requires-clause-marks
look-bound-requires-clause-marks c = fixings_of_nodes c.trees-trees.result.now c.side.result.now (c.side.ensures.nodes ∙ c.loop-trees.invariant.nodes)

pub begin-requires-clause-nodes : goal.begin-requires-clause-nodes
begin-requires-clause-nodes c =
    nodes_of_fixings (trees_of c.args.exchange.now) c.args.start.now c.requires.start ∙ ap nodes_of (sym c.trees-trees.ensures.value) ∙ sym c.in_ok-walk.ensures.nodes

pub loop-trees-preserved-then-branch : goal.loop-trees-preserved-then-branch
loop-trees-preserved-then-branch c =
    let l = c.loop-trees.invariant in
    let same = c.put_tolls.ensures.same in
    let goods : c.put_tolls.new.stated.goods.goods ≡ c.args.stated.now.goods.goods = same.goods ∙ l.same.goods in
    record {
      shown = c.put_tolls.ensures.shown ∙ l.shown;
      same = record { goods = goods; nodes = same.nodes ∙ l.same.nodes; most = same.most ∙ l.same.most };
      exact = l.exact;
      desk = l.desk;
      marks = l.marks;
      nodes = c.close_tolled.ensures.nodes ∙ l.nodes;
      used = l.used + 0;
      grows = grows_turn c.args.stated.now.goods.goods c.trees-trees.result.now (exact_of c.args.exchange.now) c.args.weights.now (to_z w128 (of_z w128 c.args.value)) c.args.start.now c.put_tolls.new.stated.goods.goods c.loop-trees.desk.room c.loop-trees.log c.loop-trees.walk.sides l.used 0 c.close_tolled.new.walk.sides c.close_tolled.new.log c.in_ok-close_tolled.field-0 goods l.exact c.if-branch.true l.grows c.in_ok-close_tolled.ensures.turn;
      left = omega (arith, l.left);
    }

pub loop-trees-preserved-then-branch-2 : goal.loop-trees-preserved-then-branch-2
loop-trees-preserved-then-branch-2 c =
    let l = c.loop-trees.invariant in
    let same = c.put_tolls.ensures.same in
    let goods : c.put_tolls.new.stated.goods.goods ≡ c.args.stated.now.goods.goods = same.goods ∙ l.same.goods in
    let first = grows_idle c.args.stated.now.goods.goods c.trees-trees.result.now (exact_of c.args.exchange.now) c.args.weights.now (to_z w128 (of_z w128 c.args.value)) c.args.start.now c.put_tolls.new.stated.goods.goods c.loop-trees.desk.room c.loop-trees.log c.loop-trees.walk.sides l.used 0 c.close_tolled.new.walk.sides c.close_tolled.new.log c.in_ok-close_tolled.field-0 c.if-branch.false l.grows c.in_ok-close_tolled.ensures.turn in
    record {
      shown = c.put_tolls.ensures.shown ∙ l.shown;
      same = record { goods = goods; nodes = same.nodes ∙ l.same.nodes; most = same.most ∙ l.same.most };
      exact = c.close_swept.ensures.exact ∙ l.exact;
      desk = subst (AreFixingsOf c.trees-trees.result.now) (sym c.close_swept.ensures.marks) l.desk;
      marks = l.marks;
      nodes = c.close_swept.ensures.nodes ∙ c.close_tolled.ensures.nodes ∙ l.nodes;
      used = l.used + 0;
      grows = grows_turn c.args.stated.now.goods.goods c.trees-trees.result.now (exact_of c.args.exchange.now) c.args.weights.now (to_z w128 (of_z w128 c.args.value)) c.args.start.now c.put_tolls.new.stated.goods.goods c.loop-trees.desk.room c.close_tolled.new.log c.close_tolled.new.walk.sides l.used 0 c.close_swept.new.walk.sides c.close_swept.new.log c.in_ok-close_swept.field-0 goods l.exact c.if-branch-2.true first c.in_ok-close_swept.ensures.turn;
      left = omega (arith, l.left);
    }

pub copy_fixings-requires-clause-few : goal.copy_fixings-requires-clause-few
copy_fixings-requires-clause-few c =
    let nodes = c.side-in-loop-trees.ensures.nodes ∙ c.close_swept.ensures.nodes ∙ c.close_tolled.ensures.nodes ∙ c.loop-trees.invariant.nodes in
    omega (arith, (fixings_of_nodes c.trees-trees.result.now c.side-in-loop-trees.result.now nodes).same_length, ap length c.trees-trees.ensures.value, c.requires.few)

pub copy_fixings-requires-clause-bidders : goal.copy_fixings-requires-clause-bidders
copy_fixings-requires-clause-bidders c =
    let nodes = c.side-in-loop-trees.ensures.nodes ∙ c.close_swept.ensures.nodes ∙ c.close_tolled.ensures.nodes ∙ c.loop-trees.invariant.nodes in
    (fixings_of_nodes c.trees-trees.result.now c.side-in-loop-trees.result.now nodes).same_length ∙ sym c.loop-trees.invariant.marks.same_length

pub copy_fixings-requires-clause-nodes : goal.copy_fixings-requires-clause-nodes
copy_fixings-requires-clause-nodes c b h =
    let nodes = c.side-in-loop-trees.ensures.nodes ∙ c.close_swept.ensures.nodes ∙ c.close_tolled.ensures.nodes ∙ c.loop-trees.invariant.nodes in
    let are = fixings_of_nodes c.trees-trees.result.now c.side-in-loop-trees.result.now nodes in
    let there : b < length c.trees-trees.result.now = omega (arith, h, are.same_length) in
    are.nodes b there ∙ sym (c.loop-trees.invariant.marks.nodes b there)

pub choose-requires-clause-marks : goal.choose-requires-clause-marks
choose-requires-clause-marks c =
    let nodes = c.side-in-loop-trees.ensures.nodes ∙ c.close_swept.ensures.nodes ∙ c.close_tolled.ensures.nodes ∙ c.loop-trees.invariant.nodes in
    subst (AreFixingsOf c.trees-trees.result.now) (sym c.copy_fixings.ensures) (fixings_of_nodes c.trees-trees.result.now c.side-in-loop-trees.result.now nodes)

pub loop-trees-preserved : goal.loop-trees-preserved
loop-trees-preserved c =
    let l = c.loop-trees.invariant in
    let same = c.put_tolls.ensures.same in
    let goods : c.put_tolls.new.stated.goods.goods ≡ c.args.stated.now.goods.goods = same.goods ∙ l.same.goods in
    let first = grows_idle c.args.stated.now.goods.goods c.trees-trees.result.now (exact_of c.args.exchange.now) c.args.weights.now (to_z w128 (of_z w128 c.args.value)) c.args.start.now c.put_tolls.new.stated.goods.goods c.loop-trees.desk.room c.loop-trees.log c.loop-trees.walk.sides l.used 0 c.close_tolled.new.walk.sides c.close_tolled.new.log c.in_ok-close_tolled.field-0 c.if-branch.false l.grows c.in_ok-close_tolled.ensures.turn in
    let second = grows_idle c.args.stated.now.goods.goods c.trees-trees.result.now (exact_of c.args.exchange.now) c.args.weights.now (to_z w128 (of_z w128 c.args.value)) c.args.start.now c.put_tolls.new.stated.goods.goods c.loop-trees.desk.room c.close_tolled.new.log c.close_tolled.new.walk.sides l.used 0 c.close_swept.new.walk.sides c.close_swept.new.log c.in_ok-close_swept.field-0 c.if-branch-2.false first c.in_ok-close_swept.ensures.turn in
    record {
      shown = c.put_tolls.ensures.shown ∙ l.shown;
      same = record { goods = goods; nodes = same.nodes ∙ l.same.nodes; most = same.most ∙ l.same.most };
      exact = c.split.ensures.exact ∙ c.close_swept.ensures.exact ∙ l.exact;
      desk = c.split.ensures.marks;
      marks = c.choose.ensures.marks;
      nodes = c.split.ensures.nodes ∙ c.close_swept.ensures.nodes ∙ c.close_tolled.ensures.nodes ∙ l.nodes;
      used = l.used + 1;
      grows = grows_turn c.args.stated.now.goods.goods c.trees-trees.result.now (exact_of c.args.exchange.now) c.args.weights.now (to_z w128 (of_z w128 c.args.value)) c.args.start.now c.put_tolls.new.stated.goods.goods c.close_swept.new.desk.room c.close_swept.new.log c.close_swept.new.walk.sides l.used 1 c.split.new.walk.sides c.split.new.log c.in_ok-split.field-0 goods (c.close_swept.ensures.exact ∙ l.exact) c.if-not-branch.false second c.in_ok-split.ensures.turn;
      left = omega (arith, l.left, c.if-left-eq0.false);
    }

pub returns-clause-pass : goal.returns-clause-pass
returns-clause-pass c =
    let l = c.loop-trees.invariant in
    let closed : c.loop-trees.walk.sides ≡ [] = search rules in
    let whole = grown_whole c.args.stated.now.goods.goods c.trees-trees.result.now (exact_of c.args.exchange.now) c.args.weights.now (to_z w128 (of_z w128 c.args.value)) c.args.start.now c.loop-trees.log l.used (subst (λ s. Grows c.args.stated.now.goods.goods c.trees-trees.result.now (exact_of c.args.exchange.now) c.args.weights.now (to_z w128 (of_z w128 c.args.value)) c.args.start.now c.loop-trees.log s l.used) closed l.grows) in
    let ds = c.args.stated.now.goods.goods in (
      subst (λ z. IsWhole ds (trees_of c.args.exchange.now) (exact_of c.args.exchange.now) c.args.weights.now z c.args.start.now c.loop-trees.log) (to_z-of_z w128 c.args.value c.ranges.value)
          (subst (λ t. IsWhole ds t (exact_of c.args.exchange.now) c.args.weights.now (to_z w128 (of_z w128 c.args.value)) c.args.start.now c.loop-trees.log) c.trees-trees.ensures.value whole.0),
      omega (arith, l.left, whole.1),
    )

pub loop-trees-smaller : goal.loop-trees-smaller
loop-trees-smaller c =
    let first = idle_length c.args.stated.now.goods.goods c.trees-trees.result.now (exact_of c.args.exchange.now) c.args.weights.now (to_z w128 (of_z w128 c.args.value)) c.args.start.now c.put_tolls.new.stated.goods.goods c.loop-trees.desk.room c.loop-trees.log c.loop-trees.walk.sides 0 c.close_tolled.new.walk.sides c.close_tolled.new.log c.in_ok-close_tolled.field-0 c.if-branch.false c.in_ok-close_tolled.ensures.turn in
    let second = idle_length c.args.stated.now.goods.goods c.trees-trees.result.now (exact_of c.args.exchange.now) c.args.weights.now (to_z w128 (of_z w128 c.args.value)) c.args.start.now c.put_tolls.new.stated.goods.goods c.loop-trees.desk.room c.close_tolled.new.log c.close_tolled.new.walk.sides 0 c.close_swept.new.walk.sides c.close_swept.new.log c.in_ok-close_swept.field-0 c.if-branch-2.false c.in_ok-close_swept.ensures.turn in
    let third = turn_length c.args.stated.now.goods.goods c.trees-trees.result.now (exact_of c.args.exchange.now) c.args.weights.now (to_z w128 (of_z w128 c.args.value)) c.args.start.now c.put_tolls.new.stated.goods.goods c.close_swept.new.desk.room c.close_swept.new.log c.close_swept.new.walk.sides 1 c.split.new.walk.sides c.split.new.log c.in_ok-split.field-0 c.if-not-branch.false c.in_ok-split.ensures.turn in
    omega (arith, first, second, third, c.if-left-eq0.false)
