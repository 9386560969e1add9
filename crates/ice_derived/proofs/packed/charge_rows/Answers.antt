use Rattle.std.proofs.Common.{ℕ, suc, ◌+◌, ◌<◌, ◌≡◌, length, sum, take, drop, set, get_or, [], ℤ, pos, ◌+ℤ◌, ◌*ℤ◌, arith, rules, ap, sym, ◌∙◌, subst, below_more, to_z, of_z}
use Rattle.std.proofs.lemmas.List.{get_or_default, get_or-take, get_or-drop, get_or-set_same, get_or-set_other, map-set, set-get_or, length-map}
use mir.Syntax.{w128}
use Rattle.ice_defs.specs.Set.{Weights, weight_of}
use Rattle.ice_defs.specs.Trade.{weights_of}
use Rattle.ice_refute.specs.Waiting.{nodes_of}
use Rattle.ice_derived.specs.Charges.{IsCharge}
use Rattle.ice_derived.proofs.Rows.{start_more}
use Rattle.ice_derived.proofs.packed.charge_rows.Goals as goal

more : {a b x y : ℤ} (t : ℤ) → a ≡ b → x ≡ y → a +ℤ (t *ℤ x) ≡ b +ℤ (t *ℤ y)
more t e d = cc

pub charge_row-requires-clause-small : goal.charge_row-requires-clause-small
charge_row-requires-clause-small c =
    let b = c.loop-bidder.bidder in
    let i = c.loop-bidder.invariant in
    let rows = c.loop-bidder.rows.items in
    let same : to_z w128 (of_z w128 c.args.times) ≡ c.args.times = search rules in
    let inside : c.loop-bidder.bidder < length c.loop-bidder.rows.items = omega (arith, length-map rows (λ (w : Weights). length w), ap length i.nodes) in
    let row : c.index_mut.result.now ≡ weights_of c.args.rows.now.items c.loop-bidder.bidder = c.index_mut.ensures.value ∙ get_or_default rows b c.index_mut.result.now [] inside ∙ i.left b (omega arith) in
    rw (c.part-row.ensures, same)
    (λ n l.
    let amount : weight_of (take (get_or c.args.nodes.now b 0) (drop c.loop-bidder.from c.args.amounts.now)) n ≡ weight_of c.args.amounts.now (sum (take b c.args.nodes.now) + n)
    = get_or-take (get_or c.args.nodes.now b 0) (drop c.loop-bidder.from c.args.amounts.now) n (pos 0) l ∙ get_or-drop c.loop-bidder.from c.args.amounts.now n (pos 0) ∙ ap (λ k. weight_of c.args.amounts.now (k + n)) i.from in
    subst IsCharge (sym (more c.args.times (ap (λ (w : Weights). weight_of w n) row) amount)) (c.requires.small b n (omega arith) l))

pub loop-bidder-preserved : goal.loop-bidder-preserved
loop-bidder-preserved c =
    let b = c.loop-bidder.bidder in
    let i = c.loop-bidder.invariant in
    let rows = c.loop-bidder.rows.items in
    let nodes = c.args.nodes.now in
    let there : c.loop-bidder.bidder < length c.args.nodes.now = omega arith in
    let inside : c.loop-bidder.bidder < length c.loop-bidder.rows.items = omega (arith, length-map rows (λ (w : Weights). length w), ap length i.nodes) in
    let row : c.index_mut.result.now ≡ weights_of c.args.rows.now.items c.loop-bidder.bidder = c.index_mut.ensures.value ∙ get_or_default rows b c.index_mut.result.now [] inside ∙ i.left b (omega arith) in
    let next : c.loop-bidder.bidder + 1 ≡ suc c.loop-bidder.bidder = omega arith in
    let each = rw c.part-row.ensures at c.charge_row.ensures.each in
    record {
      from = ap (λ k. k + get_or nodes b 0) i.from ∙ sym (start_more nodes b there) ∙ sym (ap (λ k. sum (take k nodes)) next);
      nodes = map-set (λ (w : Weights). length w) rows b c.charge_row.new.row ∙ ap (λ n. set (nodes_of rows) b n) c.charge_row.ensures.nodes
          ∙ ap (λ ns. set ns b (get_or nodes b 0)) i.nodes ∙ set-get_or nodes b 0;
      done = λ k n h l. below_more (λ k. (n : ℕ) → n < get_or nodes k 0
          → weight_of (weights_of (set rows b c.charge_row.new.row) k) n ≡ weight_of (weights_of c.args.rows.now.items k) n +ℤ (to_z w128 (of_z w128 c.args.times) *ℤ weight_of c.args.amounts.now (sum (take k nodes) + n))) b
          (λ j g m o. ap (λ (w : Weights). weight_of w m) (get_or-set_other rows b j c.charge_row.new.row [] (omega arith)) ∙ i.done j m g o)
          (λ m o.
          let amount : weight_of (take (get_or c.args.nodes.now b 0) (drop c.loop-bidder.from c.args.amounts.now)) m ≡ weight_of c.args.amounts.now (sum (take b c.args.nodes.now) + m)
          = get_or-take (get_or c.args.nodes.now b 0) (drop c.loop-bidder.from c.args.amounts.now) m (pos 0) o ∙ get_or-drop c.loop-bidder.from c.args.amounts.now m (pos 0) ∙ ap (λ k. weight_of c.args.amounts.now (k + m)) i.from in
          ap (λ (w : Weights). weight_of w m) (get_or-set_same rows b c.charge_row.new.row [] inside)
          ∙ each m o ∙ more (to_z w128 (of_z w128 c.args.times)) (ap (λ (w : Weights). weight_of w m) row) amount)
          k h n l;
      left = λ k h. get_or-set_other rows b k c.charge_row.new.row [] (omega arith) ∙ i.left k (omega arith);
    }

pub returns-clause-each : goal.returns-clause-each
returns-clause-each c =
    let same : to_z w128 (of_z w128 c.args.times) ≡ c.args.times = search rules in
    λ b n h l. c.loop-bidder.invariant.done b n (omega arith) l
    ∙ ap (λ t. weight_of (weights_of c.args.rows.now.items b) n +ℤ (t *ℤ weight_of c.args.amounts.now (sum (take b c.args.nodes.now) + n))) same
