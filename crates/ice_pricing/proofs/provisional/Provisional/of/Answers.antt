use Rattle.std.proofs.Common.{ℕ, ◌<◌, ◌≤◌, ◌≡◌, ◌∙◌, ap, arith, rules, subst, sym, length, List}
use Rattle.ice_defs.specs.Exchange.{trees_of}
use Rattle.ice_defs.specs.Trade.{tree_of}
use Rattle.ice_defs.specs.Tree.{Tree}
use Rattle.ice_trade.proofs.Weighted.{length-trees}
use Rattle.ice_pricing.proofs.Weighing.{tree-limited}
use Rattle.ice_pricing.proofs.provisional.Provisional.of.Goals as goal

pub invariant_of-result : goal.invariant_of-result
invariant_of-result c =
    let same : c.trees.result.now ≡ trees_of c.args.exchange.now = c.trees.ensures.value in
    let count : length c.trees.result.now ≡ length c.args.exchange.now.bidders = ap length same ∙ length-trees c.args.exchange.now in
    record {
      bidders = (omega (arith, count, c.trees.ensures.lawful.bidders_count.0), omega (arith, count, c.trees.ensures.lawful.bidders_count.1));
      goods_count = search rules;
      cap_low = search rules;
      cap_high = search rules;
      count = c.requires.count ∙ sym count;
      satisfied = search rules;
      nodes = search rules;
      modest = search rules;
      limited = subst (λ (ts : List Tree). (b : ℕ) → b < length ts → length (tree_of ts b) ≤ 200) (sym same) (λ b h. tree-limited c.args.exchange.now b c.trees.ensures.lawful h);
    }
