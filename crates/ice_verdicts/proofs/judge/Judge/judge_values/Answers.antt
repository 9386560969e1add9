use Rattle.std.proofs.Common.{◌≡◌, ℤ, List, length, sym, ◌∙◌, ap, subst, rules, to_z, of_z}
use Rattle.std.proofs.lemmas.Int.{to_z-of_z}
use mir.Syntax.{w64}
use mir.Val.{SFits}
use Rattle.ice_defs.specs.Tree.{Tree}
use Rattle.ice_defs.specs.Set.{NodeSet}
use Rattle.ice_defs.specs.Trade.{Assignment, tree_of, set_of}
use Rattle.ice_defs.specs.Bounds.{Bounds, bounds_of}
use Rattle.ice_defs.specs.Prices.{Prices}
use Rattle.ice_defs.specs.Exchange.{trees_of}
use Rattle.ice_defs.specs.Judging.{IsJudged}
use Rattle.ice_rules.specs.Verdicts.{verdict_of}
use Rattle.ice_verdicts.proofs.Accepting.{count_lengths}
use Rattle.ice_verdicts.proofs.judge.Judge.judge_values.Goals as goal

pub judge-requires-clause-lo_nodes : goal.judge-requires-clause-lo_nodes
judge-requires-clause-lo_nodes c =
    ap length c.lo.ensures.values ∙ (count_lengths (tree_of (trees_of c.args.exchange.now) c.args.bidder) c.args.bid.now c.requires.nodes).0 ∙ sym (ap length c.tree.ensures)

pub judge-requires-clause-hi_nodes : goal.judge-requires-clause-hi_nodes
judge-requires-clause-hi_nodes c =
    ap length c.hi.ensures.values ∙ (count_lengths (tree_of (trees_of c.args.exchange.now) c.args.bidder) c.args.bid.now c.requires.nodes).1 ∙ sym (ap length c.tree.ensures)

pub returns-clause-judged : goal.returns-clause-judged
returns-clause-judged c =
    let fits : SFits w64 c.improve_of-improve.result = search rules in
    let back : to_z w64 (of_z w64 c.improve_of-improve.result) ≡ c.improve_of-improve.result = to_z-of_z w64 c.improve_of-improve.result fits in
    let set = c.of.ensures ∙ ap (λ (sets : Assignment). set_of sets c.args.bidder) c.sets.ensures in
    let old = c.bounds_of.ensures ∙ ap (λ (bounds : List Bounds). bounds_of bounds c.args.bidder) c.bounds.ensures in
    subst (λ (x : Tree × Prices × ℤ × NodeSet × Bounds × Bounds). IsJudged x.0 x.1 x.2 x.3 x.4 x.5 (verdict_of c.judge.result))
    (λ i. (c.tree.ensures i, c.prices.ensures i, (back ∙ c.improve_of-improve.ensures) i, set i, old i, record { lo = c.lo.ensures.values i; hi = c.hi.ensures.values i }))
    c.judge.ensures.judged
