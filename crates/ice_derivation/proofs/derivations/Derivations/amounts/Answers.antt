use Rattle.std.proofs.Common.{◌+◌, ◌∙◌, ℕ, List, ap, sym, subst, inr}
use Rattle.std.proofs.lemmas.Bool.{true≢false}
use Rattle.ice_defs.specs.Set.{Weights}
use Rattle.ice_defs.specs.Trade.{weights_of}
use Rattle.ice_refute.specs.Waiting.{nodes_of}
use Rattle.ice_refute.proofs.NodeCounts.{same_nodes}
use Rattle.ice_derivation.specs.Numbers.{changed, NamesNone}
use Rattle.ice_derivation.proofs.Numbers.{length-changed}
use Rattle.ice_derivation.proofs.Rows.{nodes_of-set}
use Rattle.ice_derivation.proofs.Standing.{named_kept}
use Rattle.ice_derivation.proofs.derivations.Derivations.amounts.Goals as goal

pub put_amounts-requires-clause-nodes : goal.put_amounts-requires-clause-nodes
put_amounts-requires-clause-nodes c named =
    let d = c.args.self.now in
    let there = subst (λ (n : ℕ). NamesNone n c.args.numbers.now) (same_nodes d.amounts c.args.trees.now c.args.bidder c.requires.kept.of.amounts) named in
    true≢false (sym (c.names_no_node.ensures.1 (inr there)) ∙ c.if-names_no_node.false)

pub returns-clause-kept : goal.returns-clause-kept
returns-clause-kept c =
    let d = c.args.self.now in
    let b = c.args.bidder in
    let row = weights_of d.amounts b in
    named_kept c.args.trees.now d c.put_amounts.new.amounts b (b + 1) (c.takes_amounts.ensures.0 c.if-not-takes_amounts.false)
    (ap (λ (ws : List Weights). nodes_of ws) c.put_amounts.ensures ∙ nodes_of-set d.amounts b (changed row c.args.numbers.now) (length-changed row c.args.numbers.now) ∙ c.requires.kept.of.amounts)
    c.requires.kept
