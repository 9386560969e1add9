use Rattle.std.proofs.Common.{◌≡◌, ◌∙◌, length, Option, sym, ap, subst, rules, to_z, of_z}
use mir.Syntax.{w64}
use mir.Val.{SFits}
use Rattle.std.proofs.lemmas.Int.{to_z-of_z}
use Rattle.std.specs.Prelude.{IfOk}
use Rattle.std.specs.List.{list_all}
use Rattle.ice_defs.specs.Bounds.{Bounds}
use Rattle.ice_defs.specs.Lawful.{AreBounds}
use Rattle.ice_defs.specs.Judging.{IsJudged}
use Rattle.ice_defs.specs.Making.{is_value}
use Rattle.ice_rules.specs.Verdicts.{values, verdict_of}
use Rattle.ice_proxy.specs.Bidders.{bidder_at}
use Rattle.ice_proxy.specs.Proposals.{proposed_lo, proposed_hi, proposal}
use Rattle.ice_proxy.proofs.Proposals.{both_same, proposed_bounds, lower_are_values, upper_are_values}
use Rattle.ice_proxy.proofs.Trying.{IsTried, tried}
use Rattle.ice_proxy.proofs.bidding.try_attempt.Goals as goal

pub judge-requires-clause-lo_nodes : goal.judge-requires-clause-lo_nodes
judge-requires-clause-lo_nodes c =
    let are : AreBounds (length c.args.at.now.tree.now) c.args.at.now.bounds.now = subst (λ n. AreBounds n c.args.at.now.bounds.now) c.requires.nodes c.len-nodes.ensures.bounds in
    let lo : c.deref.result.now ≡ proposed_lo c.args.attempt c.args.at.now.bounds.now.lo c.args.truth.now = c.deref.ensures.0 ∙ c.lower_values-lo.ensures in
    ap length lo ∙ (proposed_bounds (length c.args.at.now.tree.now) c.args.at.now.bounds.now c.args.truth.now c.args.attempt are c.requires.inside).lo_count

pub judge-requires-clause-hi_nodes : goal.judge-requires-clause-hi_nodes
judge-requires-clause-hi_nodes c =
    let are : AreBounds (length c.args.at.now.tree.now) c.args.at.now.bounds.now = subst (λ n. AreBounds n c.args.at.now.bounds.now) c.requires.nodes c.len-nodes.ensures.bounds in
    let hi : c.deref-2.result.now ≡ proposed_hi c.args.attempt c.args.at.now.bounds.now.hi c.args.truth.now = c.deref-2.ensures.0 ∙ c.upper_values-hi.ensures in
    ap length hi ∙ (proposed_bounds (length c.args.at.now.tree.now) c.args.at.now.bounds.now c.args.truth.now c.args.attempt are c.requires.inside).hi_count

pub judge-requires-clause-lo_values : goal.judge-requires-clause-lo_values
judge-requires-clause-lo_values c =
    let are : AreBounds (length c.args.at.now.tree.now) c.args.at.now.bounds.now = subst (λ n. AreBounds n c.args.at.now.bounds.now) c.requires.nodes c.len-nodes.ensures.bounds in
    let lo : c.deref.result.now ≡ proposed_lo c.args.attempt c.args.at.now.bounds.now.lo c.args.truth.now = c.deref.ensures.0 ∙ c.lower_values-lo.ensures in
    ap (list_all is_value) lo
    ∙ lower_are_values (length c.args.at.now.tree.now) (proposal c.args.at.now.bounds.now c.args.truth.now c.args.attempt)
    (proposed_bounds (length c.args.at.now.tree.now) c.args.at.now.bounds.now c.args.truth.now c.args.attempt are c.requires.inside)

pub judge-requires-clause-hi_values : goal.judge-requires-clause-hi_values
judge-requires-clause-hi_values c =
    let are : AreBounds (length c.args.at.now.tree.now) c.args.at.now.bounds.now = subst (λ n. AreBounds n c.args.at.now.bounds.now) c.requires.nodes c.len-nodes.ensures.bounds in
    let hi : c.deref-2.result.now ≡ proposed_hi c.args.attempt c.args.at.now.bounds.now.hi c.args.truth.now = c.deref-2.ensures.0 ∙ c.upper_values-hi.ensures in
    ap (list_all is_value) hi
    ∙ upper_are_values (length c.args.at.now.tree.now) (proposal c.args.at.now.bounds.now c.args.truth.now c.args.attempt)
    (proposed_bounds (length c.args.at.now.tree.now) c.args.at.now.bounds.now c.args.truth.now c.args.attempt are c.requires.inside)

pub returns : goal.returns
returns c = λ name.
    let fits : SFits w64 c.args.improve = search rules in
    let back : to_z w64 (of_z w64 c.args.improve) ≡ c.args.improve = to_z-of_z w64 c.args.improve fits in
    let new = proposal c.args.at.now.bounds.now c.args.truth.now c.args.attempt in
    let is : values c.deref.result.now c.deref-2.result.now ≡ new =
    both_same (values c.deref.result.now c.deref-2.result.now) new (c.deref.ensures.0 ∙ c.lower_values-lo.ensures)
    (c.deref-2.ensures.0 ∙ c.upper_values-hi.ensures) in
    let judged = subst (λ z. IsJudged c.args.at.now.tree.now c.args.at.now.prices.now z c.args.at.now.set.now c.args.at.now.bounds.now new (verdict_of c.judge.result)) back
    (subst (λ (b : Bounds). IsJudged c.args.at.now.tree.now c.args.at.now.prices.now (to_z w64 (of_z w64 c.args.improve)) c.args.at.now.set.now c.args.at.now.bounds.now b (verdict_of c.judge.result)) is c.judge.ensures.judged) in
    let same = subst (λ (b : Bounds). IfOk c.judge.result (λ made. made ≡ b)) is c.judge.ensures.accepted in
    subst (λ (found : Option Bounds). IsTried c.args.at.now.prices.now c.args.improve (bidder_at name c.args.at.now) new found) (sym c.ok.ensures.value)
    (tried c.args.at.now.prices.now c.args.improve (bidder_at name c.args.at.now) new c.judge.result judged same)
