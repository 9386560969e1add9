use Rattle.std.proofs.Common.{◌≡◌, ◌∙◌, None, List, ℤ, length, sym, ap, subst}
use Rattle.ice_defs.specs.Bounds.{Bounds}
use Rattle.ice_defs.specs.Lawful.{AreBounds}
use Rattle.ice_tree.specs.Bounds.{bounds_refusal}
use Rattle.ice_proxy.specs.Proposals.{proposed_lo, proposed_hi, proposal}
use Rattle.ice_proxy.specs.Laws.{IsAround}
use Rattle.ice_proxy.proofs.Proposals.{both_same, proposal_unrefused, proposal_is_around}
use Rattle.ice_proxy.proofs.proposal.propose.Goals as goal

pub unreachable-requires : goal.unreachable-requires
unreachable-requires c =
    let lo : c.deref.result.now ≡ proposed_lo c.args.attempt c.args.old.now.lo c.args.truth.now = c.deref.ensures.0 ∙ c.lower_values-lo.ensures in
    let hi : c.deref-2.result.now ≡ proposed_hi c.args.attempt c.args.old.now.hi c.args.truth.now = c.deref-2.ensures.0 ∙ c.upper_values-hi.ensures in
    let are : AreBounds (length c.args.tree.now) c.args.old.now = subst (λ n. AreBounds n c.args.old.now) c.requires.nodes c.len-nodes.ensures.bounds in
    let fine : bounds_refusal (length c.args.tree.now) c.deref.result.now c.deref-2.result.now ≡ None =
    ap (λ (los : List ℤ). bounds_refusal (length c.args.tree.now) los c.deref-2.result.now) lo
    ∙ ap (λ (his : List ℤ). bounds_refusal (length c.args.tree.now) (proposed_lo c.args.attempt c.args.old.now.lo c.args.truth.now) his) hi
    ∙ proposal_unrefused (length c.args.tree.now) c.args.old.now c.args.truth.now c.args.attempt are c.requires.inside in
    let due = c.in_default.ensures.refused in
    cc (fine, due)

pub returns-clause-around : goal.returns-clause-around
returns-clause-around c =
    let are : AreBounds (length c.args.tree.now) c.args.old.now = subst (λ n. AreBounds n c.args.old.now) c.requires.nodes c.len-nodes.ensures.bounds in
    let new : Bounds = record { lo = c.deref.result.now; hi = c.deref-2.result.now } in
    let is : c.in-Ok.new ≡ proposal c.args.old.now c.args.truth.now c.args.attempt =
    c.in-Ok.ensures.made
    ∙ both_same (record { lo = c.deref.result.now; hi = c.deref-2.result.now }) (proposal c.args.old.now c.args.truth.now c.args.attempt) (c.deref.ensures.0 ∙ c.lower_values-lo.ensures)
    (c.deref-2.ensures.0 ∙ c.upper_values-hi.ensures) in
    subst (λ (b : Bounds). IsAround (length c.args.tree.now) c.args.old.now c.args.truth.now b) (sym is)
    (proposal_is_around (length c.args.tree.now) c.args.old.now c.args.truth.now c.args.attempt are c.requires.inside)
