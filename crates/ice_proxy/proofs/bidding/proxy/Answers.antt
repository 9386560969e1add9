use Rattle.std.proofs.Common.{◌≡◌, ℕ, [], length, sym, subst, rules, arith, below_more, to_z, of_z}
use mir.Syntax.{w64}
use mir.Val.{SFits}
use Rattle.std.proofs.lemmas.Int.{to_z-of_z}
use Rattle.ice_defs.specs.Bounds.{Bounds}
use Rattle.ice_defs.specs.Lawful.{AreBounds}
use Rattle.ice_proxy.specs.Proposals.{proposal, IsAcceptable}
use Rattle.ice_proxy.specs.Bidders.{bidder_at}
use Rattle.ice_proxy.specs.Laws.{IsAround}
use Rattle.ice_proxy.proofs.Proposals.{proposal_is_around}
use Rattle.ice_proxy.proofs.Attempts.{last_acceptable}
use Rattle.ice_proxy.proofs.bidding.proxy.Goals as goal

pub returns-in-Some-clause-bounds : goal.returns-in-Some-clause-bounds
returns-in-Some-clause-bounds c = (c.in-Some.ensures []).0

pub returns-in-Some-clause-attempt : goal.returns-in-Some-clause-attempt
returns-in-Some-clause-attempt c = λ name.
    let fits : SFits w64 c.args.improve = search rules in
    let back : to_z w64 (of_z w64 c.args.improve) ≡ c.args.improve = to_z-of_z w64 c.args.improve fits in
    record {
      most = omega (arith, c.loop-attempt-test.true);
      accepted = subst (λ z. IsAcceptable c.args.at.now.prices.now z (bidder_at name c.args.at.now) (proposal c.args.at.now.bounds.now c.args.truth.now c.loop-attempt.attempt)) back (c.in-Some.ensures name).1;
      least = λ earlier h. subst (λ z. ¬ IsAcceptable c.args.at.now.prices.now z (bidder_at name c.args.at.now) (proposal c.args.at.now.bounds.now c.args.truth.now earlier)) back (c.loop-attempt.invariant name earlier h);
    }

pub returns-in-Some-clause-around : goal.returns-in-Some-clause-around
returns-in-Some-clause-around c =
    let are : AreBounds (length c.args.at.now.tree.now) c.args.at.now.bounds.now = subst (λ n. AreBounds n c.args.at.now.bounds.now) c.requires.nodes c.len-nodes.ensures.bounds in
    subst (λ (b : Bounds). IsAround (length c.args.at.now.tree.now) c.args.at.now.bounds.now c.args.truth.now b) (sym (c.in-Some.ensures []).0)
    (proposal_is_around (length c.args.at.now.tree.now) c.args.at.now.bounds.now c.args.truth.now c.loop-attempt.attempt are c.requires.inside)

pub loop-attempt-preserved : goal.loop-attempt-preserved
loop-attempt-preserved c = λ name.
    below_more (λ (earlier : ℕ). ¬ IsAcceptable c.args.at.now.prices.now (to_z w64 (of_z w64 c.args.improve)) (bidder_at name c.args.at.now) (proposal c.args.at.now.bounds.now c.args.truth.now earlier))
    c.loop-attempt.attempt (λ earlier h. c.loop-attempt.invariant name earlier h) (c.in_default.ensures name)

pub returns-clause-attempt : goal.returns-clause-attempt
returns-clause-attempt c = λ name.
    let fits : SFits w64 c.args.improve = search rules in
    let back : to_z w64 (of_z w64 c.args.improve) ≡ c.args.improve = to_z-of_z w64 c.args.improve fits in
    let are : AreBounds (length c.args.at.now.tree.now) c.args.at.now.bounds.now = subst (λ n. AreBounds n c.args.at.now.bounds.now) c.requires.nodes c.len-nodes.ensures.bounds in
    record {
      most = omega arith;
      accepted = last_acceptable c.args.at.now.prices.now c.args.improve (bidder_at name c.args.at.now) c.args.truth.now c.requires.satisfied are c.requires.inside;
      least = λ earlier h. subst (λ z. ¬ IsAcceptable c.args.at.now.prices.now z (bidder_at name c.args.at.now) (proposal c.args.at.now.bounds.now c.args.truth.now earlier)) back (c.loop-attempt.invariant name earlier (omega (arith, h, c.loop-attempt-test.false)));
    }
