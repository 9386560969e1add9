use Rattle.std.proofs.Common.{arith, rules, ◌≡◌, ap, refl, not, get_or, to_z, of_z, length, subst}
use mir.Syntax.{w128}
use Rattle.std.proofs.lemmas.Bool.{and_from, and_left, and_right}
use Rattle.ice_defs.specs.Set.{has, weight_of}
use Rattle.ice_best.proofs.Offers.{AreListed, AreListed-none, AreListed-skip, AreListed-offer, AreOffers-listed}
use Rattle.ice_best.proofs.choice.list_offers.Goals as goal
use Rattle.ice_best.proofs.choice.list_offers.Goals.{then-possible-child+then-not-taken-child, else-possible-child, else-possible-child-via-then-possible-child+else-not-taken-child, else-possible-child-via-else-possible-child}

pub loop-child-init : goal.loop-child-init
loop-child-init c = AreListed-none _ _ _ _ c.requires.increasing _

pub loop-child-preserved : goal.loop-child-preserved
loop-child-preserved c =
    let gain = weight_of c.args.gain.now in
    let possible = has c.args.possible.now in
    let taken = has c.args.taken.now in
    let cs = c.args.children.now in
    let i = c.loop-child.child-index in
    let value : to_z w128 (of_z w128 (weight_of c.args.gain.now (get_or c.args.children.now c.loop-child.child-index 0))) ≡ weight_of c.args.gain.now (get_or c.args.children.now c.loop-child.child-index 0) = search rules in
    elim c.if-possible-child.branch [
      | then-possible-child+then-not-taken-child w ↦
          rw (w.offers-is, w.count-is)
          (AreListed-offer gain possible taken cs c.requires.increasing i c.loop-child.count c.loop-child.offers _ (omega arith) (omega arith)
          (and_from _ _ w.if-possible-child.true (ap not w.if-not-taken-child.true)) refl value c.loop-child.invariant)
      | else-possible-child w ↦
          rw (w.offers-is, w.count-is) (AreListed-skip gain possible taken cs c.requires.increasing i c.loop-child.count c.loop-child.offers (omega arith)
          (elim w.else-possible-child.branch [
            | else-possible-child-via-then-possible-child+else-not-taken-child w' ↦ and_right _ _ (ap not w'.if-not-taken-child.false)
            | else-possible-child-via-else-possible-child w' ↦ and_left _ _ w'.if-possible-child.false
          ]) c.loop-child.invariant)
    ]

pub returns-clause-offers : goal.returns-clause-offers
returns-clause-offers c =
    let at_end : c.loop-child.child-index ≡ length c.args.children.now = omega arith in
    AreOffers-listed (weight_of c.args.gain.now) (has c.args.possible.now) (has c.args.taken.now) c.args.children.now c.requires.increasing c.loop-child.count c.loop-child.offers
    (subst (λ n. AreListed (weight_of c.args.gain.now) (has c.args.possible.now) (has c.args.taken.now) c.args.children.now n c.loop-child.count c.loop-child.offers) at_end c.loop-child.invariant)
