use Rattle.std.proofs.Common.{◌≡◌, ◌≤◌, List, ℤ, pos, ◌≤ℤ◌, arith, rules, subst, sym, length, to_z, of_z}
use mir.Syntax.{w128}
use borrow.Author.Count.{below_more}
use Rattle.std.proofs.lemmas.Int.{ints}
use Rattle.ice_defs.specs.Fraction.{Fraction, whole_number, AtMost}
use Rattle.ice_defs.specs.Cut.{IsCut}
use Rattle.ice_frac.proofs.Fractions.{AtMost-trans}
use Rattle.ice_threshold.specs.Level.{asked_cut}
use Rattle.ice_threshold.proofs.Levels.{asked_at_most, payable_from_asked}
use Rattle.ice_threshold.proofs.cut.least_cut.Goals as goal

pub loop-at-preserved : goal.loop-at-preserved
loop-at-preserved c =
    let total : ℤ = to_z w128 (of_z w128 c.args.total) in
    let vs : List ℤ = c.args.vickrey.now in
    let before : Fraction = c.loop-at.cut in
    let after : Fraction = c.greater-cut.result in
    let left : AtMost c.loop-at.cut c.greater-cut.result = c.greater-cut.ensures.left in
    let asked : c.asked.result ≡ asked_cut c.args.vickrey.now (to_z w128 (of_z w128 c.args.total)) c.loop-at.at = c.asked.ensures.value in
    let right : AtMost c.asked.result c.greater-cut.result = c.greater-cut.ensures.right in
    record {
      proper = c.greater-cut.ensures.proper;
      low = AtMost-trans (whole_number (pos 0)) before after c.loop-at.invariant.proper c.loop-at.invariant.low left;
      least = λ other pay. c.greater-cut.ensures.least other (c.loop-at.invariant.least other pay) (subst (λ (f : Fraction). AtMost f other) (sym asked) (asked_at_most vs total other pay c.loop-at.at));
      asked = below_more (λ k. AtMost (asked_cut vs total k) after) c.loop-at.at
          (λ k l. AtMost-trans (asked_cut vs total k) before after c.loop-at.invariant.proper (c.loop-at.invariant.asked k l) left)
          (subst (λ (f : Fraction). AtMost f after) asked right);
    }

pub returns : goal.returns
returns c =
    let total : ℤ = to_z w128 (of_z w128 c.args.total) in
    let same : to_z w128 (of_z w128 c.args.total) ≡ c.args.total = search rules in
    let rich : pos 0 ≤ℤ to_z w128 (of_z w128 c.args.total) = omega (arith, ints) in
    let vs : List ℤ = c.args.vickrey.now in
    let cut : Fraction = c.loop-at.cut in
    let ended : length c.args.vickrey.now ≤ c.loop-at.at = search rules in
    subst (λ (t : ℤ). IsCut vs t cut) same (record {
      payable = payable_from_asked vs total cut rich c.loop-at.invariant.proper c.loop-at.invariant.low (λ i l. c.loop-at.invariant.asked i (omega arith));
      least = c.loop-at.invariant.least;
    })
