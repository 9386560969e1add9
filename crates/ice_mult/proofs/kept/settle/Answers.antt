use Rattle.std.proofs.Common.{rules, arith, set, length, ◌≤◌, ap, sym, subst, ◌∙◌}
use Rattle.std.proofs.lemmas.Int.{to_z-of_z}
use mir.Syntax.{w64}
use mir.Val.{SFits}
use Rattle.ice_defs.specs.Conditions.{AreWeightsOf, AreFixingsOf}
use Rattle.ice_bound.proofs.Living.{live_not_dead}
use Rattle.ice_mult.proofs.Settling.{live_at, lowest_at, settled_back}
use Rattle.ice_mult.proofs.kept.settle.Goals as goal

pub invariant_of-moving : goal.invariant_of-moving
invariant_of-moving c =
    let alike = c.is_settled.ensures.moved.1.alike in
    let trees = c.trees.result.now in
    let marks = c.marks.result.now in
    let live =
    live_at c.args.kept.now.trees trees c.args.kept.now.marks marks (c.trees.ensures.value ∙ alike.trees) (c.marks.ensures.value ∙ alike.marks) c.requires.may.live in
    record {
      few = subst (λ t. length t ≤ 40) (sym c.trees.ensures.value) c.trees.ensures.few;
      weighted = subst (λ t. AreWeightsOf t c.weights.result.now) (sym c.trees.ensures.value)
          (subst (AreWeightsOf c.is_settled.new.kept.trees) (sym c.weights.ensures.value) c.weights.ensures.fit);
      marked = subst (λ t. AreFixingsOf t marks) (sym c.trees.ensures.value)
          (subst (AreFixingsOf c.is_settled.new.kept.trees) (sym c.marks.ensures.value) c.marks.ensures.fit);
      live = λ (b, (there, dead)). live_not_dead trees marks b live there dead;
      there = omega (arith, c.requires.may.there, ap length c.multipliers.ensures.value, c.multipliers.ensures.fit.same_length, ap length alike.exact);
    }

pub returns-clause-settled : goal.returns-clause-settled
returns-clause-settled c =
    let number = c.lowest-number.result in
    let fits : SFits w64 number = search rules in
    let old = c.args.kept.now in
    let mid = c.is_settled.new.kept in
    let moved = c.is_settled.ensures.moved in
    let found = c.lowest-number.ensures.lowest in
    settled_back old mid c.args.good moved.0 moved.1 c.put_multiplier.new.self (
      number,
      found.0,
      lowest_at mid.trees c.trees.result.now mid.exact c.args.room.now mid.weights c.weights.result.now mid.marks c.marks.result.now mid.multipliers c.multipliers.result.now c.args.good number
          found.0 c.trees.ensures.value (sym (moved.1.alike.exact ∙ c.requires.exact)) c.weights.ensures.value c.marks.ensures.value c.multipliers.ensures.value found.1,
      record {
        alike = record { trees = c.put_multiplier.ensures.trees; weights = c.put_multiplier.ensures.weights; marks = c.put_multiplier.ensures.marks; exact = c.put_multiplier.ensures.exact };
        multipliers = c.put_multiplier.ensures.multipliers ∙ ap (λ z. set mid.multipliers c.args.good z) (to_z-of_z w64 number fits);
      },
    )
