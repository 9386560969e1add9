use Rattle.std.proofs.Common.{◌≡◌, ◌∙◌, ap, sym, subst, rules, arith, ℤ, ◌-ℤ◌}
use mir.Syntax.{w128}
use mir.Val.{SFits}
use Rattle.std.proofs.lemmas.Int.{to_z-of_z, ints}
use Rattle.ice_defs.specs.Trade.{MeetsAll, IsBest, total_value}
use Rattle.ice_defs.specs.Group.{free_side}
use Rattle.ice_defs.specs.Searched.{IsFound}
use Rattle.ice_defs.specs.Weighing.{perturbed_weights}
use Rattle.ice_defs.specs.Exchange.{trees_of, exact_of}
use Rattle.ice_defs.specs.Conditions.{AreWeightsOf}
use Rattle.ice_bound.proofs.Modest.{perturbed_modest}
use Rattle.ice_search.specs.Instance.{Instance, IsBestOf, instance_of}
use Rattle.ice_search.specs.Results.{IsFoundBy}
use Rattle.ice_defs.proofs.Starts.{meets_free_side}
use Rattle.ice_regret.specs.Regretted.{rival_search}
use Rattle.ice_regret.proofs.Rivals.{rival_gives_regret}
use Rattle.ice_regret.proofs.rival.regret.Goals as goal

pub new-problem-requires-clause-weights : goal.new-problem-requires-clause-weights
new-problem-requires-clause-weights c =
    subst (AreWeightsOf (trees_of c.args.exchange.now)) (sym c.fill_perturbed.ensures.value) (perturbed_modest c.args.chosen.now (trees_of c.args.exchange.now) c.args.bounds.now c.requires.bounds)

pub new-problem-requires-clause-meets : goal.new-problem-requires-clause-meets
new-problem-requires-clause-meets c =
    let start_is : c.in_ok-start.start ≡ free_side (trees_of c.args.exchange.now) = c.in_ok-start.ensures ∙ ap free_side c.trees-trees.ensures.value in
    subst (MeetsAll c.args.chosen.now) (sym start_is) (meets_free_side (trees_of c.args.exchange.now) c.args.chosen.now)

pub returns-clause-regret : goal.returns-clause-regret
returns-clause-regret c =
    let ex = c.args.exchange.now in
    let bounds = c.args.bounds.now in
    let chosen = c.args.chosen.now in
    let ws = perturbed_weights chosen bounds in
    let free = free_side (trees_of ex) in
    let f = c.in_ok-found.found in
    let v = c.value-value.result in
    let lower = c.lower_value.result in
    let start_is : c.in_ok-start.start ≡ free = c.in_ok-start.ensures ∙ ap free_side c.trees-trees.ensures.value in
    let asked : c.new-problem.result ≡ rival_search ex bounds chosen = c.new-problem.ensures ∙ (λ i. instance_of ex (c.fill_perturbed.ensures.value i) (start_is i) chosen) in
    let found = subst (λ (x : Instance). IsFoundBy x f) asked c.in_ok-found.ensures.found in
    let best = subst (λ (x : Instance). IsBestOf x f.value) asked c.in_ok-found.ensures.best in
    let same : f.value ≡ v = sym found.found.attained.has ∙ ap (total_value f.best) (sym c.fill_perturbed.ensures.value) ∙ sym c.value-value.ensures.value in
    let v_fits : SFits w128 v = search rules in
    let lower_fits : SFits w128 lower = search rules in
    let v_low = c.value-value.ensures.low in
    let v_high = c.value-value.ensures.high in
    let lower_low = c.lower_value.ensures.low in
    let lower_high = c.lower_value.ensures.high in
    let difference_fits : SFits w128 (v -ℤ lower) = search (rules, ints, arith) in
    rw (to_z-of_z w128 v v_fits, to_z-of_z w128 lower lower_fits, to_z-of_z w128 (v -ℤ lower) difference_fits)
    (rival_gives_regret ex bounds chosen (record { amount = v -ℤ lower; value = v; rival = f.best; log = f.log }) c.requires.bounds c.requires.feasible
    (subst (λ (z : ℤ). IsFound (trees_of ex) (exact_of ex) ws free chosen (record { value = z; sets = f.best; log = f.log })) same found.found)
    found.written
    (subst (IsBest (trees_of ex) (exact_of ex) ws free) same best)
    (ap (λ (z : ℤ). v -ℤ z) c.lower_value.ensures.value))
