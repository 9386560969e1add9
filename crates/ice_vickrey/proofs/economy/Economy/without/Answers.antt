use Rattle.std.proofs.Common.{rules, arith, ◌≡◌, ◌∙◌, ap, sym, subst, refl, ◌<◌, length, ℤ, ◌-ℤ◌}
use Rattle.std.proofs.lemmas.Int.{ints, to_z-of_z}
use mir.Syntax.{w128}
use mir.Val.{SFits}
use Rattle.ice_defs.specs.declared.Mark.TheVariants.{Never}
use Rattle.ice_defs.specs.Steps.{Side, with_mark}
use Rattle.ice_defs.specs.Trade.{Assignment, fixing_of, IsFeasible, MeetsAll, IsBest}
use Rattle.ice_defs.specs.Weighing.{lower_weights}
use Rattle.ice_defs.specs.declared.Group.TheVariants.{Without}
use Rattle.ice_defs.specs.Group.{free_side, start_of, empty_sets}
use Rattle.ice_defs.specs.Searched.{IsFound}
use Rattle.ice_defs.specs.Exchange.{trees_of, exact_of}
use Rattle.ice_defs.proofs.EmptySets.{empty_feasible}
use Rattle.ice_defs.specs.Conditions.{AreWeightsOf, AreFixingsOf}
use Rattle.ice_bound.proofs.Modest.{lower_modest}
use Rattle.ice_bound.proofs.Fixings.{free_fixings, marked_fixings}
use Rattle.ice_search.specs.Instance.{Instance, IsBestOf, instance_of}
use Rattle.ice_search.specs.Results.{IsFoundBy}
use Rattle.ice_vickrey.specs.Economy.{economy_at, without_search}
use Rattle.ice_vickrey.specs.Marginals.{IsMarginalOf}
use Rattle.ice_vickrey.proofs.Leaving.{exchange_tree, empty_meets, best_low}
use Rattle.ice_vickrey.proofs.Knowing.{is_marginal}
use Rattle.ice_vickrey.proofs.economy.Economy.without.Goals as goal

pub mark-requires-clause-node : goal.mark-requires-clause-node
mark-requires-clause-node c =
    let ts = trees_of c.self.inside.exchange.now in
    let b = c.args.bidder in
    let start_is : c.in_ok-start.start ≡ free_side ts = c.in_ok-start.ensures ∙ ap free_side c.trees-trees.ensures.value in
    let there : b < length ts = subst (λ e. b < length (trees_of e.exchange)) (sym c.self.view_is) c.requires.bidder in
    let tree = exchange_tree c.self.inside.exchange.now b c.trees-trees.ensures.lawful there in
    omega (arith, ap (λ (xs : Side). length (fixing_of xs b)) start_is, (free_fixings ts).nodes b there, tree.rooted)

pub new-problem-requires-clause-weights : goal.new-problem-requires-clause-weights
new-problem-requires-clause-weights c =
    let ts = trees_of c.self.inside.exchange.now in
    subst (AreWeightsOf ts) (sym c.self.invariant.weights) (lower_modest ts c.self.inside.bounds.now c.self.invariant.economy.bounds)

pub new-problem-requires-clause-start : goal.new-problem-requires-clause-start
new-problem-requires-clause-start c =
    let ts = trees_of c.self.inside.exchange.now in
    let start_is : c.in_ok-start.start ≡ free_side ts = c.in_ok-start.ensures ∙ ap free_side c.trees-trees.ensures.value in
    subst (AreFixingsOf ts) (sym c.mark.ensures) (marked_fixings ts c.in_ok-start.start c.args.bidder 0 Never (subst (AreFixingsOf ts) (sym start_is) (free_fixings ts)))

pub new-problem-requires-clause-feasible : goal.new-problem-requires-clause-feasible
new-problem-requires-clause-feasible c =
    let ex = c.self.inside.exchange.now in
    subst (IsFeasible (trees_of ex) (exact_of ex)) (sym c.self.invariant.empty) (empty_feasible (trees_of ex) (exact_of ex))

pub new-problem-requires-clause-meets : goal.new-problem-requires-clause-meets
new-problem-requires-clause-meets c =
    let ts = trees_of c.self.inside.exchange.now in
    let b = c.args.bidder in
    let there : b < length ts = subst (λ e. b < length (trees_of e.exchange)) (sym c.self.view_is) c.requires.bidder in
    let start_is : c.mark.new.self ≡ start_of ts (Without b) = c.mark.ensures ∙ ap (λ (xs : Side). with_mark xs b 0 Never) (c.in_ok-start.ensures ∙ ap free_side c.trees-trees.ensures.value) in
    subst (λ (a : Assignment). MeetsAll a c.mark.new.self) (sym c.self.invariant.empty) (subst (MeetsAll (empty_sets ts)) (sym start_is) (empty_meets ts b there))

pub lower_value-without-requires-clause-nodes : goal.lower_value-without-requires-clause-nodes
lower_value-without-requires-clause-nodes c =
    let found = subst (λ (x : Instance). IsFoundBy x c.in_ok-found.found) c.new-problem.ensures c.in_ok-found.ensures.found in
    let sets = found.found.attained.feasible in
    let are = c.self.invariant.economy.bounds in
    record {
      count = sets.same_length ∙ sym are.same_length;
      nodes = λ b l.
          let there : b < length (trees_of c.self.inside.exchange.now) = omega (arith, l, are.same_length) in
          (sets.satisfied b there).same_length ∙ sym (are.each b there).lo_count;
    }

pub overflow_sub-result : goal.overflow_sub-result
overflow_sub-result c =
    let ex = c.self.inside.exchange.now in
    let total = c.self.inside.total in
    let without = c.lower_value-without.result in
    let low = best_low (trees_of ex) (exact_of ex) (lower_weights c.self.inside.bounds.now) total c.self.invariant.economy.total in
    let high = c.self.invariant.high in
    let without_low = c.lower_value-without.ensures.low in
    let without_high = c.lower_value-without.ensures.high in
    let total_fits : SFits w128 total = search (rules, ints, arith) in
    let without_fits : SFits w128 without = search rules in
    rw (to_z-of_z w128 total total_fits, to_z-of_z w128 without without_fits) (search (rules, ints, arith))

pub returns-clause-marginal : goal.returns-clause-marginal
returns-clause-marginal c =
    let ex = c.self.inside.exchange.now in
    let ts = trees_of ex in
    let exact = exact_of ex in
    let bounds = c.self.inside.bounds.now in
    let ws = lower_weights bounds in
    let b = c.args.bidder in
    let there : b < length ts = subst (λ e. b < length (trees_of e.exchange)) (sym c.self.view_is) c.requires.bidder in
    let start_is : c.mark.new.self ≡ start_of ts (Without b) = c.mark.ensures ∙ ap (λ (xs : Side). with_mark xs b 0 Never) (c.in_ok-start.ensures ∙ ap free_side c.trees-trees.ensures.value) in
    let f = c.in_ok-found.found in
    let total = c.self.inside.total in
    let without = c.lower_value-without.result in
    let asked : c.new-problem.result ≡ without_search ex bounds b = c.new-problem.ensures ∙ (λ i. instance_of ex (c.self.invariant.weights i) (start_is i) (c.self.invariant.empty i)) in
    let found = subst (λ (x : Instance). IsFoundBy x f) asked c.in_ok-found.ensures.found in
    let best = subst (λ (x : Instance). IsBestOf x f.value) asked c.in_ok-found.ensures.best in
    let same : f.value ≡ without = sym found.found.attained.has ∙ sym c.lower_value-without.ensures.value in
    let low = best_low ts exact ws total c.self.invariant.economy.total in
    let high = c.self.invariant.high in
    let without_low = c.lower_value-without.ensures.low in
    let without_high = c.lower_value-without.ensures.high in
    let total_fits : SFits w128 total = search (rules, ints, arith) in
    let without_fits : SFits w128 without = search rules in
    let difference_fits : SFits w128 (total -ℤ without) = search (rules, ints, arith) in
    rw (to_z-of_z w128 total total_fits, to_z-of_z w128 without without_fits, to_z-of_z w128 (total -ℤ without) difference_fits)
    (subst (λ e. IsMarginalOf e b (record { bidder = b; without = without; discount = total -ℤ without; witness = f.best; log = f.log })) c.self.view_is
    (is_marginal (economy_at ex bounds total) b (record { bidder = b; without = without; discount = total -ℤ without; witness = f.best; log = f.log })
    c.trees-trees.ensures.lawful c.self.invariant.economy high there refl
    (subst (λ (z : ℤ). IsFound ts exact ws (start_of ts (Without b)) (empty_sets ts) (record { value = z; sets = f.best; log = f.log })) same found.found)
    found.written
    (subst (IsBest ts exact ws (start_of ts (Without b))) same best) refl))
