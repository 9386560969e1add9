use Rattle.std.proofs.Common.{◌≡◌, ℕ, List, sym, ◌∙◌, ap, ◌⊎◌, inl, inr}
use Rattle.ice_defs.specs.Bounds.{Bounds}
use Rattle.ice_defs.specs.Weighing.{lower_weights, weighted_weights}
use Rattle.ice_defs.specs.Exchange.{Settings, trees_of, exact_of}
use Rattle.ice_defs.specs.Group.{group_weights}
use Rattle.ice_defs.specs.Trade.{Assignment}
use Rattle.ice_defs.specs.declared.Group.{Group}
use Rattle.ice_defs.specs.declared.Group.TheVariants.{Assign, Final, Rival, Provisional, Without}
use Rattle.ice_check_records.proofs.Walks.{sized_chosen, weights_alike, reweighed}
use Rattle.ice_check_records.proofs.log.LogWalk.weigh.Goals as goal

pub fill_perturbed-requires-clause-alike : goal.fill_perturbed-requires-clause-alike
fill_perturbed-requires-clause-alike c = weights_alike (trees_of c.args.exchange.now) c.args.bounds.now c.args.self.now.weights c.requires.bounds c.requires.walk.weights

pub fill_perturbed-requires-clause-chosen : goal.fill_perturbed-requires-clause-chosen
fill_perturbed-requires-clause-chosen c = sized_chosen (trees_of c.args.exchange.now) c.args.bounds.now c.args.final_sets.now c.requires.bounds c.requires.room

pub fill_weighted-requires-clause-alike : goal.fill_weighted-requires-clause-alike
fill_weighted-requires-clause-alike c = weights_alike (trees_of c.args.exchange.now) c.args.bounds.now c.args.self.now.weights c.requires.bounds c.requires.walk.weights

pub fill_lower-requires : goal.fill_lower-requires
fill_lower-requires c = weights_alike (trees_of c.args.exchange.now) c.args.bounds.now c.args.self.now.weights c.requires.bounds c.requires.walk.weights

pub returns-in-Rival-clause-walk : goal.returns-in-Rival-clause-walk
returns-in-Rival-clause-walk c =
    let ex = c.args.exchange.now in
    reweighed (trees_of ex) (exact_of ex) ex.settings.weight c.args.bounds.now c.args.final_sets.now Rival c.args.self.now c.fill_perturbed.new.self c.requires.lawful.settings.weight c.requires.bounds c.requires.walk
    c.fill_perturbed.ensures.value

pub returns-in-Provisional-clause-walk : goal.returns-in-Provisional-clause-walk
returns-in-Provisional-clause-walk c =
    let ex = c.args.exchange.now in
    let settings = c.fill_weighted.view_is ∙ c.settings.ensures in
    let is = c.fill_weighted-in-Provisional.ensures.value ∙ ap (λ (s : Settings). weighted_weights s.weight c.args.bounds.now) settings in
    reweighed (trees_of ex) (exact_of ex) ex.settings.weight c.args.bounds.now c.args.final_sets.now Provisional c.args.self.now c.fill_weighted-in-Provisional.new.self c.requires.lawful.settings.weight c.requires.bounds c.requires.walk is

-- at lower values
lower : (weight : ℕ) (bounds : List Bounds) (final : Assignment) (group : Group) → (group ≡ Assign) ⊎ ((group ≡ Final) ⊎ ((b : ℕ) × (group ≡ Without b))) → lower_weights bounds ≡ group_weights weight bounds final group
lower weight bounds final group (inl e) = ap (group_weights weight bounds final) (sym e)
lower weight bounds final group (inr (inl e)) = ap (group_weights weight bounds final) (sym e)
lower weight bounds final group (inr (inr (b, e))) = ap (group_weights weight bounds final) (sym e)

pub returns-in-Assign : goal.returns-in-Assign
returns-in-Assign c =
    let ex = c.args.exchange.now in
    let is = c.fill_lower.ensures.value ∙ lower ex.settings.weight c.args.bounds.now c.args.final_sets.now c.args.group c.in-Assign.is in
    record {
      walk = reweighed (trees_of ex) (exact_of ex) ex.settings.weight c.args.bounds.now c.args.final_sets.now c.args.group c.args.self.now c.fill_lower.new.self c.requires.lawful.settings.weight c.requires.bounds c.requires.walk is;
      weights = is;
    }
