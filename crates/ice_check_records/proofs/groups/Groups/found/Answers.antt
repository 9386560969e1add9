use Rattle.std.proofs.Common.{rules, List, length, refl, sym, ◌∙◌, ap, subst, arith}
use Rattle.std.proofs.lemmas.Int.{to_z-of_z}
use mir.Syntax.{w64, w128}
use mir.Val.{SFits}
use Rattle.ice_defs.specs.Bounds.{Bounds}
use Rattle.ice_defs.specs.Trade.{total_value}
use Rattle.ice_defs.specs.Weighing.{lower_weights}
use Rattle.ice_defs.specs.Exchange.{trees_of}
use Rattle.ice_tree.specs.Alike.{AreChosen}
use Rattle.ice_check_records.specs.Heads.{kind_of_head}
use Rattle.ice_verdicts.proofs.Bounded.{round_bounds}
use Rattle.ice_check_records.proofs.Walks.{few_trees, sized_chosen}
use Rattle.ice_check_records.proofs.groups.Groups.found.Goals as goal

pub lower_value-requires-clause-few : goal.lower_value-requires-clause-few
lower_value-requires-clause-few c =
    let g = c.args.self.now in
    let ex = g.stated.exchange in
    omega (arith, (few_trees ex c.requires.lawful).1, (round_bounds ex g.offer.judge c.requires.offer.round).same_length, ap (λ (bs : List Bounds). length bs) c.bounds.ensures)

pub lower_value-requires-clause-nodes : goal.lower_value-requires-clause-nodes
lower_value-requires-clause-nodes c =
    let g = c.args.self.now in
    let ex = g.stated.exchange in
    subst (AreChosen g.final_sets) (sym c.bounds.ensures) (sized_chosen (trees_of ex) g.offer.judge.bounds g.final_sets (round_bounds ex g.offer.judge c.requires.offer.round) c.requires.room)

pub returns-in-Assign : goal.returns-in-Assign
returns-in-Assign c = λ s.
    let fits : SFits w128 c.lower_value.result = search rules in (
      refl,
      ap kind_of_head c.in-Assign.is,
      to_z-of_z w128 c.lower_value.result fits ∙ c.lower_value.ensures.value ∙ ap (λ (bs : List Bounds). total_value c.args.self.now.final_sets (lower_weights bs)) c.bounds.ensures,
    )

pub returns-in-Regret : goal.returns-in-Regret
returns-in-Regret c = λ s.
    let regret_fits : SFits w64 c.args.self.now.regret = search rules in
    let fits : SFits w128 c.from.result = search rules in
    (refl, ap kind_of_head c.in-Regret.is, to_z-of_z w128 c.from.result fits ∙ c.from.ensures ∙ to_z-of_z w64 c.args.self.now.regret regret_fits)
