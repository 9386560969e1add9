use Rattle.std.proofs.Common.{rules, ◌≡◌, List, length, replicate, refl, sym, ◌∙◌, ap, subst, arith}
use Rattle.std.proofs.lemmas.Bool.{true≢false}
use Rattle.std.proofs.lemmas.List.{length-map}
use Rattle.std.proofs.lemmas.Int.{to_z-of_z}
use mir.Syntax.{w64, w128}
use mir.Val.{SFits, to_z, of_z}
use Rattle.ice_defs.specs.declared.Mark.TheVariants.{Free}
use Rattle.ice_defs.specs.Tree.{Tree}
use Rattle.ice_defs.specs.Set.{Weights}
use Rattle.ice_defs.specs.Steps.{Side}
use Rattle.ice_defs.specs.Trade.{total_value}
use Rattle.ice_defs.specs.Exchange.{trees_of}
use Rattle.ice_refute.specs.Waiting.{nodes_of}
use Rattle.ice_refute.proofs.NodeCounts.{nodes_of-free}
use Rattle.ice_check_records.specs.Logs.{CanStart}
use Rattle.ice_check_records.specs.Groups.{weights_for}
use Rattle.ice_check_records.proofs.Walks.{few_trees, can_start}
use Rattle.ice_check_records.proofs.groups.Groups.begin_log.Goals as goal

pub returns-then-not-is_same : goal.returns-then-not-is_same
returns-then-not-is_same c =
    let g = c.args.self.now in
    let value_fits : SFits w64 g.value = search rules in
    let total_fits : SFits w128 c.value_at.result = search rules in
    let total_is : to_z w128 (of_z w128 c.value_at.result) ≡ total_value g.stated.sets (weights_for g c.args.group) = to_z-of_z w128 c.value_at.result total_fits ∙ c.value_at.ensures ∙ ap (λ (ws : List Weights). total_value g.stated.sets ws) c.requires.weights in
    (refl, λ e. true≢false (sym (c.is_same.ensures.1 (total_is ∙ e ∙ sym (to_z-of_z w64 g.value value_fits))) ∙ c.if-not-is_same.true))

pub begin-requires-clause-few : goal.begin-requires-clause-few
begin-requires-clause-few c =
    let ts = trees_of c.args.self.now.stated.exchange in
    omega (arith, ap length c.requires.kept.walk.start, length-map ts (λ (t : Tree). replicate (length t) Free), (few_trees c.args.self.now.stated.exchange c.requires.kept.lawful).1)

pub begin-requires-clause-nodes : goal.begin-requires-clause-nodes
begin-requires-clause-nodes c = ap nodes_of c.requires.kept.walk.start ∙ nodes_of-free (trees_of c.args.self.now.stated.exchange) ∙ sym c.requires.kept.walk.nodes

pub begin-requires-clause-starts : goal.begin-requires-clause-starts
begin-requires-clause-starts c =
    let g = c.args.self.now in
    subst (λ (free : Side). CanStart free c.args.group) (sym c.requires.kept.walk.start) (can_start g.stated.exchange c.args.group c.requires.kept.lawful c.requires.group.there)
