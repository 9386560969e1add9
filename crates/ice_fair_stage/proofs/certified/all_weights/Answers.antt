use Rattle.std.proofs.Common.{◌^◌, IfErr, rules}
use Rattle.std.specs.Prelude.{Any}
use Rattle.ice_pricing_laws.specs.Weights.{weights_of_duals}
use Rattle.ice_turns.specs.Large.{IsLarge, IsStoppedBy}
use Rattle.ice_turns.proofs.Stops.{if_err-map, stopped-map}
use Rattle.ice_fair_stage.proofs.Certifying.{large-left, large-right}
use Rattle.ice_fair_stage.proofs.certified.all_weights.Goals as goal

pub returns-in_err-made-clause-stopped : goal.returns-in_err-made-clause-stopped
returns-in_err-made-clause-stopped c =
    let one : IfErr c.from_residual.result (IsStoppedBy (Any (IsLarge (2 ^ 24)) (weights_of_duals c.args.cut c.args.own.now))) = search rules in
    if_err-map c.from_residual.result (stopped-map (large-left c.args.cut c.args.den c.args.own.now c.args.members.now c.requires.own c.requires.members (2 ^ 24))) one

pub returns-in_err-later-clause-stopped : goal.returns-in_err-later-clause-stopped
returns-in_err-later-clause-stopped c =
    let one : IfErr c.from_residual-in_err-later.result (IsStoppedBy (Any (IsLarge (2 ^ 24)) (weights_of_duals c.args.den c.args.members.now))) = search rules in
    if_err-map c.from_residual-in_err-later.result (stopped-map (large-right c.args.cut c.args.den c.args.own.now c.args.members.now c.requires.own c.requires.members (2 ^ 24))) one
