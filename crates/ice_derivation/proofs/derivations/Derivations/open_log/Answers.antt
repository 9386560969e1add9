use Rattle.std.proofs.Common.{◌∙◌, ap, sym, subst}
use Rattle.ice_defs.specs.Steps.{Side}
use Rattle.ice_refute.specs.Waiting.{nodes_of}
use Rattle.ice_refute.proofs.NodeCounts.{nodes_of-free}
use Rattle.ice_derivation.specs.declared.derivations.Stage.{Stage}
use Rattle.ice_derivation.specs.Derivations.{good_of, place_in, IsReady}
use Rattle.ice_derivation.proofs.Standing.{opened_kept}
use Rattle.ice_derivation.proofs.derivations.Derivations.open_log.Goals as goal

pub begin-requires-clause-nodes : goal.begin-requires-clause-nodes
begin-requires-clause-nodes c =
    let of = c.requires.kept.of in
    ap (λ (side : Side). nodes_of side) of.free ∙ nodes_of-free c.args.trees.now ∙ sym of.nodes

pub returns-in-Amounts-clause-kept : goal.returns-in-Amounts-clause-kept
returns-in-Amounts-clause-kept c =
    let d = c.args.self.now in
    opened_kept c.args.trees.now d c.begin.new.self c.begin.ensures c.requires.kept.of
    (subst (λ (stage : Stage). IsReady c.args.trees.now c.args.self.now (place_in stage (good_of c.args.self.now) c.args.self.now.least)) c.in-Amounts.is c.requires.kept.ready)
