use Rattle.std.proofs.Common.{refl, ◌∙◌, ap}
use Rattle.ice_defs.specs.declared.Mark.TheVariants.{Free, Never}
use Rattle.ice_defs.specs.Steps.{Side, with_mark}
use Rattle.ice_refute.specs.Waiting.{nodes_of}
use Rattle.ice_refute.proofs.Kept.{nodes_of-with_mark, with_mark-back}
use Rattle.ice_check_records.proofs.log.LogWalk.begin_without.Goals as goal

pub begin-requires-clause-nodes : goal.begin-requires-clause-nodes
begin-requires-clause-nodes c = ap nodes_of c.mark.ensures ∙ nodes_of-with_mark c.args.self.now.start c.args.bidder 0 Never ∙ c.requires.nodes

pub returns-clause-same : goal.returns-clause-same
returns-clause-same c =
    let start = c.args.self.now.start in
    record {
      weights = refl;
      start = c.mark-2.ensures ∙ ap (λ (side : Side). with_mark side c.args.bidder 0 Free) c.mark.ensures ∙ with_mark-back start c.args.bidder 0 Never c.requires.starts.0 c.requires.starts.2;
      nodes = c.begin.ensures.nodes;
      exact = refl;
    }
