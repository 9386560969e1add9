use Rattle.std.proofs.Common.{sym, subst}
use Rattle.ice_defs.specs.declared.Mark.TheVariants.{Never}
use Rattle.ice_defs.specs.Steps.{with_mark}
use Rattle.ice_defs.specs.Sweep.{IsLive}
use Rattle.ice_search.specs.Workspace.{IsPolishedAt}
use Rattle.ice_search.proofs.workspace.Workspace.polish_children.Goals as goal

pub polish_child-must-requires-clause-live : goal.polish_child-must-requires-clause-live
polish_child-must-requires-clause-live c = c.requires.node.must

pub polish_child-never-requires-clause-live : goal.polish_child-never-requires-clause-live
polish_child-never-requires-clause-live c =
    let now = c.args.self.now in
    let after = c.polish_child-must.new.self in
    let place = c.args.node in
    subst (λ x. IsLive x.trees (with_mark after.side place.bidder place.node Never)) (sym c.polish_child-must.ensures.instance)
    (subst (λ side. IsLive now.instance.trees (with_mark side place.bidder place.node Never)) (sym c.polish_child-must.ensures.side) c.requires.node.never)

pub returns-clause-polished : goal.returns-clause-polished
returns-clause-polished c =
    let now = c.args.self.now in
    let must = c.polish_child-must in
    let never = c.polish_child-never in
    let place = c.args.node in
    record {
      middle = must.new.incumbent;
      must = must.ensures.polished;
      never = subst (λ side. IsPolishedAt now.instance (with_mark side place.bidder place.node Never) must.new.incumbent never.new.incumbent never.result.bounded) must.ensures.side
          (subst (λ x. IsPolishedAt x (with_mark must.new.self.side place.bidder place.node Never) must.new.incumbent never.new.incumbent never.result.bounded) must.ensures.instance never.ensures.polished);
    }
