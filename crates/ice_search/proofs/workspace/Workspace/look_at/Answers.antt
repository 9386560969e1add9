use Rattle.std.proofs.Common.{ap, sym, ◌∙◌, subst}
use Rattle.ice_defs.specs.Conditions.{AreFixingsOf, AreMultipliersOf}
use Rattle.ice_search_log.specs.Code.{parts_of}
use Rattle.ice_search.specs.Instance.{IsSearchOf}
use Rattle.ice_search.proofs.Following.{fixings_at, multipliers_at}
use Rattle.ice_search.proofs.workspace.Workspace.look_at.Goals as goal

pub put_side-requires-2-clause-marks : goal.put_side-requires-2-clause-marks
put_side-requires-2-clause-marks c =
    let x = c.self.inside.problem in
    let is = subst (λ l. IsSearchOf l.instance (parts_of c.args.parts.now)) (sym c.self.view_is) c.requires.search in
    subst (λ ts. AreFixingsOf ts c.deref.result.now.marks) (sym c.self.invariant.trees)
    (subst (λ desk. AreFixingsOf x.trees desk.marks) (sym c.deref.ensures)
    (subst (AreFixingsOf x.trees) (sym c.put_side.ensures) (fixings_at x c.args.parts.now c.args.number c.self.invariant.instance is c.requires.there)))

pub put_side-requires-2-clause-multipliers : goal.put_side-requires-2-clause-multipliers
put_side-requires-2-clause-multipliers c =
    let x = c.self.inside.problem in
    let is = subst (λ l. IsSearchOf l.instance (parts_of c.args.parts.now)) (sym c.self.view_is) c.requires.search in
    subst (λ e. AreMultipliersOf e c.multipliers_for.result) (sym c.self.invariant.exact)
    (c.multipliers_for.ensures x.exact (multipliers_at x c.args.parts.now c.args.number c.index-parts-number.result is c.requires.there c.index-parts-number.is))

pub invariant_of-self : goal.invariant_of-self
invariant_of-self c =
    let x = c.self.inside.problem in
    let is = subst (λ l. IsSearchOf l.instance (parts_of c.args.parts.now)) (sym c.self.view_is) c.requires.search in
    record {
      instance = c.self.invariant.instance;
      trees = c.put_side-2.ensures.trees ∙ c.self.invariant.trees;
      weights = c.put_side-2.ensures.weights ∙ c.self.invariant.weights;
      exact = c.put_side-2.ensures.exact ∙ c.self.invariant.exact;
      desk = subst (AreFixingsOf x.trees) (sym c.put_side.ensures) (fixings_at x c.args.parts.now c.args.number c.self.invariant.instance is c.requires.there);
      room = ap (λ desk. desk.room) c.deref_mut.ensures.value ∙ c.self.invariant.room;
      relaxation = c.look_at.ensures ∙ c.deref_mut-2.ensures.value ∙ c.self.invariant.relaxation;
    }
