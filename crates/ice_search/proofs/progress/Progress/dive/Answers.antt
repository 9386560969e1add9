use Rattle.std.proofs.Common.{arith, length, sym, subst, ap, ◌∙◌}
use Rattle.std.proofs.lemmas.List.{length-map}
use Rattle.ice_defs.specs.Conditions.{AreMultipliersOf}
use Rattle.ice_search_log.specs.Code.{part_of, parts_of}
use Rattle.ice_search_log.proofs.Assembling.{part_read}
use Rattle.ice_search.specs.Instance.{IsIncumbentOf}
use Rattle.ice_search.specs.State.{IsState, state_of, LooksAt}
use Rattle.ice_search.proofs.Turning.{lawful, better}
use Rattle.ice_search.proofs.progress.Progress.dive.Goals as goal

pub dive_from-requires-clause-from : goal.dive_from-requires-clause-from
dive_from-requires-clause-from c =
    let s = state_of c.self.inside.space c.self.inside.incumbent c.self.inside.parts.items c.self.inside.open_parts.items in
    let looks = subst (λ t. LooksAt t c.args.number) (sym c.self.view_is) c.requires in
    let list = c.self.inside.parts.items in
    let part = c.index.result.now in
    let read = part_read list c.args.number part (omega (arith, looks.there, length-map list part_of)) c.index.ensures in
    subst (AreMultipliersOf s.instance.exact) (ap (λ q. q.m) read ∙ sym c.copy-from.ensures) (lawful s c.self.invariant c.args.number looks)

pub dive_from-requires-clause-there : goal.dive_from-requires-clause-there
dive_from-requires-clause-there c =
    let looks = subst (λ t. LooksAt t c.args.number) (sym c.self.view_is) c.requires in
    let list = c.self.inside.parts.items in
    omega (arith, looks.there, length-map list part_of, ap length c.deref.ensures.value)

pub consider-requires : goal.consider-requires
consider-requires c =
    let i = c.self.inside.incumbent in
    subst (λ x. IsIncumbentOf x i.sets i.value) (sym c.dive_from.ensures.instance) c.self.invariant.incumbent

pub invariant_of-self : goal.invariant_of-self
invariant_of-self c =
    let s = state_of c.self.inside.space c.self.inside.incumbent c.self.inside.parts.items c.self.inside.open_parts.items in
    let new = c.consider.new.incumbent in
    let is = subst (λ x. IsIncumbentOf x new.sets new.value) c.dive_from.ensures.instance c.consider.ensures.incumbent in
    subst (λ x. IsState (record {
      instance = x;
      side = c.dive_from.new.self.side;
      parts = parts_of c.self.inside.parts.items;
      sets = new.sets;
      value = new.value;
      open_parts = c.self.inside.open_parts.items;
    })) (sym c.dive_from.ensures.instance) (better s c.self.invariant c.dive_from.new.self.side new is c.consider.ensures.no_less)
