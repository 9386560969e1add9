use Rattle.std.proofs.Common.{◌<◌, sym, ◌∙◌, subst, rules}
use Rattle.std.proofs.lemmas.Option.{none-some, same_Some}
use Rattle.std.proofs.lemmas.Result.{err_from_is_err_and}
use Rattle.std.proofs.lemmas.Int.{to_z-of_z}
use mir.Syntax.{w64}
use mir.Val.{SFits}
use Rattle.ice_defs.specs.declared.NodeKind.TheVariants.{Choose}
use Rattle.ice_section.specs.Kept.{IsDrafting}
use Rattle.ice_section.proofs.NodesTaken.{refused, childless_refused, childless_close, choose_taken}
use Rattle.ice_section.proofs.draft.Draft.choose.Goals as goal

pub returns-in_err-open_choose-clause-refused : goal.returns-in_err-open_choose-clause-refused
returns-in_err-open_choose-clause-refused c =
    let lo : SFits w64 c.args.lo = c.ranges.lo in
    let hi : SFits w64 c.args.hi = c.ranges.hi in
    let p = err_from_is_err_and c.from_residual.result c.from_residual.ensures.1 in
    let is = subst IsDrafting (sym c.self.view_is) c.requires in
    let e = simp to_z-of_z at c.in_err-open_choose.ensures.refused in
    rw (p.1, p.2, ← c.self.view_is) (refused c.self.inside.name c.self.inside.own.items c.self.inside.maker c.self.inside.to_come.items c.self.invariant is (Choose c.args.least c.args.most) c.args.children c.args.lo c.args.hi _ e)

pub invariant_of-self-in-Continue-branch-2 : goal.invariant_of-self-in-Continue-branch-2
invariant_of-self-in-Continue-branch-2 c =
    let lo : SFits w64 c.args.lo = c.ranges.lo in
    let hi : SFits w64 c.args.hi = c.ranges.hi in
    let is = subst IsDrafting (sym c.self.view_is) c.requires in
    let made = simp to_z-of_z at c.in_ok-open_choose.ensures.made in
    let due = childless_close c.self.inside.name c.self.inside.own.items c.self.inside.maker c.self.inside.to_come.items c.self.invariant is c.args.least c.args.most c.args.lo c.args.hi c.open_choose.new.self made in
    absurd (none-some 20 (sym c.in_ok-close.ensures.refused ∙ due))

pub returns-in_err-close-clause-refused : goal.returns-in_err-close-clause-refused
returns-in_err-close-clause-refused c =
    let lo : SFits w64 c.args.lo = c.ranges.lo in
    let hi : SFits w64 c.args.hi = c.ranges.hi in
    let is = subst IsDrafting (sym c.self.view_is) c.requires in
    let made = simp to_z-of_z at c.in_ok-open_choose.ensures.made in
    let due = childless_close c.self.inside.name c.self.inside.own.items c.self.inside.maker c.self.inside.to_come.items c.self.invariant is c.args.least c.args.most c.args.lo c.args.hi c.open_choose.new.self made in
    let none = simp to_z-of_z at c.in_ok-open_choose.ensures.refused in
    let p = err_from_is_err_and c.from_residual-in_err-close.result c.from_residual-in_err-close.ensures.1 in
    let number = same_Some _ _ (sym due ∙ c.in_err-close.ensures.refused) in
    rw (p.1, p.2, ← c.self.view_is, c.if-children-eq0.true, ← number) (childless_refused c.self.inside.name c.self.inside.own.items c.self.inside.maker c.self.inside.to_come.items c.self.invariant is c.args.least c.args.most c.args.lo c.args.hi none)

pub returns-in_ok-close-clause-taken : goal.returns-in_ok-close-clause-taken
returns-in_ok-close-clause-taken c =
    let lo : SFits w64 c.args.lo = c.ranges.lo in
    let hi : SFits w64 c.args.hi = c.ranges.hi in
    let is = subst IsDrafting (sym c.self.view_is) c.requires in
    let made = simp to_z-of_z at c.in_ok-open_choose.ensures.made in
    let due = childless_close c.self.inside.name c.self.inside.own.items c.self.inside.maker c.self.inside.to_come.items c.self.invariant is c.args.least c.args.most c.args.lo c.args.hi c.open_choose.new.self made in
    absurd (none-some 20 (sym c.in_ok-close.ensures.refused ∙ due))

pub returns-else-children-eq0-clause-taken : goal.returns-else-children-eq0-clause-taken
returns-else-children-eq0-clause-taken c =
    let lo : SFits w64 c.args.lo = c.ranges.lo in
    let hi : SFits w64 c.args.hi = c.ranges.hi in
    let is = subst IsDrafting (sym c.self.view_is) c.requires in
    let made = simp to_z-of_z at c.in_ok-open_choose.ensures.made in
    let none = simp to_z-of_z at c.in_ok-open_choose.ensures.refused in
    let some : 0 < c.args.children = search rules in
    rw (← c.self.view_is) (
    choose_taken c.self.inside.name c.self.inside.own.items c.self.inside.maker c.self.inside.to_come.items c.self.invariant is c.args.least c.args.most c.args.children c.args.lo c.args.hi c.open_choose.new.self c.push.new.self.items
    some none made c.push.ensures.items)
