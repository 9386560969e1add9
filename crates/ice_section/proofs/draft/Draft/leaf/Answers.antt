use Rattle.std.proofs.Common.{sym, subst}
use Rattle.std.proofs.lemmas.Result.{err_from_is_err_and, on_ok_weaker, IfErr-weaker}
use Rattle.std.proofs.lemmas.Int.{to_z-of_z}
use mir.Syntax.{w64}
use mir.Val.{SFits}
use Rattle.ice_tree.specs.Fault.{tree_fault_number}
use Rattle.ice_section.specs.Kept.{IsDrafting}
use Rattle.ice_section.proofs.NodesTaken.{refused, leaf_kept, leaf_taken, leaf_refused}
use Rattle.ice_section.proofs.draft.Draft.leaf.Goals as goal

pub returns-in_err-leaf-clause-refused : goal.returns-in_err-leaf-clause-refused
returns-in_err-leaf-clause-refused c =
    let lo : SFits w64 c.args.lo = c.ranges.lo in
    let hi : SFits w64 c.args.hi = c.ranges.hi in
    let p = err_from_is_err_and c.from_residual.result c.from_residual.ensures.1 in
    let is = subst IsDrafting (sym c.self.view_is) c.requires.going in
    let e = simp to_z-of_z at c.in_err-leaf.ensures.refused in
    rw (p.1, p.2, ← c.self.view_is) (refused c.self.inside.name c.self.inside.own.items c.self.inside.maker c.self.inside.to_come.items c.self.invariant is c.args.kind 0 c.args.lo c.args.hi _ e)

pub complete-requires : goal.complete-requires
complete-requires c =
    let lo : SFits w64 c.args.lo = c.ranges.lo in
    let hi : SFits w64 c.args.hi = c.ranges.hi in
    let is = subst IsDrafting (sym c.self.view_is) c.requires.going in
    let e = simp to_z-of_z at c.in_ok-leaf.ensures.made in
    rw e (leaf_kept c.self.inside.name c.self.inside.own.items c.self.inside.maker c.self.inside.to_come.items c.self.invariant is c.args.kind c.args.lo c.args.hi)

pub returns-clause-taken : goal.returns-clause-taken
returns-clause-taken c =
    let lo : SFits w64 c.args.lo = c.ranges.lo in
    let hi : SFits w64 c.args.hi = c.ranges.hi in
    let is = subst IsDrafting (sym c.self.view_is) c.requires.going in
    let made = simp to_z-of_z at c.in_ok-leaf.ensures.made in
    let none = simp to_z-of_z at c.in_ok-leaf.ensures.refused in
    rw (← c.self.view_is) (on_ok_weaker c.complete.result (λ done.
    leaf_taken c.self.inside.name c.self.inside.own.items c.self.inside.maker c.self.inside.to_come.items c.self.invariant is c.args.kind 0 c.args.lo c.args.hi c.leaf.new.self c.complete.new.maker c.complete.new.to_come.items
    c.requires.leaf none made c.complete.ensures.same done) c.complete.ensures.done)

pub returns-clause-refused : goal.returns-clause-refused
returns-clause-refused c =
    let lo : SFits w64 c.args.lo = c.ranges.lo in
    let hi : SFits w64 c.args.hi = c.ranges.hi in
    let is = subst IsDrafting (sym c.self.view_is) c.requires.going in
    let made = simp to_z-of_z at c.in_ok-leaf.ensures.made in
    let none = simp to_z-of_z at c.in_ok-leaf.ensures.refused in
    rw (← c.self.view_is) (IfErr-weaker c.complete.result _ _ (λ fault done.
    leaf_refused c.self.inside.name c.self.inside.own.items c.self.inside.maker c.self.inside.to_come.items c.self.invariant is c.args.kind 0 c.args.lo c.args.hi c.leaf.new.self (tree_fault_number fault)
    c.requires.leaf none made done) c.complete.ensures.refused)
