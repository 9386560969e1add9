use Rattle.std.proofs.Common.{suc, ◌+◌, ◌++◌, length, sym, subst, arith}
use Rattle.ice_check.specs.declared.begun.Begun.{Begun}
use Rattle.ice_check.specs.Standing.{Checking, StandsFor, IsTextOf}
use Rattle.ice_check.proofs.WholeLines.{within_more}
use Rattle.ice_check.proofs.Standing.{in_one_line, line_ends, on_ok}
use Rattle.ice_check.proofs.checker.Checker.end_line.Goals as goal

pub invariant_of-self : goal.invariant_of-self
invariant_of-self c =
    within_more (suc (suc c.self.inside.count)) (suc (c.self.inside.count + (length c.args.text.now + 1))) c.take.new.self (omega arith) (c.take.ensures.within (suc c.self.inside.count) c.self.invariant)

pub returns-clause-after : goal.returns-clause-after
returns-clause-after c =
    on_ok c.take.result
    (λ reads bytes stands.
    let h = subst (λ (v : Checking). StandsFor v bytes) (sym c.self.view_is) stands in
    let text = c.args.text.now in
    let spells = c.end-record.ensures.read h.ends.begun (subst (λ (b : Begun). IsTextOf b h.ends.begun) (sym c.deref_mut.ensures.value) h.ends.text) in
    line_ends _ _ bytes text h (omega arith) c.end-record.ensures.empty
    (reads h.ends.whole (h.ends.begun ++ text) h.ends.lines (in_one_line h.ends.begun text h.ends.one_line c.requires.one_line) spells))
    c.take.ensures.read
