use Rattle.std.proofs.Common.{◌≡◌, ℤ, List, pos, ◌-ℤ◌, sym, ◌∙◌, subst, arith, rules, get_or, below_more, to_z, of_z}
use mir.Syntax.{w64, w128}
use mir.Val.{SFits}
use Rattle.std.proofs.lemmas.Bool.{false≢true}
use Rattle.std.proofs.lemmas.Int.{to_z-of_z}
use Rattle.std.proofs.lemmas.List.{get_or_default}
use Rattle.ice_defs.specs.Fraction.{whole_number, AtMost}
use Rattle.ice_journal.specs.Lines.{fraction_of}
use Rattle.ice_check_charge.proofs.amounts.is_reached.Goals as goal

pub loop-without-preserved : goal.loop-without-preserved
loop-without-preserved c =
    let total = to_z w64 (of_z w64 c.args.total) in
    let without = get_or c.args.withouts.now c.loop-without.without-index (pos 0) in
    let fits : SFits w128 c.vickrey.result = search rules in
    let value : c.vickrey.result ≡ total -ℤ without = search rules in
    let is : to_z w128 (of_z w128 c.vickrey.result) ≡ total -ℤ without = to_z-of_z w128 c.vickrey.result fits ∙ value in
    below_more _ _ c.loop-without.invariant
    (λ h. false≢true (sym c.if-reaches.false ∙ c.reaches.ensures.1 (subst (λ (z : ℤ). AtMost (fraction_of c.args.cut.now) (whole_number z)) (sym is) h)))

pub returns-clause-no : goal.returns-clause-no
returns-clause-no c = λ e found.
    let withouts : List ℤ = c.args.withouts.now in
    let back : to_z w64 (of_z w64 c.args.total) ≡ c.args.total = to_z-of_z w64 c.args.total c.ranges.total in
    let there : get_or withouts found.0 (pos 0) ≡ found.1 = get_or_default withouts found.0 (pos 0) found.1 found.2 ∙ found.3 in
    c.loop-without.invariant found.0 (omega (arith, found.2, c.loop-without-test.false))
    (subst (λ (z : ℤ). AtMost (fraction_of c.args.cut.now) (whole_number (z -ℤ get_or withouts found.0 (pos 0)))) (sym back)
    (subst (λ (z : ℤ). AtMost (fraction_of c.args.cut.now) (whole_number (c.args.total -ℤ z))) (sym there) found.4))
