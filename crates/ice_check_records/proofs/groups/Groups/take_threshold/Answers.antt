use Rattle.std.proofs.Common.{rules, List, ℤ, refl, subst}
use Rattle.std.proofs.lemmas.Int.{to_z-of_z}
use Rattle.std.proofs.lemmas.Result.{err_from_is_err_and}
use mir.Syntax.{w64}
use mir.Val.{SFits}
use Rattle.ice_journal.specs.Lines.{record_of}
use Rattle.ice_check_charge.specs.Charging.{PassesCut, FailsCut}
use Rattle.ice_check_records.specs.declared.next.Next.TheVariants as coming
use Rattle.ice_check_records.specs.Groups.{known_in}
use Rattle.ice_check_records.proofs.Ending.{cut_taken}
use Rattle.ice_check_records.proofs.groups.Groups.take_threshold.Goals as goal

pub returns-in_err-self : goal.returns-in_err-self
returns-in_err-self c =
    let g = c.args.self.now in
    let r = record_of c.args.line.now in
    let fits : SFits w64 g.final_value = search rules in
    let p = err_from_is_err_and c.from_residual.result c.from_residual.ensures.1 in
    rw (p.1, p.2)
    (λ s quiet.
    subst (λ (ws : List ℤ). FailsCut ws g.final_value r c.in_err-self.field-0.0) c.as_slice.ensures.value
    (subst (λ (z : ℤ). FailsCut c.as_slice.result.now z r c.in_err-self.field-0.0) (to_z-of_z w64 g.final_value fits) c.in_err-self.ensures) (known_in g coming.Threshold s) (record { place = refl; withouts_are = refl; total_is = refl }))

pub returns : goal.returns
returns c =
    let g = c.args.self.now in
    let r = record_of c.args.line.now in
    let made = c.in_ok-self.field-0 in
    let fits : SFits w64 g.final_value = search rules in
    cut_taken g r c.requires.kept c.requires.ready made
    (subst (λ (ws : List ℤ). PassesCut ws g.final_value r made) c.as_slice.ensures.value
    (subst (λ (z : ℤ). PassesCut c.as_slice.result.now z r made) (to_z-of_z w64 g.final_value fits) c.in_ok-self.ensures))
