use Rattle.std.proofs.Common.{rules, ◌≡◌, ℤ, sym, subst}
use Rattle.std.proofs.lemmas.Int.{to_z-of_z}
use mir.Syntax.{w64}
use mir.Val.{SFits, to_z, of_z}
use Rattle.ice_defs.specs.declared.Group.TheVariants.{Rival}
use Rattle.ice_check_records.specs.declared.next.Next.TheVariants as coming
use Rattle.ice_check_records.specs.Stating.{Stating}
use Rattle.ice_check_records.specs.Taking.{LeavesGroup}
use Rattle.ice_check_records.proofs.Logged.{rival_left}
use Rattle.ice_check_records.proofs.groups.Groups.keep_rival.Goals as goal

pub returns : goal.returns
returns c =
    let g = c.args.self.now in
    let fits : SFits w64 g.value = search rules in
    let value_is : to_z w64 (of_z w64 g.value) ≡ g.value = to_z-of_z w64 g.value fits in
    subst (λ (z : ℤ). LeavesGroup Rival g (record g { rival = z; stated = c.clear.new.self; next = coming.Amount })) (sym value_is)
    (subst (λ (stated : Stating). LeavesGroup Rival g (record g { rival = g.value; stated = stated; next = coming.Amount })) (sym c.clear.ensures) (rival_left g c.requires.opened c.requires.kept))
