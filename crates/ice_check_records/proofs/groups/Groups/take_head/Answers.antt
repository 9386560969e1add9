use Rattle.std.proofs.Common.{rules, ℤ, sym, ◌∙◌, subst}
use Rattle.std.proofs.lemmas.Int.{to_z-of_z}
use mir.Syntax.{w64}
use mir.Val.{SFits}
use Rattle.ice_journal.specs.Lines.{record_of}
use Rattle.ice_check_records.specs.declared.next.Next.TheVariants as coming
use Rattle.ice_check_records.specs.Groups.{known_in}
use Rattle.ice_check_records.specs.Taking.{HasOpened}
use Rattle.ice_journal_laws.proofs.Settling.{head_spent, head_missing}
use Rattle.ice_check_records.proofs.Walks.{few_trees}
use Rattle.ice_check_records.proofs.Grouped.{head_taken}
use Rattle.ice_check_records.proofs.groups.Groups.take_head.Goals as goal

pub returns-then-is_spent : goal.returns-then-is_spent
returns-then-is_spent c =
    let g = c.args.self.now in
    λ s quiet. head_spent (known_in g (coming.Head c.args.group) s) c.args.group (record_of c.args.line.now) (sym c.is_spent.ensures ∙ c.if-is_spent.true)

pub returns-in-Some : goal.returns-in-Some
returns-in-Some c =
    let g = c.args.self.now in
    let value = c.in-Some.value in
    let fits : SFits w64 value = search rules in
    head_taken c.args.group g c.begin.new.self (record_of c.args.line.now) value c.requires.ready.0 c.requires.ready.1 c.requires.kept (few_trees g.stated.exchange c.requires.kept.lawful).0 c.in-Some.ensures
    (subst (λ (z : ℤ). HasOpened c.args.group z g c.begin.new.self) (to_z-of_z w64 value fits) c.begin.ensures)

pub returns-in-None : goal.returns-in-None
returns-in-None c =
    let g = c.args.self.now in
    λ s quiet. head_missing (known_in g (coming.Head c.args.group) s) c.args.group (record_of c.args.line.now) c.in-None.ensures (sym c.is_spent.ensures ∙ c.if-is_spent.false)
