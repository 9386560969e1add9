use Rattle.std.proofs.Common.{◌+◌, [], sym, ap, ◌∙◌, subst, Err, rules}
use Rattle.std.proofs.Math.Numerals.{add-one}
use Rattle.std.proofs.lemmas.Bool.{cond-false}
use Rattle.ice_defs.specs.FileFault.{at_line}
use Rattle.ice_section.specs.declared.exchange_file.SoFar.{SoFar}
use Rattle.ice_section.specs.Section.{may_end}
use Rattle.ice_section.specs.FileSteps.{exchange_after}
use Rattle.ice_section.specs.FileStates.{exchange_so_far, IsNumbered}
use Rattle.ice_section.proofs.Files.{is_misplaced, kept_fault}
use Rattle.ice_section.proofs.exchange_file.ExchangeFile.finish.Goals as goal

pub returns-in-Head-clause-fault : goal.returns-in-Head-clause-fault
returns-in-Head-clause-fault c =
    is_misplaced _ 1 c.misplaced.result c.misplaced.ensures (ap (λ (r : SoFar). exchange_after c.args.lines (exchange_so_far r c.args.self.section) []) c.in-Head.is)

pub returns-in-Section-clause-fault : goal.returns-in-Section-clause-fault
returns-in-Section-clause-fault c =
    is_misplaced _ (c.args.lines + 1) c.misplaced-in-Section.result c.misplaced-in-Section.ensures
    (ap (λ (r : SoFar). exchange_after c.args.lines (exchange_so_far r c.args.self.section) []) c.in-Section.is ∙ ap (λ n. Err (at_line 50 n)) (sym (add-one c.args.lines)))

pub returns-then-not-may_end-clause-fault : goal.returns-then-not-may_end-clause-fault
returns-then-not-may_end-clause-fault c =
    is_misplaced _ c.args.lines c.misplaced-then-not-may_end.result c.misplaced-then-not-may_end.ensures
    (ap (λ (r : SoFar). exchange_after c.args.lines (exchange_so_far r c.args.self.section) []) c.in-End.is ∙ cond-false (may_end c.args.self.section) _ _ (search rules))

pub returns-in-Failed-clause-fault : goal.returns-in-Failed-clause-fault
returns-in-Failed-clause-fault c =
    kept_fault _ c.in-Failed.cause c.in-Failed.line (subst IsNumbered c.in-Failed.is c.requires.numbered)
    (ap (λ (r : SoFar). exchange_after c.args.lines (exchange_so_far r c.args.self.section) []) c.in-Failed.is)
