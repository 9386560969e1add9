use Rattle.std.proofs.Common.{suc, refl, sym, ◌∙◌, ap, subst}
use Rattle.ice_journal.specs.Lines.{record_of}
use Rattle.ice_section.specs.Section.{Section}
use Rattle.ice_journal_laws.specs.Progress.{Progress, passing, IsAfter}
use Rattle.ice_check_records.specs.Heads.{version_of_head, kind_of_head}
use Rattle.ice_journal_laws.specs.Assigning.{section_state}
use Rattle.ice_check_records.proofs.describing.begin.Goals as goal

pub returns-in_ok-no_section-in-Some : goal.returns-in_ok-no_section-in-Some
returns-in_ok-no_section-in-Some c =
    let h = c.in-Some.head in
    let r = record_of c.args.line.now in
    record {
      after = λ n p first is. record {
        after = passing (section_state (version_of_head h) (kind_of_head h) (suc n) c.in_ok-no_section-in-Some.field-0.value);
        leads = subst (λ (q : Progress). IsAfter q r (passing (section_state (version_of_head h) (kind_of_head h) (suc n) c.in_ok-no_section-in-Some.field-0.value))) (sym is)
            (ap (λ m. (let q : Progress = passing (section_state (version_of_head h) (kind_of_head h) (suc m) c.in_ok-no_section-in-Some.field-0.value) in q)) first
            ∙ ap (λ (s : Section). passing (section_state (version_of_head h) (kind_of_head h) 2 s)) c.in_ok-no_section-in-Some.ensures ∙ sym c.in-Some.ensures);
        stands = refl;
      };
      number = λ n. tt;
      kept = λ e. c.in_ok-no_section-in-Some.ensures;
    }
