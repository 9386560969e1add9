use Rattle.std.proofs.Common.{rules, ◌≡◌, suc, refl, sym, subst}
use Rattle.ice_journal_laws.specs.Progress.{Progress, passing, IsAfter}
use Rattle.ice_journal_laws.specs.Assigning.{section_state}
use Rattle.std.specs.Prelude.{Ok, Err}
use Rattle.ice_journal.specs.Lines.{record_of}
use Rattle.ice_section.specs.Section.{Section, take_record}
use Rattle.ice_section.specs.Refusal.{IsRefusal}
use Rattle.ice_check_records.specs.declared.halt.Halt.{Halt}
use Rattle.ice_check_records.specs.declared.stage.Stage.TheVariants.{Describing}
use Rattle.ice_check_records.specs.Heads.{version_of_head, kind_of_head}
use Rattle.ice_check_records.specs.Stages.{LeadsOn}
use Rattle.ice_journal_laws.proofs.Places.{section_on}
use Rattle.ice_check_records.proofs.Settled.{settings_kept}
use Rattle.ice_check_records.proofs.Placing.{section_halts}
use Rattle.ice_check_records.proofs.describing.describe_more.Goals as goal

pub returns-in-Ok : goal.returns-in-Ok
returns-in-Ok c =
    let s = c.args.section.value in
    let h = c.args.head in
    let r = record_of c.args.line.now in
    let same : c.deref_mut.result.now ≡ s = search rules in
    let taken = subst (λ (x : Section). take_record x r ≡ Ok c.take.new.self) same c.in-Ok.ensures.taken in
    record {
      after = λ n p first is. record {
        after = passing (section_state (version_of_head h) (kind_of_head h) (suc n) c.take.new.self);
        leads = subst (λ (q : Progress). IsAfter q r (passing (section_state (version_of_head h) (kind_of_head h) (suc n) c.take.new.self))) (sym is) (section_on (version_of_head h) (kind_of_head h) n s c.take.new.self r taken);
        stands = refl;
      };
      number = λ n. tt;
      kept = settings_kept s c.take.new.self r c.requires.settings taken;
    }

pub returns-in-Err : goal.returns-in-Err
returns-in-Err c =
    let s = c.args.section.value in
    let r = record_of c.args.line.now in
    let same : c.deref_mut.result.now ≡ s = search rules in
    subst (λ (why : Halt). LeadsOn (Describing c.args.head c.args.section) r (Err why)) (sym c.section_halt.ensures)
    (section_halts c.args.head s r c.in-Err.fault c.requires.more (subst (λ (x : Section). IsRefusal (take_record x r) c.in-Err.fault) same c.in-Err.ensures.refused))
