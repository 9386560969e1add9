use Rattle.std.proofs.Common.{suc, refl, sym, subst}
use Rattle.ice_defs.specs.Exchange.{Exchange}
use Rattle.ice_journal.specs.Lines.{record_of}
use Rattle.ice_section.specs.Section.{exchange_in}
use Rattle.ice_check_records.specs.declared.groups.Groups.{Groups}
use Rattle.ice_journal_laws.specs.Next.{go_to}
use Rattle.ice_journal_laws.specs.Progress.{Progress, passing, IsAfter}
use Rattle.ice_journal_laws.specs.Assigning.{exchange_state}
use Rattle.ice_check_records.specs.Heads.{version_of_head, kind_of_head}
use Rattle.ice_check_records.specs.Openings.{opened_place}
use Rattle.ice_check_records.specs.Groups.{StandsFor, AreKept, IsReady}
use Rattle.ice_check_records.specs.Taking.{Begins}
use Rattle.ice_check_records.proofs.Behind.{section_opens}
use Rattle.ice_check_records.proofs.describing.open.Goals as goal

pub new-requires : goal.new-requires
new-requires c = (record_of c.args.line.now, c.requires.opens)

pub returns-in-Ok : goal.returns-in-Ok
returns-in-Ok c =
    let h = c.args.head in
    let s = c.args.section.value in
    let r = record_of c.args.line.now in
    let begins : Begins h (exchange_in s) c.args.opening c.in_ok-groups.groups = subst (λ (ex : Exchange). Begins h ex c.args.opening c.in_ok-groups.groups) c.in_ok-exchange.ensures c.in_ok-groups.ensures in
    record {
      after = λ n p first is. record {
        after = passing (go_to (opened_place c.args.opening) (exchange_state (version_of_head h) (kind_of_head h) (suc n) (exchange_in s)));
        leads = subst (λ (q : Progress). IsAfter q r (passing (go_to (opened_place c.args.opening) (exchange_state (version_of_head h) (kind_of_head h) (suc n) (exchange_in s))))) (sym is)
            (section_opens h n s r c.args.opening c.requires.settings c.requires.complete c.requires.opens);
        stands = (
          go_to (opened_place c.args.opening) (exchange_state (version_of_head h) (kind_of_head h) (suc n) (exchange_in s)),
          refl,
          refl,
          subst (λ (g : Groups). StandsFor g (go_to (opened_place c.args.opening) (exchange_state (version_of_head h) (kind_of_head h) (suc n) (exchange_in s)))) (sym c.in-Ok.ensures.ok) (begins.stands (suc n)),
        );
      };
      number = λ n. tt;
      kept = subst (λ (g : Groups). AreKept g × IsReady g g.next) (sym c.in-Ok.ensures.ok) (begins.kept, begins.ready);
    }
