use Rattle.std.proofs.Common.{sym, subst}
use Rattle.std.specs.Prelude.{Option, IfSome, option_map, OnOk}
use Rattle.ice_journal.specs.Lines.{record_of}
use Rattle.ice_journal.specs.Ranges.{IsRecord}
use Rattle.ice_journal.specs.declared.line.Line.{Line}
use Rattle.ice_check.specs.declared.lines.Lines.{Lines}
use Rattle.ice_check.specs.declared.lines.Lines.TheVariants as known
use Rattle.ice_check.specs.Standing.{ReadsOn, IsWithin}
use Rattle.ice_check.proofs.WholeLines.{record_reads_on, fault_reads_on, within_fed}
use Rattle.ice_check.proofs.lines.Lines.take.Goals as goal

pub returns-in-Some-clause-read : goal.returns-in-Some-clause-read
returns-in-Some-clause-read c =
    let new = c.feed.new.self in
    let lawful = subst (λ (f : Option Line). IfSome f (λ line. IsRecord (record_of line))) c.in-Some.is c.requires.lawful in
    subst (λ (l : Lines). OnOk c.feed.result (ReadsOn l (option_map record_of c.args.found.now) (known.Records new))) (sym c.in-Records.is)
    (subst (λ (f : Option Line). OnOk c.feed.result (ReadsOn (known.Records c.in-Records.checker) (option_map record_of f) (known.Records new))) (sym c.in-Some.is)
    (record_reads_on c.feed.result c.in-Records.checker new (record_of c.in-Some.line) lawful c.feed.ensures.after c.feed.ensures.line))

pub returns-in-Some-clause-within : goal.returns-in-Some-clause-within
returns-in-Some-clause-within c = λ n within.
    within_fed c.feed.result n c.in-Records.checker.line c.feed.new.self.line (subst (λ (l : Lines). IsWithin n l) c.in-Records.is within) c.feed.ensures.line c.feed.ensures.still

pub returns-in-Grammar-clause-read : goal.returns-in-Grammar-clause-read
returns-in-Grammar-clause-read c =
    subst (λ (l : Lines). ReadsOn l (option_map record_of c.args.found.now) l) (sym c.in-Grammar.is) (fault_reads_on c.in-Grammar.line (option_map record_of c.args.found.now))
