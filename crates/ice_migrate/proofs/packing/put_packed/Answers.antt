use Rattle.std.proofs.lemmas.Result.{err_from_is_err_and}
use Rattle.std.proofs.Common.{subst, sym}
use Rattle.ice_journal.specs.Journal.{IsJournal}
use Rattle.ice_journal.specs.Lines.{kind_of}
use Rattle.ice_migrate.proofs.Puts.{has_head, head_fails, head_then}
use Rattle.ice_migrate.proofs.packing.put_packed.Goals as goal

pub returns-in_err-put_record : goal.returns-in_err-put_record
returns-in_err-put_record g c =
    let (journal, is, migrated) = c.requires in
    let at : IsJournal c.new-records.result journal = subst (λ b. IsJournal b journal) (sym c.new-records.ensures) is in
    let head = has_head journal c.in-Some-Head.field-0 c.in-Some-Head.field-0-0 c.in-Some-Head.kind c.next.new.self migrated.old c.in-Some-Head.field-0-is (c.in-Some-Head.ensures.next journal at) in
    let p = err_from_is_err_and c.from_residual.result c.from_residual.ensures.1 in
    (journal, is, head_fails journal (g.K.Sink.taken c.args.out.now) migrated (kind_of c.in-Some-Head.kind) c.next.new.self head c.from_residual.result p.0 (g.K.Sink.taken c.put_record.new.out) p.1 c.in_err-put_record.ensures)

pub returns : goal.returns
returns g c =
    let (journal, is, migrated) = c.requires in
    let at : IsJournal c.new-records.result journal = subst (λ b. IsJournal b journal) (sym c.new-records.ensures) is in
    let head = has_head journal c.in-Some-Head.field-0 c.in-Some-Head.field-0-0 c.in-Some-Head.kind c.next.new.self migrated.old c.in-Some-Head.field-0-is (c.in-Some-Head.ensures.next journal at) in (
      journal,
      is,
      head_then journal (g.K.Sink.taken c.args.out.now) migrated (kind_of c.in-Some-Head.kind) c.next.new.self head c.of_all-goods.result.goods (g.K.Sink.taken c.put_record.new.out) c.put_behind_head.result
          (g.K.Sink.taken c.put_behind_head.new.out) (c.of_all-goods.ensures journal is) c.in_ok-put_record.ensures (c.put_behind_head.ensures head.rest head.is),
    )
