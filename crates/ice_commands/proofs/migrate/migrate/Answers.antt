use Rattle.std.proofs.Common.{ℕ, List, sym, subst}
use Rattle.ice_command_parts.specs.Call.{journal_limit}
use Rattle.ice_command_parts.specs.Parts.{AreFetched}
use Rattle.ice_command_parts.specs.Refusals.{refusal_text, refusal_status}
use Rattle.ice_commands.specs.Unwritten.{unwritten_text, unwritten_status}
use Rattle.ice_commands.specs.MigrateServed.{NotMigrated, IsMigrateFault, MigrateAnswers}
use Rattle.ice_commands.proofs.Migrating.{journal_serves}
use Rattle.ice_commands.proofs.Unwriting.{unfetched_answers, unwritten_answers, unwritten_file, unwritten_is}
use Rattle.ice_commands.proofs.migrate.migrate.Goals as goal

pub returns-in-Ok-judge-clause-served : goal.returns-in-Ok-judge-clause-served
returns-in-Ok-judge-clause-served g c =
    let before = g.H.Shelf.told c.args.shelf.now in
    let file = c.args.journal.now in
    let read = c.deref-in-Ok-judge.result.now in
    let told : AreFetched before file journal_limit read = subst (λ (bytes : List ℕ). AreFetched before file journal_limit bytes) (sym c.deref-in-Ok-judge.ensures.value) c.in-Ok.ensures.bytes in
    journal_serves before (g.H.Shelf.told c.fetch.new.shelf) file read c.put_packed.result c.ended.result (g.K.Sink.taken c.args.out.now) (g.K.Sink.taken c.put_packed.new.out) told c.put_packed.ensures c.ended.ensures

pub returns-in-Ok-clause-served : goal.returns-in-Ok-clause-served
returns-in-Ok-clause-served g c =
    let before = g.H.Shelf.told c.args.shelf.now in
    let after = g.H.Shelf.told c.fetch.new.shelf in
    let file = c.args.journal.now in
    let bytes = c.deref.result.now in
    let end = c.in-Err-judge.end in
    let unwritten = c.unwritten_of.result in
    let told : AreFetched before file journal_limit bytes = subst (λ (read : List ℕ). AreFetched before file journal_limit read) (sym c.deref.ensures.value) c.in-Ok.ensures.bytes in
    let is = unwritten_is NotMigrated IsMigrateFault bytes end unwritten c.in-Err-judge.ensures (λ fault h. (end, c.in-Err-judge.ensures, h)) c.unwritten_of.ensures in (
      unwritten_text unwritten,
      unwritten_status unwritten,
      unwritten_answers (λ call. MigrateAnswers call file) IsMigrateFault file (λ call h. h) (λ call h. h) (λ call h. h) NotMigrated
          (λ call line rule bytes fails told text. (record { line = line; rule = rule }, (bytes, fails, told), text)) before after unwritten
          (unwritten_file NotMigrated IsMigrateFault before after file bytes unwritten told is),
      c.say.ensures,
    )

pub returns-clause-served : goal.returns-clause-served
returns-clause-served g c =
    let refusal = c.in-Err.refusal in
    let file = c.args.journal.now in (
      refusal_text refusal,
      refusal_status refusal,
      unfetched_answers (λ call. MigrateAnswers call file) IsMigrateFault file (λ call h. h) (λ call h. h) (λ call h. h) (g.H.Shelf.told c.args.shelf.now) (g.H.Shelf.told c.fetch.new.shelf) refusal c.in-Err.ensures.refusal,
      c.say-in-Err.ensures,
    )
