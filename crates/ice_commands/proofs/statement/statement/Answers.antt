use Rattle.std.proofs.Common.{ℕ, List, sym, subst, ◌∙◌}
use Rattle.ice_journal_laws.specs.Answers.{OfJournal}
use Rattle.ice_statement.specs.Judging.{HasStatement}
use Rattle.ice_command_parts.specs.Call.{journal_limit}
use Rattle.ice_command_parts.specs.Parts.{AreFetched, Serves}
use Rattle.ice_command_parts.specs.Refusals.{refusal_text, refusal_status}
use Rattle.ice_commands.specs.StatementServed.{NotStated, IsStatementFault, StatementAnswers}
use Rattle.ice_commands.specs.Unwritten.{unwritten_text, unwritten_status}
use Rattle.ice_commands.proofs.Stating.{statement_serves}
use Rattle.ice_commands.proofs.Unwriting.{unfetched_answers, unwritten_answers, unwritten_file}
use Rattle.ice_commands.proofs.statement.statement.Goals as goal

pub returns-in-Ok-judge_bytes-clause-served : goal.returns-in-Ok-judge_bytes-clause-served
returns-in-Ok-judge_bytes-clause-served g c =
    let before = g.H.Shelf.told c.args.shelf.now in
    let after = g.H.Shelf.told c.fetch.new.shelf in
    let file = c.args.journal.now in
    let read = c.deref-in-Ok-judge_bytes.result.now in
    let told : AreFetched before file journal_limit read = subst (λ (bytes : List ℕ). AreFetched before file journal_limit bytes) (sym c.deref-in-Ok-judge_bytes.ensures.value) c.in-Ok.ensures.bytes in
    let name = c.as_bytes.result.now in
    let stated : OfJournal read (HasStatement c.args.name.now) = subst (λ (bytes : List ℕ). OfJournal bytes (HasStatement c.args.name.now)) (c.deref.ensures.value ∙ sym c.deref-in-Ok-judge_bytes.ensures.value) c.in-Ok-judge_bytes.ensures.journal in
    let serves : List ℕ → Type 0 = λ bidder. Serves (λ call. StatementAnswers call file bidder) before after (g.K.Sink.taken c.args.out.now) (g.K.Sink.taken c.put_statement.new.out) c.ended.result in
    subst serves c.as_bytes.ensures.value
    (statement_serves before after file name read c.put_statement.result c.ended.result (g.K.Sink.taken c.args.out.now) (g.K.Sink.taken c.put_statement.new.out) told (subst (λ (bidder : List ℕ). OfJournal read (HasStatement bidder)) (sym c.as_bytes.ensures.value) stated) c.put_statement.ensures c.ended.ensures)

pub returns-in-Ok-clause-served : goal.returns-in-Ok-clause-served
returns-in-Ok-clause-served g c =
    let before = g.H.Shelf.told c.args.shelf.now in
    let after = g.H.Shelf.told c.fetch.new.shelf in
    let unwritten = c.in-Err-judge_bytes.unwritten in
    let file = c.args.journal.now in
    let name = c.args.name.now in
    let told : AreFetched before file journal_limit c.deref.result.now = subst (λ (read : List ℕ). AreFetched before file journal_limit read) (sym c.deref.ensures.value) c.in-Ok.ensures.bytes in (
      unwritten_text unwritten,
      unwritten_status unwritten,
      unwritten_answers (λ call. StatementAnswers call file name) (IsStatementFault name) file (λ call h. h) (λ call h. h) (λ call h. h) (NotStated name)
          (λ call line rule bytes fails told text. (record { line = line; rule = rule }, (bytes, fails, told), text)) before after unwritten
          (unwritten_file (NotStated name) (IsStatementFault name) before after file c.deref.result.now unwritten told c.in-Err-judge_bytes.ensures.unstated),
      c.say.ensures,
    )

pub returns-clause-served : goal.returns-clause-served
returns-clause-served g c =
    let refusal = c.in-Err.refusal in
    let file = c.args.journal.now in
    let name = c.args.name.now in (
      refusal_text refusal,
      refusal_status refusal,
      unfetched_answers (λ call. StatementAnswers call file name) (IsStatementFault name) file (λ call h. h) (λ call h. h) (λ call h. h) (g.H.Shelf.told c.args.shelf.now) (g.H.Shelf.told c.fetch.new.shelf) refusal c.in-Err.ensures.refusal,
      c.say-in-Err.ensures,
    )
