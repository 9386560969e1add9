use Rattle.std.proofs.Common.{ℕ, List, sym, subst}
use Rattle.ice_command_parts.specs.Call.{journal_limit}
use Rattle.ice_command_parts.specs.Parts.{AreFetched}
use Rattle.ice_command_parts.specs.Refusals.{refusal_text, refusal_status}
use Rattle.ice_commands.specs.CheckServed.{IsCheckFault, CheckAnswers, answer_line, answer_status}
use Rattle.ice_commands.proofs.Checking.{answer_answers}
use Rattle.ice_commands.proofs.Unwriting.{unfetched_answers, end_answers}
use Rattle.ice_commands.proofs.check.check.Goals as goal

pub returns-in-Ok-check-clause-served : goal.returns-in-Ok-check-clause-served
returns-in-Ok-check-clause-served g c =
    let before = g.H.Shelf.told c.args.shelf.now in
    let file = c.args.journal.now in
    let answer = c.in-Ok-check.answer in
    let told : AreFetched before file journal_limit c.deref.result.now = subst (λ (read : List ℕ). AreFetched before file journal_limit read) (sym c.deref.ensures.value) c.in-Ok.ensures.bytes in (
      answer_line answer,
      answer_status answer,
      answer_answers before (g.H.Shelf.told c.fetch.new.shelf) file answer (c.deref.result.now, c.in-Ok-check.ensures, told),
      c.say_answer.ensures,
    )

pub returns-in-Ok-clause-served : goal.returns-in-Ok-clause-served
returns-in-Ok-clause-served g c =
    let before = g.H.Shelf.told c.args.shelf.now in
    let file = c.args.journal.now in
    let end = c.in-Err-check.end in
    let refusal = c.refusal_of.result in (
      refusal_text refusal,
      refusal_status refusal,
      end_answers (λ call. CheckAnswers call file) IsCheckFault file (λ call h. h) (λ call h. h) (λ call h. h) before (g.H.Shelf.told c.fetch.new.shelf) c.in-Ok.bytes.items c.deref.result.now end refusal
          c.deref.ensures.value c.in-Ok.ensures.bytes (λ fault h. (end, c.in-Err-check.ensures, h)) c.refusal_of.ensures,
      c.say.ensures,
    )

pub returns-clause-served : goal.returns-clause-served
returns-clause-served g c =
    let refusal = c.in-Err.refusal in (
      refusal_text refusal,
      refusal_status refusal,
      unfetched_answers (λ call. CheckAnswers call c.args.journal.now) IsCheckFault c.args.journal.now (λ call h. h) (λ call h. h) (λ call h. h) (g.H.Shelf.told c.args.shelf.now) (g.H.Shelf.told c.fetch.new.shelf) refusal c.in-Err.ensures.refusal,
      c.say-in-Err.ensures,
    )
