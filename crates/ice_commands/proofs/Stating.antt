-- From a journal that is judged to what `statement` answers.
use Rattle.std.proofs.Common.{◌≡◌, ℕ, List, Result, MatchResult}
use Rattle.ice_edge.specs.declared.sink.SinkFault.{SinkFault}
use Rattle.ice_edge.specs.declared.status.Status.{Status}
use Rattle.ice_edge.specs.declared.status.Status.TheVariants.{Done, WriteFault}
use Rattle.ice_edge.specs.Puts.{IsPut}
use Rattle.ice_edge.specs.Told.{Told}
use Rattle.ice_edge.specs.Taken.{Taken}
use Rattle.ice_journal.specs.Records.{Record}
use Rattle.ice_journal.specs.Journal.{IsJournal}
use Rattle.ice_journal_laws.specs.Answers.{OfJournal}
use Rattle.ice_statement.specs.Judging.{HasStatement}
use Rattle.ice_statement_laws.specs.Statement.{Own, public_records, statement_of}
use Rattle.ice_statement_laws.specs.Texts.{IsOwnOf}
use Rattle.ice_command_parts.specs.Call.{journal_limit}
use Rattle.ice_command_parts.specs.Parts.{AreFetched, Serves}
use Rattle.ice_commands.specs.StatementServed.{StatementAnswers}
use Rattle.ice_command_parts.proofs.Parts.{told_in_call}
use Rattle.ice_command_parts.proofs.Writing.{put_said}

-- the statement is put
pub statement_serves : (before after : Told) (file name bytes : List ℕ) (put : Result (Unit {0}) SinkFault) (result : Status) (old new : Taken) → AreFetched before file journal_limit bytes
    → OfJournal bytes (HasStatement name)
    → ((journal : List Record) (own : Own) → IsJournal bytes journal → IsOwnOf journal name own → IsPut (statement_of (public_records journal) own) put old new)
    → MatchResult put (λ done. result ≡ Done) (λ fault. result ≡ WriteFault)
    → Serves (λ call. StatementAnswers call file name) before after old new result
statement_serves before after file name bytes put result old new told (journal, is, has) puts ended =
    let text = statement_of (public_records journal) has.own in (
      text,
      Done,
      λ call part said. (
        bytes,
        (has.own, record { journal = journal; spelled = is; checks = has.checks; own_is = has.is; text_is = said }),
        told_in_call call before after file journal_limit (λ other. other ≡ bytes) part told,
      ),
      put_said put text Done result old new (puts journal has.own is has.is) ended,
    )
