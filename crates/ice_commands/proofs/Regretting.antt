-- From the journal that is written, or why there is none, to what `regret` answers.
use Rattle.std.proofs.Common.{◌∙◌, ap, sym, subst, ℕ, List, [], Ok}
use Rattle.ice_defs.specs.Exchange.{Exchange}
use Rattle.ice_defs.specs.Lawful.{IsExchange}
use Rattle.ice_edge.specs.Told.{Told}
use Rattle.ice_edge.specs.declared.status.Status.{Status}
use Rattle.ice_edge.specs.Taken.{Taken}
use Rattle.ice_journal.specs.Journal.{bytes_of}
use Rattle.ice_command_parts.specs.declared.refusal.Refusal.{Refusal}
use Rattle.ice_command_parts.specs.declared.refusal.Refusal.TheVariants.{File, Unread, NoMemory}
use Rattle.ice_command_parts.specs.Call.{file_limit}
use Rattle.ice_command_parts.specs.Files.{IsExchangeOf, IsExchangeFault, HoldsExchange}
use Rattle.ice_command_parts.specs.Lines.{refused_line, unread_line}
use Rattle.ice_command_parts.specs.Parts.{Answers, Serves}
use Rattle.ice_command_parts.specs.Refusals.{fault_of, refusal_text, refusal_status, Refuses}
use Rattle.ice_command_parts.specs.Journals.{WritesBehind}
use Rattle.ice_commands.specs.RegretServed.{IsRegretText, nothing, RegretAnswers}
use Rattle.ice_commands.specs.RegretJournal.{IsRegretJournal}
use Rattle.ice_command_parts.proofs.Parts.{told_in_call}
use Rattle.ice_commands.proofs.RegretJournal.{regret_answers}

pub journal_serves : (before after : Told) (file : List ℕ) (ex : Exchange) (old new : Taken) (result : Status) → IsExchange ex → HoldsExchange before file ex
    → WritesBehind [] (IsRegretJournal ex) old new result → Serves (λ call. RegretAnswers call file) before after old new result
journal_serves before after file ex old new result lawful told (journal, status, is, said) = (
  bytes_of journal,
  status,
  λ call part text. regret_answers ex lawful call file (told_in_call call before after file file_limit (λ bytes. IsExchangeOf bytes (Ok ex)) part told) journal status is text,
  said,
)

pub refusal_answers : (before after : Told) (file : List ℕ) (refusal : Refusal) → Refuses 1 file file_limit IsExchangeFault before after refusal
    → Answers (λ call. RegretAnswers call file) before after (refusal_text refusal) (refusal_status refusal)
refusal_answers before after file (File number fault) refuses call part text =
    let h = refuses call part in
    (fault_of fault, h.1, text ∙ ap (λ n. refused_line n (fault_of fault)) h.0)
refusal_answers before after file (Unread number) refuses call part text =
    let h = refuses call part in
    (h.1, text ∙ ap unread_line h.0)
refusal_answers before after file NoMemory refuses call part text = subst (IsRegretText call file) (sym text) nothing
