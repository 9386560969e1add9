-- From why nothing is said of the bytes of a file to what a command answers.
use Rattle.std.proofs.Common.{◌≡◌, ◌∙◌, ap, subst, sym, ℕ, List}
use Rattle.ice_defs.specs.FileFault.{FileFault}
use Rattle.ice_edge.specs.declared.status.Status.{Status}
use Rattle.ice_edge.specs.declared.status.Status.TheVariants.{Input, No, ReadFault}
use Rattle.ice_edge.specs.declared.status.Status.TheVariants as status
use Rattle.ice_edge.specs.Told.{Told}
use Rattle.ice_journal_laws.specs.declared.rule.Rule.{Rule}
use Rattle.ice_journal_laws.specs.declared.answer.CheckEnd.{CheckEnd}
use Rattle.ice_reading.specs.declared.end.JournalEnd.{JournalEnd}
use Rattle.ice_reading.specs.declared.end.JournalEnd.TheVariants.{FailsTest}
use Rattle.ice_command_parts.specs.declared.refusal.Refusal.{Refusal}
use Rattle.ice_command_parts.specs.declared.refusal.Refusal.TheVariants.{File, Unread, NoMemory}
use Rattle.ice_commands.specs.declared.unwritten.Unwritten.{Unwritten}
use Rattle.ice_commands.specs.declared.unwritten.Unwritten.TheVariants.{Fails, Refused}
use Rattle.ice_command_parts.specs.Call.{Call, journal_limit, OfFile}
use Rattle.ice_command_parts.specs.Lines.{refused_line, unread_line}
use Rattle.ice_command_parts.specs.Parts.{AreFetched, Answers}
use Rattle.ice_command_parts.specs.Refusals.{fault_of, refusal_text, refusal_status, Refuses, NoFault, IsFaultOf}
use Rattle.ice_commands.specs.Output.{no_line}
use Rattle.ice_commands.specs.Ends.{IsEndFault, IsJournalFault, TellsEnd, RefusesFile}
use Rattle.ice_commands.specs.Unwritten.{unwritten_text, unwritten_status, IsUnwrittenOf, IsUnwritten}
use Rattle.ice_command_parts.proofs.Parts.{told_in_call}
use Rattle.ice_command_parts.proofs.Refusing.{fault_of_fetched, fault_anyway, not_had}

-- why nothing is said of a journal is why nothing is written of its bytes
pub unwritten_is : (EndsSo : List ℕ → JournalEnd → Type 0) (HasFault : List ℕ → FileFault → Type 0) (bytes : List ℕ) (end : JournalEnd) (unwritten : Unwritten)
    → EndsSo bytes end → ((fault : FileFault) → IsJournalFault end fault → HasFault bytes fault) → TellsEnd end unwritten → IsUnwrittenOf EndsSo HasFault bytes unwritten
unwritten_is EndsSo HasFault bytes end (Fails line rule) ends faults is = subst (EndsSo bytes) is ends
unwritten_is EndsSo HasFault bytes end (Refused refusal) ends faults is = fault_anyway 1 (IsJournalFault end) (HasFault bytes) refusal faults is

-- and of the file, where they were fetched
pub unwritten_file : (EndsSo : List ℕ → JournalEnd → Type 0) (HasFault : List ℕ → FileFault → Type 0) (before after : Told) (name bytes : List ℕ) (unwritten : Unwritten)
    → AreFetched before name journal_limit bytes → IsUnwrittenOf EndsSo HasFault bytes unwritten → IsUnwritten EndsSo HasFault name before after unwritten
unwritten_file EndsSo HasFault before after name bytes (Fails line rule) told fails = (bytes, fails, told)
unwritten_file EndsSo HasFault before after name bytes (Refused refusal) told fault = fault_of_fetched before after 1 name journal_limit bytes HasFault refusal told fault

-- ---- what is answered

-- a command that answers so where its one file is refused
module _ (Served : Call → Status → Type 0) (HasFault : List ℕ → FileFault → Type 0) (file : List ℕ) (at_fault : (call : Call) → RefusesFile call file HasFault Input → Served call Input)
    (unread : (call : Call) → RefusesFile call file HasFault ReadFault → Served call ReadFault) (in_want : (call : Call) → RefusesFile call file HasFault status.NoMemory → Served call status.NoMemory) where
  pub refusal_answers : (before after : Told) (refusal : Refusal) → Refuses 1 file journal_limit HasFault before after refusal → Answers Served before after (refusal_text refusal) (refusal_status refusal)
  refusal_answers before after (File number fault) refuses call part text =
      let h = refuses call part in
      at_fault call (fault_of fault, h.1, text ∙ ap (λ n. refused_line n (fault_of fault)) h.0)
  refusal_answers before after (Unread number) refuses call part text =
      let h = refuses call part in
      unread call (h.1, text ∙ ap unread_line h.0)
  refusal_answers before after NoMemory refuses call part text = in_want call text

  -- the file isn't had
  pub unfetched_answers : (before after : Told) (refusal : Refusal) → Refuses 1 file journal_limit NoFault before after refusal → Answers Served before after (refusal_text refusal) (refusal_status refusal)
  unfetched_answers before after refusal is = refusal_answers before after refusal (λ call part. not_had call 1 file journal_limit HasFault refusal (is call part))

  -- or nothing is said of its bytes
  pub end_answers : (before after : Told) (bytes read : List ℕ) (end : CheckEnd) (refusal : Refusal) → read ≡ bytes → AreFetched before file journal_limit bytes
      → ((fault : FileFault) → IsEndFault end fault → HasFault read fault) → IsFaultOf 1 (IsEndFault end) refusal → Answers Served before after (refusal_text refusal) (refusal_status refusal)
  end_answers before after bytes read end refusal same told faults is =
      refusal_answers before after refusal
      (fault_of_fetched before after 1 file journal_limit read HasFault refusal (subst (λ (all : List ℕ). AreFetched before file journal_limit all) (sym same) told) (fault_anyway 1 (IsEndFault end) (HasFault read) refusal faults is))

  -- or it fails a test
  pub unwritten_answers : (EndsSo : List ℕ → JournalEnd → Type 0)
      → ((call : Call) (line : ℕ) (rule : Rule) (bytes : List ℕ) → EndsSo bytes (FailsTest line rule) → OfFile call file journal_limit (λ told. told ≡ bytes) → call.text ≡ no_line (record { line = line; rule = rule }) → Served call No)
      → (before after : Told) (unwritten : Unwritten) → IsUnwritten EndsSo HasFault file before after unwritten → Answers Served before after (unwritten_text unwritten) (unwritten_status unwritten)
  unwritten_answers EndsSo failing before after (Fails line rule) (bytes, fails, told) call part text =
      failing call line rule bytes fails (told_in_call call before after file journal_limit (λ other. other ≡ bytes) part told) text
  unwritten_answers EndsSo failing before after (Refused refusal) is call part text = refusal_answers before after refusal is call part text
