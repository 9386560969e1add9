-- From the line of a translation, or why there is none, to what `xor` answers.
use Rattle.std.proofs.Common.{◌≡◌, ◌∙◌, ℕ, List, Ok, ap}
use Rattle.ice_edge.specs.Told.{Told}
use Rattle.ice_edge.specs.declared.status.Status.TheVariants as status
use Rattle.ice_xor.specs.FlatFile.{flat_of}
use Rattle.ice_command_parts.specs.declared.refusal.Refusal as declared
use Rattle.ice_command_parts.specs.declared.refusal.Refusal.TheVariants.{File, Unread, NoMemory}
use Rattle.ice_command_parts.specs.Call.{file_limit}
use Rattle.ice_command_parts.specs.Lines.{refused_line, unread_line}
use Rattle.ice_command_parts.specs.Parts.{AreFetched, Answers}
use Rattle.ice_command_parts.specs.Refusals.{fault_of, refusal_text, refusal_status, Refuses}
use Rattle.ice_commands.specs.XorServed.{IsFlatFault, IsTranslationOf, XorAnswers}
use Rattle.ice_command_parts.proofs.Parts.{told_in_call, of_fetched}

pub line_answers : (before after : Told) (file line : List ℕ) → (bytes : List ℕ) × IsTranslationOf bytes line × AreFetched before file file_limit bytes → Answers (λ call. XorAnswers call file) before after line status.Done
line_answers before after file line (bytes, made, told) call part text = (
  made.0,
  of_fetched (call.before.holds file) file_limit bytes (λ other. flat_of other ≡ Ok made.0) made.1 (told_in_call call before after file file_limit (λ other. other ≡ bytes) part told),
  (made.2.0, text ∙ made.2.1),
)

pub refusal_answers : (before after : Told) (file : List ℕ) (refusal : declared.Refusal) → Refuses 1 file file_limit IsFlatFault before after refusal
    → Answers (λ call. XorAnswers call file) before after (refusal_text refusal) (refusal_status refusal)
refusal_answers before after file (File number fault) refuses call part text =
    let h = refuses call part in
    (fault_of fault, h.1, text ∙ ap (λ n. refused_line n (fault_of fault)) h.0)
refusal_answers before after file (Unread number) refuses call part text =
    let h = refuses call part in
    (h.1, text ∙ ap unread_line h.0)
refusal_answers before after file NoMemory refuses call part text = text
