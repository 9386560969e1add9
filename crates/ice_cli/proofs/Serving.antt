-- What is said of a part's answer serves the words.
use Rattle.std.proofs.Common.{◌≡◌, refl, sym, subst, ℕ, List, inl, inr, take, drop}
use Rattle.std.proofs.lemmas.List.{take-append-drop}
use Rattle.ice_edge.specs.Edge.{Rose, Appends}
use Rattle.ice_edge.specs.Taken.{Taken}
use Rattle.ice_edge.specs.declared.status.Status.{Status}
use Rattle.ice_edge.specs.declared.status.Status.TheVariants.{Words}
use Rattle.ice_command_parts.specs.Call.{Call, SinkFaultRose}
use Rattle.ice_command_parts.specs.Lines.{words_line}
use Rattle.ice_command_parts.specs.Parts.{HasPart, IsSaid, Serves}
use Rattle.ice_command_parts.proofs.Parts.{later_refl}
use Rattle.ice_words.specs.Command.{Command, IsCommand, IsNoCommand}
use Rattle.ice_cli.specs.Served.{CommandAnswers, IsServed, no_command, answers, cut_short}

-- a count of faults that rose in the sink rose in the call
rose_in_call : (call : Call) (old new : Taken) → call.sink_faults ≡ old.faults → call.sink_faults_after ≡ new.faults → Rose old.faults new.faults
    → SinkFaultRose call
rose_in_call call old new before after rose =
    subst (λ (n : ℕ). Rose n call.sink_faults_after) (sym before) (subst (λ (n : ℕ). Rose old.faults n) (sym after) rose)

-- what is said of the answer to a command serves the words that are that command
pub served : (call : Call) (c : Command) (IsAnswer : Call → Status → Type 0) (old new : Taken) → call.sink_faults ≡ old.faults
    → call.sink_faults_after ≡ new.faults → IsCommand call.words c
    → ((text : List ℕ) (status : Status) → IsAnswer (record call { text = text; status = status }) status → CommandAnswers (record call { text = text; status = status }) c)
    → Serves IsAnswer call.before call.after old new call.status
    → (written : List ℕ) × Appends old.written written new.written × IsServed (record call { text = written })
served call c IsAnswer old new sink_before sink_after is gives (text, status, answer, inl (e, appends)) =
    let whole : Call = record call { text = text; status = status } in
    let P : Status → Type 0 = λ s. IsServed (record call { text = text; status = s }) in
    let part : HasPart whole call.before call.after = record { begins = later_refl call.before; ends = later_refl call.after } in
    (text, appends, subst P (sym e) (answers c is (gives text status (answer whole part refl))))
served call c IsAnswer old new sink_before sink_after is gives (text, status, answer, inr (e, rose, (n, le, appends))) =
    let whole : Call = record call { text = text; status = status } in
    let part : HasPart whole call.before call.after = record { begins = later_refl call.before; ends = later_refl call.after } in
    let failed = rose_in_call call old new sink_before sink_after rose in
    (take n text, appends, cut_short text status e failed (answers c is (gives text status (answer whole part refl))) (drop n text, sym (take-append-drop n text)))

-- what is said to words that are no command serves them, where nothing else is told
pub refused_words : (call : Call) (old new : Taken) → call.sink_faults ≡ old.faults → call.sink_faults_after ≡ new.faults → IsNoCommand call.words
    → call.after ≡ call.before → IsSaid words_line Words old new call.status
    → (written : List ℕ) × Appends old.written written new.written × IsServed (record call { text = written })
refused_words call old new sink_before sink_after none same (inl (e, appends)) =
    (words_line, appends, no_command (record { none = none; untouched = same; status = e; text = refl }))
refused_words call old new sink_before sink_after none same (inr (e, rose, (n, le, appends))) =
    let refused : IsServed (record call { text = words_line; status = Words }) = no_command (record { none = none; untouched = same; status = refl; text = refl }) in
    let failed = rose_in_call call old new sink_before sink_after rose in
    (take n words_line, appends, cut_short words_line Words e failed refused (drop n words_line, sym (take-append-drop n words_line)))
