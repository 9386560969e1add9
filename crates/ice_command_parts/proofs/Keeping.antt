-- All that is told stays the same at a status that no file caused.
use Rattle.std.proofs.Common.{◌≡◌, ◌∙◌, sym, subst, inl, inr}
use Rattle.ice_edge.specs.Told.{Told}
use Rattle.ice_edge.specs.declared.status.Status.{Status}
use Rattle.ice_edge.specs.Taken.{Taken}
use Rattle.ice_command_parts.specs.declared.refusal.Refusal.{Refusal}
use Rattle.ice_command_parts.specs.Keeping.{KeepsTold}
use Rattle.ice_command_parts.specs.Parts.{IsSaid}
use Rattle.ice_command_parts.specs.Refusals.{refusal_text, refusal_status}

-- after a part that kept it
pub kept_behind : (before mid after : Told) (status : Status) → mid ≡ before → KeepsTold mid after status → KeepsTold before after status
kept_behind before mid after status same keeps = λ no_file. keeps no_file ∙ same

-- what is said of a refusal
pub refusal_keeps : (before after : Told) (refusal : Refusal) (old new : Taken) (result : Status) → KeepsTold before after (refusal_status refusal)
    → IsSaid (refusal_text refusal) (refusal_status refusal) old new result → KeepsTold before after result
refusal_keeps before after refusal old new result keeps (inl (e, appends)) = subst (KeepsTold before after) (sym e) keeps
refusal_keeps before after refusal old new result keeps (inr (e, rose, front)) = subst (KeepsTold before after) (sym e) (λ no_file. absurd no_file)
