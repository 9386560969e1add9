-- Pieces of a journal that end it.
use Rattle.std.proofs.Common.{sym, subst, inl, inr, ℕ, List, [], ◌∷◌, ◌++◌}
use Rattle.std.proofs.lemmas.List.{append-nil}
use Rattle.ice_edge.specs.declared.status.Status.{Status}
use Rattle.ice_edge.specs.Taken.{Taken}
use Rattle.ice_edge.specs.Told.{Told}
use Rattle.ice_journal.specs.Records.{Record}
use Rattle.ice_journal.specs.Spelling.{line_of}
use Rattle.ice_journal.specs.Journal.{bytes_of}
use Rattle.ice_command_parts.specs.Journals.{WritesBehind}
use Rattle.ice_command_parts.specs.Keeping.{KeepsTold}
use Rattle.ice_command_parts.specs.Parts.{IsSaid}

pub said_piece : (front : List Record) (P : List Record → Status → Type 0) (piece : List Record) (status result : Status) (old new : Taken) → P (front ++ piece) status → IsSaid (bytes_of piece) status old new result
    → WritesBehind front P old new result
said_piece front P piece status result old new is said = (piece, status, is, said)

pub writes_also : (front : List Record) (P Q : List Record → Status → Type 0) (result : Status) (old new : Taken) → ((journal : List Record) (status : Status) → P journal status → Q journal status)
    → WritesBehind front P old new result → WritesBehind front Q old new result
writes_also front P Q result old new also (rest, status, is, said) = (rest, status, also (front ++ rest) status is, said)

-- where all that is told is kept at the status, it is kept at the result
pub said_keeps : (text : List ℕ) (before after : Told) (status result : Status) (old new : Taken) → KeepsTold before after status → IsSaid text status old new result → KeepsTold before after result
said_keeps text before after status result old new keeps (inl (e, appends)) = subst (KeepsTold before after) (sym e) keeps
said_keeps text before after status result old new keeps (inr (e, rose, front)) = subst (KeepsTold before after) (sym e) (λ no_file. absurd no_file)

-- one record is one line
pub one_line : (r : Record) (status result : Status) (old new : Taken) → IsSaid (line_of r) status old new result → IsSaid (bytes_of (r ∷ [])) status old new result
one_line r status result old new said = subst (λ (t : List ℕ). IsSaid t status old new result) (sym (append-nil (line_of r))) said
