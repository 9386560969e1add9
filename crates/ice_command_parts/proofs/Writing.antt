-- A text that is put, or a journal piece by piece: each seen as one text with one status.
use Rattle.std.proofs.Common.{◌≡◌, refl, sym, subst, ℕ, List, [], ◌++◌, Result, Ok, Err, MatchResult, inl, inr, append_assoc}
use Rattle.std.proofs.lemmas.List.{append-nil}
use Rattle.std.proofs.lemmas.List.Concat.{flat_map-append}
use Rattle.ice_edge.specs.declared.sink.SinkFault.{SinkFault}
use Rattle.ice_edge.specs.declared.status.Status.{Status}
use Rattle.ice_edge.specs.declared.status.Status.TheVariants.{WriteFault}
use Rattle.ice_edge.specs.Puts.{Takes, FailsIn, IsPut}
use Rattle.ice_edge.proofs.Puts.{Appends-nothing, Appends-append, append-front, rose-kept}
use Rattle.ice_edge.specs.Taken.{Taken}
use Rattle.ice_journal.specs.Records.{Record}
use Rattle.ice_journal.specs.Journal.{bytes_of}
use Rattle.ice_journal.specs.Spelling.{line_of}
use Rattle.ice_command_parts.specs.Parts.{IsSaid}
use Rattle.ice_command_parts.specs.Journals.{WritesBehind}

-- a text that is put, and the status that the put's result gives
pub put_said : (put : Result (Unit {0}) SinkFault) (text : List ℕ) (status result : Status) (old new : Taken) → IsPut text put old new → MatchResult put (λ done. result ≡ status) (λ fault. result ≡ WriteFault)
    → IsSaid text status old new result
put_said (Ok done) text status result old new takes ended = inl (ended, takes.appends)
put_said (Err fault) text status result old new fails ended = inr (ended, fails.rose, fails.front)

said_behind : (t u : List ℕ) (status result : Status) (old mid new : Taken) → Takes t old mid → IsSaid u status mid new result → IsSaid (t ++ u) status old new result
said_behind t u status result old mid new takes (inl (e, appends)) = inl (e, Appends-append old.written mid.written new.written t u takes.appends appends)
said_behind t u status result old mid new takes (inr (e, rose, front)) = inr (e, rose-kept old.faults mid.faults new.faults takes.kept rose, append-front old.written mid.written new.written t u takes.appends front)

module _ (front : List Record) (IsJournal : List Record → Status → Type 0) where
  -- nothing more is put
  pub nothing_more : (old : Taken) (status : Status) → IsJournal front status → WritesBehind front IsJournal old old status
  nothing_more old status is = ([], status, subst (λ (rs : List Record). IsJournal rs status) (sym (append-nil front)) is, inl (refl, Appends-nothing old.written))

  -- a last piece is put
  pub last_piece : (piece : List Record) (put : Result (Unit {0}) SinkFault) (status result : Status) (old new : Taken) → IsJournal (front ++ piece) status → IsPut (bytes_of piece) put old new
      → MatchResult put (λ done. result ≡ status) (λ fault. result ≡ WriteFault) → WritesBehind front IsJournal old new result
  last_piece piece (Ok done) status result old new is takes ended = (piece, status, is, inl (ended, takes.appends))
  last_piece piece (Err fault) status result old new is fails ended = (piece, status, is, inr (ended, fails.rose, fails.front))

  -- the sink fails in a piece
  pub failed_piece : (piece : List Record) (status : Status) (old new : Taken) → IsJournal (front ++ piece) status → FailsIn (bytes_of piece) old new → WritesBehind front IsJournal old new WriteFault
  failed_piece piece status old new is fails = (piece, status, is, inr (refl, fails.rose, fails.front))

  -- a piece is put, and more comes behind it
  pub piece_then : (piece : List Record) (result : Status) (old mid new : Taken) → Takes (bytes_of piece) old mid → WritesBehind (front ++ piece) IsJournal mid new result
      → WritesBehind front IsJournal old new result
  piece_then piece result old mid new takes (rest, status, is, said) = (
    piece ++ rest,
    status,
    subst (λ (rs : List Record). IsJournal rs status) (append_assoc front piece rest) is,
    subst (λ (t : List ℕ). IsSaid t status old new result) (sym (flat_map-append line_of piece rest)) (said_behind (bytes_of piece) (bytes_of rest) status result old mid new takes said),
  )
