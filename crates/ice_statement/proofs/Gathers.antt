-- What the records that were read have added to a statement, and what is still to come.
use Rattle.std.proofs.Common.{◌≡◌, ◌∙◌, ap, sym, subst, ℕ, List, [], ◌∷◌, ◌++◌, Some, None, Result, Err}
use Rattle.std.specs.Borrow.{Bor}
use Rattle.std.proofs.lemmas.List.Concat.{flat_map-cons, flat_map-append}
use Rattle.ice_edge.specs.declared.sink.SinkFault.{SinkFault}
use Rattle.ice_edge.specs.Puts.{Takes, FailsIn, IsPut, TakesAllBut}
use Rattle.ice_edge.proofs.Puts.{less_left, fails_next, none_left}
use Rattle.ice_edge.specs.Taken.{Taken}
use Rattle.ice_journal.specs.declared.line.Line.{Line}
use Rattle.ice_journal.specs.Records.{Record}
use Rattle.ice_journal.specs.Journal.{IsJournal}
use Rattle.ice_journal.specs.Lines.{record_of}
use Rattle.ice_reading.specs.Records.{StartsWithLine}
use Rattle.ice_statement_laws.specs.Statement.{named, ended}
use Rattle.ice_statement_laws.specs.Texts.{line_text, bytes_of_lines}
use Rattle.ice_statement_laws.specs.Gathering.{Gathering, new_gathering, gathering_after, lines_at, lines_gathered, gathered_lines}

-- the records that are still to come, and that all lines but theirs are put
pub record HasPut (start g : Gathering) (rest : List ℕ) (journal : List Record) (old now : Taken) : Type 0 where
  pub left : List Record
  pub is : IsJournal rest left
  pub all : TakesAllBut (bytes_of_lines (lines_gathered g left)) (bytes_of_lines (lines_gathered start journal)) old now

parts : (g : Gathering) (r : Record) (more : List Record) → bytes_of_lines (lines_gathered g (r ∷ more)) ≡ bytes_of_lines (lines_at g r) ++ bytes_of_lines (lines_gathered (gathering_after g r) more)
parts g r more = flat_map-append line_text (lines_at g r) (lines_gathered (gathering_after g r) more)

-- the first record is the next one
first_is : (after : List ℕ) (line : Line) (text : Bor (List ℕ)) (left : List Record) → StartsWithLine left (Some (line, text)) after → (more : List Record) × (left ≡ record_of line ∷ more) × IsJournal after more
first_is after line text [] starts = absurd starts
first_is after line text (r ∷ more) starts = (more, ap (λ (x : Record). x ∷ more) (sym starts.0), starts.1)

module _ (start g : Gathering) (rest after : List ℕ) (journal : List Record) (line : Line) (text : Bor (List ℕ)) (old mid new : Taken)
    (put : HasPut start g rest journal old mid) (starts : (left : List Record) → IsJournal rest left → StartsWithLine left (Some (line, text)) after) where
  abbrev r : Record
  r = record_of line

  to_come : (more : List Record) × (put.left ≡ r ∷ more) × IsJournal after more
  to_come = first_is after line text put.left (starts put.left put.is)

  all_is : TakesAllBut (bytes_of_lines (lines_at g r) ++ bytes_of_lines (lines_gathered (gathering_after g r) to_come.0)) (bytes_of_lines (lines_gathered start journal)) old mid
  all_is = subst (λ (t : List ℕ). TakesAllBut t (bytes_of_lines (lines_gathered start journal)) old mid) (ap (λ (rs : List Record). bytes_of_lines (lines_gathered g rs)) to_come.1 ∙ parts g r to_come.0) put.all

  -- what it adds is put
  pub one_put : (next : Gathering) → next ≡ gathering_after g r → Takes (bytes_of_lines (lines_at g r)) mid new → HasPut start next after journal old new
  one_put next e takes = subst (λ (x : Gathering). HasPut start x after journal old new) (sym e) (record {
    left = to_come.0;
    is = to_come.2;
    all = less_left (bytes_of_lines (lines_at g r)) (bytes_of_lines (lines_gathered (gathering_after g r) to_come.0)) (bytes_of_lines (lines_gathered start journal)) old mid new all_is takes;
  })

  -- or the sink fails in it
  pub one_fails : FailsIn (bytes_of_lines (lines_at g r)) mid new → FailsIn (bytes_of_lines (lines_gathered start journal)) old new
  one_fails fails = fails_next (bytes_of_lines (lines_at g r)) (bytes_of_lines (lines_gathered (gathering_after g r) to_come.0)) (bytes_of_lines (lines_gathered start journal)) old mid new all_is fails

-- with no record left all is put
pub all_put : (start g : Gathering) (rest after : List ℕ) (journal : List Record) (old new : Taken) → ((left : List Record) → IsJournal rest left → StartsWithLine left None after) → HasPut start g rest journal old new
    → Takes (bytes_of_lines (lines_gathered start journal)) old new
all_put start g rest after journal old new none put = by put.left (none put.left put.is) put.all
  where
    by : (left : List Record) → StartsWithLine left None after → TakesAllBut (bytes_of_lines (lines_gathered g left)) (bytes_of_lines (lines_gathered start journal)) old new
        → Takes (bytes_of_lines (lines_gathered start journal)) old new
    by [] is all = none_left (bytes_of_lines (lines_gathered start journal)) old new all
    by (r ∷ more) is all = absurd is

-- a sink that failed answers so
pub fails_as : (whole : List ℕ) (put : Result (Unit {0}) SinkFault) (fault : SinkFault) (old new : Taken) → put ≡ Err fault → FailsIn whole old new → IsPut whole put old new
fails_as whole put fault old new is fails = subst (λ r. IsPut whole r old new) (sym is) fails

-- the first line, those of the records, and the last one
pub parts_of_all : (name : List ℕ) (journal : List Record) → bytes_of_lines (gathered_lines name journal) ≡ line_text (named name) ++ (bytes_of_lines (lines_gathered (new_gathering name) journal) ++ line_text ended)
parts_of_all name journal =
    flat_map-cons line_text (named name) (lines_gathered (new_gathering name) journal ++ ended ∷ [])
    ∙ ap (λ (t : List ℕ). line_text (named name) ++ t) (flat_map-append line_text (lines_gathered (new_gathering name) journal) (ended ∷ []))
