-- The order of records behind a stop, one after another.
use Rattle.std.proofs.Common.{◌≡◌, ◌+◌, ◌∙◌, ℕ, suc, List, refl, ap, arith}
use Rattle.std.specs.Prelude.{Option, Some, None, option_map}
use Rattle.ice_journal.specs.declared.line.Line.{Line}
use Rattle.ice_journal.specs.Records.{Record}
use Rattle.ice_journal.specs.Journal.{IsJournal}
use Rattle.ice_journal.specs.Lines.{record_of}
use Rattle.ice_journal_laws.specs.State.{State}
use Rattle.ice_journal_laws.specs.State as state
use Rattle.ice_journal_laws.specs.Next.{next, next_at, go_to, to_line}
use Rattle.ice_journal_laws.specs.Checks.{Failure}
use Rattle.ice_migrate.specs.Order.{short_unless, order_or, order_from}
use Rattle.ice_reading.specs.Records.{Starts}
use Rattle.ice_migrate.specs.Stopped.{place_of, HasCounts, StandsAt}
use Rattle.ice_migrate.specs.declared.place.Place.{Place}
use Rattle.ice_migrate.specs.declared.counts.Counts.{Counts}
use Rattle.ice_migrate.proofs.Coming.{Opens, opens, none_left}

-- the records of the bytes stand in order as all of them do, from a state with this place
pub record Comes (bytes : List ℕ) (c : Counts) (place : Place) (number : ℕ) (whole : Option Failure) : Type 0 where
  pub at : State
  pub left : List Record
  pub journal : IsJournal bytes left
  pub stands : StandsAt at c place number
  pub same : whole ≡ order_from at left

-- what the record of the next line makes of the state
module _ (bytes after : List ℕ) (c : Counts) (place : Place) (number : ℕ) (whole : Option Failure) (found : Line) (to : Option Place) (x : Comes bytes c place number whole)
    (starts : (left : List Record) → IsJournal bytes left → Starts left (Some found) after)
    (leads : (s : State) → HasCounts s c → s.place ≡ place_of place → next_at s (place_of place) (record_of found) ≡ option_map (λ p. go_to (place_of p) s) to) where
  more : Opens found after x.left
  more = opens found after x.left (starts x.left x.journal)

  next_is : next x.at (record_of found) ≡ option_map (to_line (suc x.at.line)) (option_map (λ p. go_to (place_of p) x.at) to)
  next_is = ap (λ (p : state.Place). option_map (to_line (suc x.at.line)) (next_at x.at p (record_of found))) x.stands.place_is ∙ ap (option_map (to_line (suc x.at.line))) (leads x.at x.stands.counts x.stands.place_is)

  whole_is : whole ≡ order_or x.at (option_map (to_line (suc x.at.line)) (option_map (λ p. go_to (place_of p) x.at) to)) (λ s. order_from s more.rest)
  whole_is = x.same ∙ ap (order_from x.at) more.is ∙ ap (λ (o : Option State). order_or x.at o (λ s. order_from s more.rest)) next_is

-- the record stands in its place
pub comes_more : (bytes after : List ℕ) (c : Counts) (place : Place) (number : ℕ) (whole : Option Failure) (found : Line) (p : Place) → Comes bytes c place number whole
    → ((left : List Record) → IsJournal bytes left → Starts left (Some found) after)
    → ((s : State) → HasCounts s c → s.place ≡ place_of place → next_at s (place_of place) (record_of found) ≡ Some (go_to (place_of p) s)) → Comes after c p (number + 1) whole
comes_more bytes after c place number whole found p x starts leads =
    let rest = more bytes after c place number whole found (Some p) x starts leads in
    record {
      at = to_line (suc x.at.line) (go_to (place_of p) x.at);
      left = rest.rest;
      journal = rest.journal;
      stands = record {
        counts = record { version = x.stands.counts.version; goods = x.stands.counts.goods; bidders = x.stands.counts.bidders };
        place_is = refl;
        line_is = omega (arith, x.stands.line_is);
      };
      same = whole_is bytes after c place number whole found (Some p) x starts leads;
    }

-- nothing is left
module _ (bytes after : List ℕ) (c : Counts) (place : Place) (number : ℕ) (whole : Option Failure) (x : Comes bytes c place number whole) (starts : (left : List Record) → IsJournal bytes left → Starts left None after) where
  end_is : whole ≡ short_unless x.at (place_of place)
  end_is = x.same ∙ ap (order_from x.at) (none_left after x.left (starts x.left x.journal)) ∙ ap (short_unless x.at) x.stands.place_is
