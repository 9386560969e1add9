-- Where the records behind a stop's first one stand.
use Rattle.std.specs.Prelude.{ℕ, ◌≡◌, List, Option, Some, None}
use Rattle.ice_journal.specs.Records.{Record, version_1, spent_end}
use Rattle.ice_journal.specs.Journal.{IsJournal}
use Rattle.ice_journal.specs.Plain.{goods_in}
use Rattle.ice_journal_laws.specs.State.{State, at_spent_sets, at_spent_log, at_pool, at_end, done, goods_at}
use Rattle.ice_journal_laws.specs.State as state
use Rattle.ice_journal_laws.specs.Next.{bidder_count}
use Rattle.ice_journal_laws.specs.Checks.{Failure}
use Rattle.ice_migrate.specs.Reading.{bidders_in}
use Rattle.ice_migrate.specs.declared.place.Place.{Place}
use Rattle.ice_migrate.specs.declared.place.Place.TheVariants.{Sets, Log, Pool, End, Done}
use Rattle.ice_migrate.specs.declared.counts.Counts.{Counts}
use Rattle.ice_migrate.specs.declared.behind.FailedTest.{FailedTest}

abbrev pub place_of : Place → state.Place
place_of (Sets taken) = at_spent_sets taken
place_of (Log open_sides) = at_spent_log open_sides
place_of Pool = at_pool
place_of End = at_end spent_end
place_of Done = done

-- what a place counts
abbrev pub count_at : Place → ℕ
count_at (Sets taken) = taken
count_at (Log open_sides) = open_sides
count_at other = 0

-- the exchange of the state has so many goods and bidders, and its journal is of version 1
pub record HasCounts (s : State) (c : Counts) : Type 0 where
  pub version : s.version ≡ version_1
  pub goods : goods_at s ≡ c.goods
  pub bidders : bidder_count s ≡ c.bidders

pub record StandsAt (s : State) (c : Counts) (place : Place) (number : ℕ) : Type 0 where
  pub counts : HasCounts s c
  pub place_is : s.place ≡ place_of place
  pub line_is : s.line ≡ number

abbrev pub failure_of : FailedTest → Failure
failure_of f = record { line = f.line; rule = f.rule }

-- these are the counts of the records before, and of those after are the bytes that are left
abbrev pub AreCounted : List Record → List Record → Option Counts → List ℕ → Type 0
AreCounted before after None left = ⊥
AreCounted before after (Some c) left = (c.goods ≡ goods_in before) × (c.bidders ≡ bidders_in before) × IsJournal left after
