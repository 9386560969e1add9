-- What is known of a settlement while the records of a journal are read.
use Rattle.std.specs.Prelude.{ℕ, ◌≡◌, List, [], ◌∷◌, ◌++◌, ℤ, Option, Some, None}
use Rattle.ice_defs.specs.Exchange.{names_of}
use Rattle.ice_defs.specs.Prices.{Prices}
use Rattle.ice_journal.specs.Records.{Record}
use Rattle.ice_journal.specs.Records as line
use Rattle.ice_journal_laws.specs.declared.rule.Rule.TheVariants as rule
use Rattle.ice_journal_laws.specs.State.{State}
use Rattle.ice_journal_laws.specs.Progress.{Progress, nothing, passing, failed, IsAfter, Leads}
use Rattle.ice_check_records.specs.declared.due.DueRegret.{DueRegret}
use Rattle.ice_check_records.specs.Checking.{Checking, HasCome, ComesTo}
use Rattle.ice_check_records.specs.Due.{TellsDue}
use Rattle.ice_replay.specs.declared.tests.WatchedTests.{WatchedTests}
use Rattle.ice_replay.specs.declared.settlement.Replay.{Replay}
use Rattle.ice_replay.specs.declared.watch.Watch.{Watch}
use Rattle.ice_replay.specs.declared.watch.Watch.TheVariants as watch
use Rattle.ice_replay.specs.Settlements.{OfSession, IsSession, Settles, prices_from}
use Rattle.ice_replay.specs.Replays.{names_in, bounds_in, Tells}

-- no test failed yet but that of a stop
abbrev pub IsFine : Progress → Type 0
IsFine (passing s) = Unit {0}
IsFine (failed failure) = failure.rule ≡ rule.Closed
IsFine other = ⊥

-- the first prices that are still to come
abbrev pub prices_to_come : Progress → List Record → Option Prices
prices_to_come (passing s) more = prices_from s more
prices_to_come other more = None

-- the first prices behind the settlement's regret, where these records follow
abbrev pub prices_behind : {number : ℕ} {s : State} {records : List Record} → Settles number s records → List Record → Option Prices
prices_behind x more = prices_from x.state (line.regret x.amount ∷ x.rest ++ more)

-- the regret has come, and the prices are those that are still to come
pub record HasBegun (number : ℕ) (replay : Replay) (p : Progress) (s : State) (records : List Record) : Type 0 where
  pub told : Tells number replay s records
  pub none : replay.prices ≡ None
  pub prices : (more : List Record) → prices_behind told.settles more ≡ prices_to_come p more

-- the prices, or what stands in their place, have come too
pub record IsWhole (number : ℕ) (replay : Replay) (s : State) (records : List Record) : Type 0 where
  pub told : Tells number replay s records
  pub prices : (more : List Record) → prices_behind told.settles more ≡ replay.prices

abbrev pub IsWatched : ℕ → Watch → Progress → List Record → Type 0
IsWatched number watch.Start p records = records ≡ []
IsWatched number watch.Other p records = (r : Record) × (rest : List Record) × (records ≡ r ∷ rest) × ¬ IsSession records
IsWatched number watch.Before p records = OfSession (λ s rest. IsFine p → ¬ Settles number s rest) records
IsWatched number (watch.Begun replay) p records = OfSession (λ s rest. IsFine p → HasBegun number replay p s rest) records
IsWatched number (watch.Whole replay) p records = OfSession (λ s rest. IsFine p → IsWhole number replay s rest) records

-- the checker has come to this settlement, wherever the tests may have come
abbrev pub IsComeTo : DueRegret → Checking → Type 0
IsComeTo due c = (p : Progress) → HasCome c p → TellsDue (Some due) p

-- what is said of this settlement, whose regret is this amount, before its prices
pub record IsStated (due : DueRegret) (amount : ℤ) (replay : Replay) : Type 0 where
  pub number : replay.number ≡ due.number
  pub names : names_in replay.bidders.items ≡ names_of due.exchange.now
  pub bounds : bounds_in replay.bidders.items ≡ due.bounds.now
  pub final : replay.final_value ≡ due.final_value
  pub regret : replay.regret ≡ amount
  pub none : replay.prices ≡ None

-- a record more, which the checker is yet to take
abbrev pub WatchesOn : ℕ → Watch → Checking → Record → Watch → Type 0
WatchesOn number w c r after =
    (records : List Record) (p q : Progress) → Leads nothing records p → HasCome c p → IsAfter p r q
    → IsWatched number w p records → IsWatched number after q (records ++ r ∷ [])

-- a record takes the tests on, and makes more known of the settlement
pub record TestsOn (s : WatchedTests) (r : Record) (t : WatchedTests) : Type 0 where
  pub number : t.number ≡ s.number
  pub takes : (p : Progress) → HasCome s.checker p → ComesTo p r t.checker
  pub watches : WatchesOn s.number s.watch s.checker r t.watch
