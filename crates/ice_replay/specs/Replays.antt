-- What is answered of the bytes of a journal and the number of a settlement.
use Rattle.std.specs.Prelude.{ℕ, ◌≡◌, ◌≢◌, List, map, Some, Result, Ok, Err}
use Rattle.ice_defs.specs.Bounds.{Bounds}
use Rattle.ice_defs.specs.Exchange.{names_of}
use Rattle.ice_journal.specs.Records.{Record}
use Rattle.ice_journal_laws.specs.declared.rule.Rule.TheVariants as rule
use Rattle.ice_journal_laws.specs.State.{State, exchange_at}
use Rattle.ice_journal_laws.specs.Checks.{Failure, FirstFailure}
use Rattle.ice_journal_laws.specs.Answers.{OfJournal}
use Rattle.ice_reading.specs.Ends.{EndsBytes}
use Rattle.ice_replay.specs.declared.settlement.BidderBounds.{BidderBounds}
use Rattle.ice_replay.specs.declared.settlement.Replay.{Replay}
use Rattle.ice_replay.specs.declared.settlement.ReplayEnd.{ReplayEnd}
use Rattle.ice_replay.specs.declared.settlement.ReplayEnd.TheVariants.{Journal, NoSettlement}
use Rattle.ice_replay.specs.Settlements.{OfSession, IsSession, IsReplayable, Settles, prices_of}

abbrev pub names_in : List BidderBounds → List (List ℕ)
names_in bidders = map (λ (b : BidderBounds). b.name) bidders

abbrev pub bounds_in : List BidderBounds → List Bounds
bounds_in bidders = map (λ (b : BidderBounds). b.bounds) bidders

-- a replay tells the settlement with this number, but for its prices
pub record Tells (number : ℕ) (replay : Replay) (s : State) (records : List Record) : Type 0 where
  pub settles : Settles number s records
  pub number_is : replay.number ≡ number
  pub names : names_in replay.bidders.items ≡ names_of (exchange_at settles.state)
  pub bounds : bounds_in replay.bidders.items ≡ settles.state.bounds
  pub final : replay.final_value ≡ settles.state.final.value
  pub regret : replay.regret ≡ settles.amount

-- and its prices, if they stand
pub record IsReplay (number : ℕ) (replay : Replay) (s : State) (records : List Record) : Type 0 where
  pub told : Tells number replay s records
  pub prices : replay.prices ≡ prices_of told.settles

-- a session fails this test first, and it isn't that of a stop
abbrev pub FailsOther : List Record → Failure → Type 0
FailsOther journal failure = IsSession journal × FirstFailure journal (Some failure) × (failure.rule ≢ rule.Closed)

-- the failed test of a session comes before that the settlement isn't there
abbrev pub ReplaysBytes : List ℕ → ℕ → Result Replay ReplayEnd → Type 0
ReplaysBytes bytes number (Ok replay) = OfJournal bytes (λ journal. IsReplayable journal × OfSession (IsReplay number replay) journal)
ReplaysBytes bytes number (Err (Journal end)) = EndsBytes (λ journal. ¬ IsSession journal) FailsOther bytes end
ReplaysBytes bytes number (Err NoSettlement) =
    OfJournal bytes (λ journal. IsReplayable journal × OfSession (λ s records. ¬ Settles number s records) journal)
