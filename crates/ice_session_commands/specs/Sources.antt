-- Sources of the bids of rounds: what each asks, what it gives, and the journal that it leads to.
use Rattle.std.specs.Prelude.{ℕ, ◌≤◌, ◌≡◌, List, [], ◌∷◌, ◌++◌, length, map, string_bytes}
use Rattle.ice_edge.specs.Told.{Told}
use Rattle.ice_edge.specs.declared.status.Status.{Status}
use Rattle.ice_defs.specs.Round.{Submission}
use Rattle.ice_defs.specs.Exchange.{Exchange, opening_bounds}
use Rattle.ice_defs.specs.Session.{Going}
use Rattle.ice_journal.specs.Records.{Record}
use Rattle.ice_round.specs.SessionAt.{SessionAt, RoundAt}
use Rattle.ice_proxy.specs.Sessions.{IsProxyFrom, HoldTruths}
use Rattle.ice_simulation.specs.TruthFile.{truth_lists}
use Rattle.ice_simulation.specs.Rounds.{Stands, AreProxyBidsIn}
use Rattle.ice_command_parts.specs.Files.{HoldsBids}
use Rattle.ice_session_commands.specs.declared.source.Source.{Source}
use Rattle.ice_session_commands.specs.declared.source.Source.TheVariants.{Files, Proxies}
use Rattle.ice_session_commands.specs.Rounds.{submissions_of}
use Rattle.ice_session_commands.specs.RunJournal.{RunsTo}
use Rattle.ice_session_commands.specs.SimulateJournal.{IsSimulatedJournal}

-- the journal of a session that has the bids of this source
abbrev pub LeadsTo : Source → Exchange → Told → Told → List Record → Status → Type 0
LeadsTo (Files names) ex before after = RunsTo ex (map string_bytes names.now) before after
LeadsTo (Proxies truths) ex before after = IsSimulatedJournal (truth_lists ex.bidders truths.now) ex

-- a session of the exchange may begin: its opening bounds hold the true values of proxies
abbrev pub MayBegin : Source → Exchange → Type 0
MayBegin (Files names) ex = Unit {0}
MayBegin (Proxies truths) ex = HoldTruths (opening_bounds ex) (truth_lists ex.bidders truths.now)

-- the rounds of these settlements are the bids of these files, where it is told what lies there
abbrev pub AreHeld : Told → List (List ℕ) → List Going → Type 0
AreHeld shelf files [] = Unit {0}
AreHeld shelf [] (g ∷ later) = ⊥
AreHeld shelf (file ∷ files) (g ∷ later) = HoldsBids shelf file (submissions_of g) × AreHeld shelf files later

-- behind settlements whose rounds a source gave, this is left of it
abbrev pub IsLeft : Told → Source → List Going → SessionAt → Source → Type 0
IsLeft shelf (Files names) going s (Files left) =
    (done : List (List ℕ)) × (map string_bytes names.now ≡ done ++ map string_bytes left.now) × (length done ≡ length going)
    × AreHeld shelf done going
IsLeft shelf (Proxies truths) going s (Proxies same) =
    (same.now ≡ truths.now) × IsProxyFrom s.exchange (truth_lists s.exchange.bidders truths.now) (opening_bounds s.exchange) going
    × HoldTruths s.bounds (truth_lists s.exchange.bidders truths.now)
IsLeft shelf one going s other = ⊥

-- what it asks of a round to which it gives bids
abbrev pub MayGive : Source → RoundAt → Type 0
MayGive (Files names) r = r.number ≤ 19
MayGive (Proxies truths) r = Stands r × HoldTruths r.round.bounds (truth_lists r.exchange.bidders truths.now)

-- these are the bids that it gives, of the next file or of all proxies, and what is left of it
abbrev pub Gives : Source → Told → RoundAt → List Submission → Source → Type 0
Gives (Files names) shelf r bids (Files left) =
    (name : List ℕ) × (map string_bytes names.now ≡ name ∷ map string_bytes left.now) × HoldsBids shelf name bids
Gives (Proxies truths) shelf r bids (Proxies same) =
    (same.now ≡ truths.now) × AreProxyBidsIn r (truth_lists r.exchange.bidders truths.now) bids
Gives one shelf r bids other = ⊥
