-- The records of a session's settlements in version 2.
use Rattle.std.specs.Prelude.{ℕ, List, [], ◌∷◌, ◌++◌, length, map, Option, Some, None}
use Rattle.ice_defs.specs.Session.{Proved}
use Rattle.ice_defs.specs.PricingRun.{Member}
use Rattle.ice_defs.specs.Exchange.{Exchange, exact_of}
use Rattle.ice_journal.specs.Records.{Record, version_2, spent_end, limit_end, closed_end}
use Rattle.ice_journal.specs.Records as line
use Rattle.ice_journal_laws.specs.Written.{row_record, payment_record}
use Rattle.ice_journal_laws.specs.Showing.{group_records, regret_group_records}
use Rattle.ice_journal_laws.specs.ShowingSession.{opening_in, closed_in, without_group_records}
use Rattle.ice_search.specs.Results.{proved_found, proved_spent}
use Rattle.ice_search.specs.declared.results.Found.{Found}
use Rattle.ice_search.specs.declared.results.Spent.{Spent}
use Rattle.ice_regret.specs.Regretted.{proved_rival}
use Rattle.ice_regret.specs.declared.lead.Regret.{Regret}
use Rattle.ice_defs.specs.PricingLimit.{stage_of, limit_of}
use Rattle.ice_pricing.specs.declared.certificate.Pricing.{Pricing}
use Rattle.ice_price.specs.declared.ends.PriceLimit.{PriceLimit}
use Rattle.ice_vickrey.specs.Marginals.{proved_without}
use Rattle.ice_vickrey.specs.declared.marginal.Marginal.{Marginal}
use Rattle.ice_settled.specs.Shown.{settlement_of, closed_of, charges_of, going_of}
use Rattle.ice_settled.specs.declared.settled.Opening.{Opening}
use Rattle.ice_settled.specs.declared.settled.Closing.{Closing}
use Rattle.ice_settled.specs.declared.settled.Charged.{Charged}
use Rattle.ice_settled.specs.declared.settled.Halt.{Halt}

abbrev pub member_record : Member → Record
member_record m = line.pool m.bidder m.set

module _ (ex : Exchange) where
  abbrev group_of : Record → Proved → List Record
  group_of first p = group_records version_2 (length (exact_of ex)) first p

  -- the groups of the final sets, of their rival, and of the provisional sets
  abbrev pub final_records : Found → List Record
  final_records f = group_of (line.final f.value) (proved_found f)

  abbrev pub rival_records : Regret → List Record
  rival_records r = group_of (line.rival r.value) (proved_rival r)

  abbrev pub provisional_records : Found → List Record
  provisional_records f = group_of (line.provisional f.value) (proved_found f)

  -- the group without one bidder
  abbrev pub one_without : ℕ → Marginal → List Record
  one_without b m = group_of (line.without b m.without) (proved_without m)

  -- the groups without each bidder
  abbrev pub without_records : List Marginal → List Record
  without_records ms = without_group_records version_2 (length (exact_of ex)) 0 (map proved_without ms)

  -- final sets and their regret
  abbrev pub regret_records : Found → Regret → List Record
  regret_records best regret = regret_group_records version_2 (length (exact_of ex)) (settlement_of best regret)

  -- a settlement that opens a round, before its submissions
  abbrev pub opening_records : Opening → List Record
  opening_records o = line.settle o.number ∷ regret_records o.best o.regret ++ opening_in version_2 (length (exact_of ex)) (going_of o [])

  -- what was found where the branches were spent, and then the end
  abbrev pub spent_group : Spent → List Record
  spent_group s = group_of (line.spent s.value s.bound) (proved_spent s)

  abbrev pub spent_records : Spent → List Record
  spent_records s = spent_group s ++ (line.end spent_end ∷ [])

  -- the records of what was found, if it was
  abbrev pub found_final : Option Found → List Record
  found_final None = []
  found_final (Some best) = final_records best

  abbrev pub found_regret : Option Regret → List Record
  found_regret None = []
  found_regret (Some r) = rival_records r ++ (line.regret r.amount ∷ [])

  abbrev pub found_provisional : Option Found → List Record
  found_provisional None = []
  found_provisional (Some f) = provisional_records f

  -- a settlement of this number as far as it came
  abbrev pub halted_records : ℕ → Option Found → Option Regret → List Marginal → Option Found → List Record
  halted_records number best regret done provisional =
      line.settle number ∷ found_final best ++ found_regret regret ++ without_records done ++ found_provisional provisional

-- what the settlement that closes a session has behind the groups without each bidder
abbrev pub charged_records : Charged → List Record
charged_records c = line.threshold c.payments.cut c.payments.surplus ∷ map payment_record (charges_of c) ++ line.end closed_end ∷ []

-- prices with their certificates
abbrev pub pricing_records : Pricing → List Record
pricing_records p =
    line.prices p.prices ∷ line.accuracy p.delta p.accuracy.den ∷ map row_record p.accuracy.rows
    ++ line.balance p.balance.den ∷ map row_record p.balance.rows

-- the settlement that closes a session
abbrev pub closing_records : Closing → List Record
closing_records c = closed_in version_2 (length (exact_of c.exchange)) c.number (closed_of c.exchange c)

-- a settlement as far as it came
abbrev pub halt_records : Halt → List Record
halt_records h = halted_records h.exchange h.number h.best h.regret h.marginals.items h.provisional

-- where the pricing run ended
abbrev pub limit_records : PriceLimit → List Record
limit_records limit =
    line.limit (stage_of limit.stage) (limit_of limit.kind) limit.delta limit.den
    ∷ map member_record limit.pool.items ++ line.end limit_end ∷ []
