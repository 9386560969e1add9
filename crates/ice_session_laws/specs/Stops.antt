-- Sessions that stop: at a limit of the pricing, at a search that spent its branches, and in a
-- round.
use Rattle.std.specs.Prelude.{ℕ, ◌+◌, ◌<◌, ◌≡◌, List, [], ◌∷◌, ◌++◌, length, map, Option, None, Some}
use Rattle.ice_defs.specs.PricingLimit.{LimitKind}
use Rattle.ice_defs.specs.PricingRun.{Member, StageAt, EndsAtLimit}
use Rattle.ice_defs.specs.Exchange.{Exchange, opening_bounds}
use Rattle.ice_defs.specs.Lawful.{IsExchange}
use Rattle.ice_defs.specs.Session.{Going}
use Rattle.ice_defs.specs.declared.Group.TheVariants.{Provisional}
use Rattle.ice_journal.specs.Records.{Record, version_1, session_kind, limit_end, open_end}
use Rattle.ice_journal.specs.Records as line
use Rattle.ice_journal.specs.Plain.{plain}
use Rattle.ice_section.specs.Described.{section_records}
use Rattle.ice_journal_laws.specs.State.{at_prices, State, begun, settings_at, trees_at, goods_at, weights_at}
use Rattle.ice_journal_laws.specs.Next.{after_all}
use Rattle.ice_journal_laws.specs.Stops.{all_going_records, AreGoing}
use Rattle.ice_journal_laws.specs.Positions.{Position, before_final, before_rival, before_provisional, before_without}
use Rattle.ice_search.specs.Results.{proved_found}
use Rattle.ice_search.specs.declared.results.Found.{Found}
use Rattle.ice_regret.specs.declared.lead.Regret.{Regret}
use Rattle.ice_vickrey.specs.Marginals.{proved_without}
use Rattle.ice_vickrey.specs.declared.marginal.Marginal.{Marginal}
use Rattle.ice_settled.specs.Shown.{settlement_of}
use Rattle.ice_write_session.specs.Records.{member_record}

-- ---- at a limit

-- the session says these records and then stops at a limit of the pricing
pub record IsLimited (journal : List Record) : Type 0 where
  pub before : List Record
  pub at : StageAt
  pub kind : LimitKind
  pub pool : List Member
  pub says : plain journal ≡ line.head version_1 session_kind ∷ before ++ line.limit at.stage kind at.delta at.den ∷ map member_record pool
      ++ line.end limit_end ∷ []
  pub now : State
  pub reached : after_all (begun version_1 session_kind) before ≡ Some now
  pub awaited : now.place ≡ at_prices
  pub limit : EndsAtLimit (trees_at now) (weights_at now Provisional) now.offered (goods_at now) (settings_at now).cap kind at pool

-- ---- at a spent search

-- what a settlement had found where it comes to a search
pub data ComesTo : Option Found → Option Regret → Option Found → List Marginal → Position → Type 0 where
  to_final : ComesTo None None None [] before_final
  to_rival : {best : Found} → ComesTo (Some best) None None [] (before_rival (proved_found best))
  to_provisional : {best : Found} {regret : Regret}
      → ComesTo (Some best) (Some regret) None [] (before_provisional (settlement_of best regret))
  to_without : {best : Found} {regret : Regret} {done : List Marginal}
      → ComesTo (Some best) (Some regret) None done (before_without (settlement_of best regret) (map proved_without done))

-- ---- in a round

-- the record of a round that has no file, or whose file is refused or can't be read
pub data StopsRound (number : ℕ) : Record → Type 0 where
  no_file : StopsRound number (line.end open_end)
  file_refused : (fault : ℕ) (place : List ℕ) → StopsRound number (line.refused (number + 2) fault place)
  file_unread : StopsRound number (line.unread (number + 2))

-- a session whose last settlement goes on, and that has no further round file
pub record OpenSession : Type 0 where
  pub exchange : Exchange
  pub going : List Going

abbrev pub open_records : OpenSession → List Record
open_records o = line.head version_1 session_kind ∷ section_records o.exchange ++ all_going_records 0 o.going ++ line.end open_end ∷ []

pub record IsRightOpen (o : OpenSession) : Type 0 where
  pub exchange : IsExchange o.exchange
  pub some : 0 < length o.going
  pub settlements : AreGoing o.exchange 0 (opening_bounds o.exchange) o.going
