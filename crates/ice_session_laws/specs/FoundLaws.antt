-- What a settlement has found so far, as statements: it may be written, and what stands in the
-- journal then is unended.
use Rattle.std.specs.Prelude.{◌≤◌, ◌≡◌, false, IsTrue, ◌⊎◌, List, [], ◌++◌, length, map}
use Rattle.ice_defs.specs.Exchange.{exact_of}
use Rattle.ice_defs.specs.Session.{Going, closes}
use Rattle.ice_journal.specs.Records.{Record, version_2}
use Rattle.ice_journal_laws.specs.Positions.{before_without, position_records}
use Rattle.ice_search.specs.Results.{proved_found}
use Rattle.ice_vickrey.specs.Marginals.{proved_without}
use Rattle.ice_settled.specs.Shown.{settlement_of}
use Rattle.ice_round.specs.Settling.{SettlingAt, IsSettling, IsOfferOf}
use Rattle.ice_round.specs.declared.offer.Offer.{Offer}
use Rattle.ice_write_session.specs.Writable.{IsWritable, IsWritableSettlement, AreWritableWithout}
use Rattle.ice_session_laws.specs.Running.{IsRunning}
use Rattle.ice_session_laws.specs.Written.{run_records, IsUnended}
use Rattle.ice_session_laws.specs.Laws.{sought_records}

-- its number, the final sets with their regret, and the groups without the first bidders
abbrev pub settling_records : SettlingAt → List Record
settling_records x =
    position_records version_2 (length (exact_of x.session.exchange)) x.session.number
    (before_without (settlement_of x.best x.regret) (map proved_without x.done))

-- or the provisional sets
abbrev pub offered_records : SettlingAt → Offer → List Record
offered_records x o = sought_records x.session x.best x.regret o.provisional

-- ---- what is found may be written

pub record IsWritableSettling (x : SettlingAt) : Type 0 where
  pub number : x.session.number ≤ 20
  pub settlement : IsWritableSettlement (length (exact_of x.session.exchange)) (settlement_of x.best x.regret)
  pub withouts : AreWritableWithout (length (exact_of x.session.exchange)) x.done

abbrev pub SettlingMayBeWritten : Type 0
SettlingMayBeWritten = (going : List Going) (x : SettlingAt) → IsRunning going x.session → IsSettling x → IsWritableSettling x

abbrev pub OfferMayBeWritten : Type 0
OfferMayBeWritten = (going : List Going) (x : SettlingAt) (o : Offer) → IsRunning going x.session → IsOfferOf x o
    → IsWritable (length (exact_of x.session.exchange)) (proved_found o.provisional)

-- ---- its journal

-- where the settlement closes the session, with the groups without the first bidders, or all of
-- them; where it has none of these, whether it closes or not
abbrev pub SettlingIsUnended : Type 0
SettlingIsUnended =
    (going : List Going) (x : SettlingAt) → IsRunning going x.session → IsSettling x
    → IsTrue (closes x.session.exchange.settings x.session.number x.regret.amount) ⊎ (x.done ≡ [])
    → IsUnended (run_records x.session.exchange going ++ settling_records x)

-- where it goes on, with the provisional sets
abbrev pub OfferIsUnended : Type 0
OfferIsUnended =
    (going : List Going) (x : SettlingAt) (o : Offer) → IsRunning going x.session → IsSettling x
    → closes x.session.exchange.settings x.session.number x.regret.amount ≡ false → IsOfferOf x o
    → IsUnended (run_records x.session.exchange going ++ offered_records x o)
