-- Laws of the journals of proxy sessions, as statements.
use Rattle.std.specs.Prelude.{ℕ, ◌≡◌, false, None, List, [], ◌∷◌, ◌++◌, length, ℤ}
use Rattle.std.specs.List.{AllByRecursion}
use Rattle.ice_defs.specs.Bounds.{Bounds}
use Rattle.ice_defs.specs.Prices.{Prices}
use Rattle.ice_defs.specs.Round.{Judged, Standing}
use Rattle.ice_defs.specs.Exchange.{Exchange, exact_of, opening_bounds}
use Rattle.ice_defs.specs.Lawful.{IsExchange}
use Rattle.ice_defs.specs.Session.{Going, Session, closes, standings}
use Rattle.ice_headline_laws.specs.Right.{bounds_after_rounds}
use Rattle.ice_journal.specs.Records.{Record, Version, session_kind}
use Rattle.ice_journal.specs.Records as line
use Rattle.ice_section.specs.Described.{section_records}
use Rattle.ice_journal_laws.specs.Fields.{submission_in, settlement_in}
use Rattle.ice_journal_laws.specs.State.{begun}
use Rattle.ice_journal_laws.specs.ShowingSession.{going_in, goings_in, settlements_in, IsShownGoing, AreShownGoing, IsShownSession}
use Rattle.ice_proxy.specs.Proposals.{IsProxyBid}
use Rattle.ice_proxy.specs.Sessions.{IsProxyFrom, IsProxySession}
use Rattle.ice_proxy_laws.specs.Journals.{SubmitsProxies}

-- neither a submission nor the beginning of a settlement
pub record IsQuiet (r : Record) : Type 0 where
  pub no_submission : submission_in r ≡ None
  pub no_settlement : settlement_in r ≡ None

-- the first bidders have bid, in order, each its proxy bid
abbrev pub IsProxyFront : Prices → ℤ → List Standing → List (List ℤ) → List Judged → Type 0
IsProxyFront p improve bidders truths [] = Unit {0}
IsProxyFront p improve (b ∷ bidders) (truth ∷ truths) (j ∷ judged) = IsProxyBid p improve b truth j.submission
    × IsProxyFront p improve bidders truths judged
IsProxyFront p improve bidders truths (j ∷ judged) = ⊥

-- what stands behind settlements that went on: nothing; a settlement
-- without a round; or one with a round as far as it has come
pub data IsRest (v : Version) (ex : Exchange) (truths : List (List ℤ)) (number : ℕ) (bounds : List Bounds) : List Record → Type 0 where
  nothing : IsRest v ex truths number bounds []
  begins : (rest : List Record) → AllByRecursion IsQuiet rest → IsRest v ex truths number bounds (line.settle number ∷ rest)
  goes_on : (g : Going) → closes ex.settings number g.settlement.regret ≡ false → IsShownGoing ex bounds g
      → IsProxyFront g.prices ex.settings.improve (standings ex bounds g.provisional.sets) truths g.judged
      → IsRest v ex truths number bounds (going_in v (length (exact_of ex)) number g)

-- the submissions of a journal that is written so far are proxy bids
abbrev pub RunSubmitsProxies : Type 0
RunSubmitsProxies =
    (v : Version) (ex : Exchange) (truths : List (List ℤ)) (going : List Going) (rest : List Record) → IsExchange ex
    → AreShownGoing ex 0 (opening_bounds ex) going → IsProxyFrom ex truths (opening_bounds ex) going
    → IsRest v ex truths (length going) (bounds_after_rounds ex (opening_bounds ex) going) rest
    → SubmitsProxies (begun v session_kind) truths (section_records ex ++ goings_in v (length (exact_of ex)) 0 going ++ rest)

-- and those of a whole one
abbrev pub SessionSubmitsProxies : Type 0
SessionSubmitsProxies =
    (v : Version) (s : Session) (truths : List (List ℤ)) → IsShownSession s → IsProxySession truths s
    → SubmitsProxies (begun v session_kind) truths
    (section_records s.exchange ++ settlements_in v (length (exact_of s.exchange)) 0 s.going s.closed)
