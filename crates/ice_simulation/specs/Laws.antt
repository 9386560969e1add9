-- Laws of sessions of proxies that run, as statements.
use Rattle.std.specs.Prelude.{◌≡◌, None, List, [], ◌∷◌, ◌++◌, ℤ}
use Rattle.ice_defs.specs.Round.{Submission, Judged}
use Rattle.ice_defs.specs.Exchange.{Exchange, opening_bounds}
use Rattle.ice_defs.specs.Lawful.{IsExchange}
use Rattle.ice_defs.specs.Session.{Going, standings}
use Rattle.ice_round.specs.SessionAt.{SessionAt, RoundAt, session_after}
use Rattle.ice_session_laws.specs.Running.{IsInRound}
use Rattle.ice_proxy.specs.Sessions.{IsProxyFrom, HoldTruths, AreAccepted}
use Rattle.ice_proxy_laws.specs.Laws.{IsProxyFront}
use Rattle.ice_simulation.specs.TruthFile.{truth_fault, truth_lists}
use Rattle.ice_simulation.specs.Rounds.{submissions_in, Stands, AreProxyBidsIn}

-- in a round of a session that runs, proxies may bid
abbrev pub RoundStands : Type 0
RoundStands = (going : List Going) (s : SessionAt) (last : Going) (r : RoundAt) → IsInRound going s last r → Stands r

-- a round in which the first of their bids are judged
abbrev pub ProxyRoundGoesOn : Type 0
ProxyRoundGoesOn =
    (truths : List (List ℤ)) (going : List Going) (s : SessionAt) (last : Going) (r : RoundAt) (judged : List Judged)
    (later : List Submission) → IsInRound going s last r
    → AreProxyBidsIn r truths (submissions_in judged ++ later)
    → IsProxyFront last.prices s.exchange.settings.improve (standings s.exchange s.bounds last.provisional.sets) truths judged

-- where all are judged, the session is one of proxies behind the
-- round too, its bounds hold the truths, and each bid is accepted
abbrev pub ProxyRoundEnds : Type 0
ProxyRoundEnds =
    (truths : List (List ℤ)) (going : List Going) (s : SessionAt) (last : Going) (before after : RoundAt) (judged : List Judged)
    → IsInRound going s last before → HoldTruths s.bounds truths
    → IsProxyFrom s.exchange truths (opening_bounds s.exchange) going → AreProxyBidsIn before truths (submissions_in judged)
    → IsInRound going s (record last { judged = judged }) after
    → IsProxyFrom s.exchange truths (opening_bounds s.exchange) (going ++ record last { judged = judged } ∷ [])
    × HoldTruths (session_after after).bounds truths × AreAccepted judged

-- ---- the file of true values

-- where it has no fault, the opening bounds hold what it says
abbrev pub TruthsHold : Type 0
TruthsHold = (ex : Exchange) (bids : List Submission) → IsExchange ex → truth_fault ex bids ≡ None
    → HoldTruths (opening_bounds ex) (truth_lists ex.bidders bids)
