-- Sessions of proxies that run.
use Rattle.std.proofs.Common.{ℕ, suc, ◌<◌, ◌≡◌, List, [], ◌∷◌, ◌++◌, length, map, ℤ, refl, sym, ap, subst, arith, ◌∙◌}
use Rattle.std.proofs.lemmas.List.{length-map}
use Rattle.std.specs.List.{IsDistinct}
use Rattle.std.specs.Str.{bytes_eq}
use Rattle.ice_defs.specs.Trade.{Assignment, tree_of}
use Rattle.ice_defs.specs.Bounds.{Bounds, bounds_of}
use Rattle.ice_defs.specs.Prices.{Prices}
use Rattle.ice_defs.specs.Round.{Submission, Judged, Standing, next_bounds}
use Rattle.ice_defs.specs.Exchange.{Bidder, Exchange, trees_of, names_of, opening_bounds}
use Rattle.ice_defs.specs.Lawful.{AreBounds}
use Rattle.ice_defs.specs.Session.{Going, standings}
use Rattle.ice_headline_laws.specs.Right.{bounds_after_round, bounds_after_rounds}
use Rattle.ice_round_laws.specs.Keeping.{HaveBounds}
use Rattle.ice_round_laws.proofs.Naming.{standings_are_named}
use Rattle.ice_round.specs.SessionAt.{SessionAt, RoundAt, session_after}
use Rattle.ice_session_laws.specs.Running.{IsInRound, IsRunning}
use Rattle.ice_session_laws.proofs.Rounds.{round_ends}
use Rattle.ice_proxy.specs.Sessions.{IsProxyRound, IsProxyFrom, HoldTruths}
use Rattle.ice_proxy.proofs.Sessions.{all_hold, all_sure}
use Rattle.ice_proxy_laws.specs.Laws.{IsProxyFront}
use Rattle.ice_simulation.specs.Rounds.{submissions_in, AreProxyBids, AreProxyBidsIn, Stands}
use Rattle.ice_simulation.specs.Laws.{RoundStands, ProxyRoundGoesOn, ProxyRoundEnds}

-- ---- from bids to rounds

round_of_bids : (p : Prices) (improve : ℤ) (bidders : List Standing) (truths : List (List ℤ)) (judged : List Judged) → AreProxyBids p improve bidders truths (submissions_in judged) → IsProxyRound p improve bidders truths judged
round_of_bids p improve [] truths [] bids = tt
round_of_bids p improve [] truths (j ∷ judged) bids = absurd bids
round_of_bids p improve (b ∷ bidders) [] judged bids = absurd bids
round_of_bids p improve (b ∷ bidders) (t ∷ truths) [] bids = absurd bids
round_of_bids p improve (b ∷ bidders) (t ∷ truths) (j ∷ judged) bids = (bids.0, round_of_bids p improve bidders truths judged bids.1)

front_of_bids : (p : Prices) (improve : ℤ) (bidders : List Standing) (truths : List (List ℤ)) (judged : List Judged) (later : List Submission) → AreProxyBids p improve bidders truths (submissions_in judged ++ later)
    → IsProxyFront p improve bidders truths judged
front_of_bids p improve bidders truths [] later bids = tt
front_of_bids p improve [] truths (j ∷ judged) later bids = absurd bids
front_of_bids p improve (b ∷ bidders) [] (j ∷ judged) later bids = absurd bids
front_of_bids p improve (b ∷ bidders) (t ∷ truths) (j ∷ judged) later bids = (bids.0, front_of_bids p improve bidders truths judged later bids.1)

-- ---- one settlement more

after_more : (ex : Exchange) (bounds : List Bounds) (going : List Going) (g : Going) → bounds_after_rounds ex bounds (going ++ g ∷ []) ≡ bounds_after_round ex (bounds_after_rounds ex bounds going) g
after_more ex bounds [] g = refl
after_more ex bounds (first ∷ going) g = after_more ex (bounds_after_round ex bounds first) going g

from_more : (ex : Exchange) (truths : List (List ℤ)) (bounds : List Bounds) (going : List Going) (g : Going) → IsProxyFrom ex truths bounds going
    → IsProxyRound g.prices ex.settings.improve (standings ex (bounds_after_rounds ex bounds going) g.provisional.sets) truths g.judged → IsProxyFrom ex truths bounds (going ++ g ∷ [])
from_more ex truths bounds [] g proxies round = (round, tt)
from_more ex truths bounds (first ∷ going) g proxies round = (proxies.0, from_more ex truths (bounds_after_round ex bounds first) going g proxies.1 round)

have_from : (bidders : List Bidder) (bounds : List Bounds) → length bounds ≡ length bidders
    → ((b : ℕ) → b < length bidders → AreBounds (length (tree_of (map (λ (x : Bidder). x.tree) bidders) b)) (bounds_of bounds b)) → HaveBounds bidders bounds
have_from [] [] same each = tt
have_from [] (now ∷ bounds) same each = absurd (omega (arith, same))
have_from (b ∷ bidders) [] same each = absurd (omega (arith, same))
have_from (b ∷ bidders) (now ∷ bounds) same each = (each 0 (omega arith), have_from bidders bounds (omega (arith, same)) (λ k h. each (suc k) (omega (arith, h))))

module _ (going : List Going) (s : SessionAt) (last : Going) (r : RoundAt) (is : IsInRound going s last r) where
  count : length (trees_of s.exchange) ≡ length s.exchange.bidders
  count = length-map s.exchange.bidders _

  same_bids : (truths : List (List ℤ)) (bids : List Submission) → AreProxyBidsIn r truths bids
      → AreProxyBids last.prices s.exchange.settings.improve (standings s.exchange s.bounds last.provisional.sets) truths bids
  same_bids truths bids are =
      subst (λ (ex : Exchange). AreProxyBids last.prices ex.settings.improve (standings ex s.bounds last.provisional.sets) truths bids) is.exchange
      (subst (λ (bs : List Bounds). AreProxyBids last.prices r.exchange.settings.improve (standings r.exchange bs last.provisional.sets) truths bids) is.bounds
      (subst (λ (sets : Assignment). AreProxyBids last.prices r.exchange.settings.improve (standings r.exchange r.round.bounds sets) truths bids) is.sets
      (subst (λ (p : Prices). AreProxyBids p r.exchange.settings.improve (standings r.exchange r.round.bounds r.round.sets) truths bids) is.prices are)))

  here_stands : Stands (record r { exchange = s.exchange; round = record r.round { bounds = s.bounds; sets = last.provisional.sets } })
  here_stands = record {
    bounds_count = is.running.lawful.same_length ∙ count;
    bounds = λ b h. is.running.lawful.each b (omega (arith, h, count));
    sets_count = is.right.provisional.feasible.same_length ∙ count;
    satisfied = λ b h. is.right.provisional.feasible.satisfied b (omega (arith, h, count));
  }

pub round_stands : RoundStands
round_stands going s last r is =
    let here = here_stands going s last r is in
    subst (λ (ex : Exchange). Stands (record r { exchange = ex })) (sym is.exchange)
    (subst (λ (bs : List Bounds). Stands (record r { exchange = s.exchange; round = record r.round { bounds = bs } })) (sym is.bounds)
    (subst (λ (sets : Assignment). Stands (record r { exchange = s.exchange; round = record r.round { bounds = s.bounds; sets = sets } })) (sym is.sets) here))

pub proxy_round_goes_on : ProxyRoundGoesOn
proxy_round_goes_on truths going s last r judged later is bids =
    front_of_bids last.prices s.exchange.settings.improve (standings s.exchange s.bounds last.provisional.sets) truths judged later (same_bids going s last r is truths (submissions_in judged ++ later) bids)

pub proxy_round_ends : ProxyRoundEnds
proxy_round_ends truths going s last before after judged is hold proxies bids ends =
    let g : Going = record last { judged = judged } in
    let here = here_stands going s last before is in
    let round = round_of_bids last.prices s.exchange.settings.improve (standings s.exchange s.bounds last.provisional.sets) truths judged (same_bids going s last before is truths (submissions_in judged) bids) in
    let have : HaveBounds s.exchange.bidders s.bounds = have_from s.exchange.bidders s.bounds here.bounds_count here.bounds in
    let sure = all_sure s.exchange.bidders s.bounds truths last.provisional.sets here.sets_count have here.satisfied hold in
    let named : map (λ (b : Standing). b.name) (standings s.exchange s.bounds last.provisional.sets) ≡ names_of s.exchange = standings_are_named s.exchange s.bounds last.provisional.sets here.bounds_count here.sets_count in
    let next = all_hold last.prices s.exchange.settings.improve (standings s.exchange s.bounds last.provisional.sets) truths judged (subst (IsDistinct bytes_eq) (sym named) is.running.exchange.names) sure ends.right.round.each round in
    let run : IsRunning (going ++ record last { judged = judged } ∷ []) (session_after after) = round_ends going s (record last { judged = judged }) after ends in
    let then : next_bounds (standings s.exchange s.bounds last.provisional.sets) judged ≡ (session_after after).bounds =
    ap (λ (bs : List Bounds). next_bounds (standings s.exchange bs last.provisional.sets) judged) (sym is.running.bounds)
    ∙ sym (after_more s.exchange (opening_bounds s.exchange) going (record last { judged = judged }))
    ∙ ap (λ (ex : Exchange). bounds_after_rounds ex (opening_bounds ex) (going ++ record last { judged = judged } ∷ [])) (sym ends.exchange)
    ∙ run.bounds in (
      from_more s.exchange truths (opening_bounds s.exchange) going (record last { judged = judged }) proxies
          (subst (λ (bs : List Bounds). IsProxyRound last.prices s.exchange.settings.improve (standings s.exchange bs last.provisional.sets) truths judged) (sym is.running.bounds) round),
      subst (λ (bs : List Bounds). HoldTruths bs truths) then next.1,
      next.0,
    )
