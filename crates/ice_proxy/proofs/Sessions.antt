-- Sessions of proxies: their bounds hold the truths.
use Rattle.std.proofs.Common.{ℕ, zero, suc, ◌<◌, ◌≡◌, true, false, List, [], ◌∷◌, length, map, ℤ, refl, sym, ap, subst, arith, ◌∙◌}
use Rattle.std.proofs.lemmas.Int.{ints}
use Rattle.std.proofs.lemmas.List.{length-map}
use Rattle.std.specs.List.{AllZip, IsDistinct}
use Rattle.std.specs.Str.{bytes_eq}
use Rattle.std.proofs.lemmas.Bool.{eq-eqb}
use Rattle.ice_defs.specs.declared.Verdict.{Verdict}
use Rattle.ice_defs.specs.declared.Verdict.TheVariants.{Accepted}
use Rattle.ice_defs.specs.Tree.{Tree}
use Rattle.ice_defs.specs.Set.{IsSatisfied}
use Rattle.ice_defs.specs.Trade.{Assignment, tree_of, set_of, weights_of}
use Rattle.ice_defs.specs.Bounds.{Bounds, bounds_of, IsInside, IsProfile}
use Rattle.ice_defs.specs.Prices.{Prices}
use Rattle.ice_defs.specs.Judging.{IsJudged}
use Rattle.ice_defs.specs.Round.{Submission, Judged, Standing, stated_bounds, is_acceptance, is_accepted, of_name, IsVerdict, JudgesInOrder, bounds_after, next_bounds, has_tree_length}
use Rattle.ice_defs.specs.Exchange.{Bidder, Exchange, names_of, opening_bounds}
use Rattle.ice_defs.specs.Lawful.{AreBounds, IsExchange}
use Rattle.ice_defs.specs.Session.{standings_from, standings, Going, Closed}
use Rattle.ice_headline_laws.specs.Right.{IsRightFrom, bounds_after_round, bounds_after_rounds, final_bounds}
use Rattle.ice_defs.proofs.Naming.{bytes_eq-same}
use Rattle.ice_round_laws.specs.Keeping.{HaveBounds}
use Rattle.ice_round_laws.proofs.Keeping.{rounds_keep_bounds, opening_have_bounds, bounds_count}
use Rattle.ice_round_laws.proofs.Naming.{standings_are_named}
use Rattle.ice_round_laws.proofs.Apart.{AreOthers, AreJudged, others_judged, others_next}
use Rattle.ice_rules.proofs.Exact.{accepted_alone}
use Rattle.ice_headline_laws.proofs.Promised.{right_gives_headline}
use Rattle.ice_proxy.specs.Proposals.{proposal, IsProxyBid}
use Rattle.ice_proxy.specs.Sessions.{IsProxyRound, IsProxyFrom, HoldTruths, AreAccepted, HoldThroughout}
use Rattle.ice_proxy.specs.Laws.{ProxiesHold, ProxiesReachRegret}
use Rattle.ice_proxy.proofs.Proposals.{proposed_bounds, proposed_inside}
use Rattle.ice_defs.proofs.Multiples.{one_time}

-- ---- one bidder

-- a satisfied set, bounds of the tree, and true values inside them
pub record IsSure (bidder : Standing) (truth : List ℤ) : Type 0 where
  satisfied : IsSatisfied bidder.tree bidder.set
  bounds : AreBounds (length bidder.tree) bidder.bounds
  inside : IsInside 1 bidder.bounds truth

counts_nodes : (p : Prices) (improve : ℤ) (bidder : Standing) (truth : List ℤ) (s : Submission) → IsSure bidder truth → IsProxyBid p improve bidder truth s → has_tree_length bidder.tree s ≡ true
counts_nodes p improve bidder truth s sure (named, (a, is, e)) =
    let new : AreBounds (length bidder.tree) (proposal bidder.bounds truth a) = proposed_bounds (length bidder.tree) bidder.bounds truth a sure.bounds sure.inside in
    let lo : length s.lo ≡ length bidder.tree = ap (λ (b : Bounds). length b.lo) e ∙ new.lo_count in
    let hi : length s.hi ≡ length bidder.tree = ap (λ (b : Bounds). length b.hi) e ∙ new.hi_count in
    rw (eq-eqb (length s.lo) (length bidder.tree) lo, eq-eqb (length s.hi) (length bidder.tree) hi) refl

proxy_accepted : (p : Prices) (improve : ℤ) (bidder : Standing) (truth : List ℤ) (s : Submission) (verdict : Verdict) → IsSure bidder truth → IsProxyBid p improve bidder truth s
    → IsVerdict p improve bidder false s verdict → verdict ≡ Accepted
proxy_accepted p improve bidder truth s verdict sure bid is =
    let accepted : IsJudged bidder.tree p improve bidder.set bidder.bounds (stated_bounds s) Accepted =
    subst (λ (b : Bounds). IsJudged bidder.tree p improve bidder.set bidder.bounds b Accepted) (sym bid.1.2) bid.1.1.accepted in
    accepted_alone bidder.tree p improve bidder.set bidder.bounds (stated_bounds s) verdict (is.0 (counts_nodes p improve bidder truth s sure bid)) accepted

proxy_holds : (p : Prices) (improve : ℤ) (bidder : Standing) (truth : List ℤ) (s : Submission) → IsSure bidder truth → IsProxyBid p improve bidder truth s → IsInside 1 (stated_bounds s) truth
proxy_holds p improve bidder truth s sure (named, (a, is, e)) =
    subst (λ (b : Bounds). IsInside 1 b truth) (sym e) (proposed_inside (length bidder.tree) bidder.bounds truth a sure.bounds sure.inside)

-- ---- names apart

abbrev names_from : List Standing → List (List ℕ)
names_from bidders = map (λ (b : Standing). b.name) bidders

module _ (p : Prices) (improve : ℤ) where
  -- the bids of others are none of this name
  none_named : (name : List ℕ) (bidders : List Standing) (truths : List (List ℤ)) (judged : List Judged) → AreOthers name bidders → IsProxyRound p improve bidders truths judged → of_name name judged ≡ []
  none_named name [] truths [] others round = refl
  none_named name [] truths (j ∷ judged) others round = absurd round
  none_named name (b ∷ bidders) [] judged others round = absurd round
  none_named name (b ∷ bidders) (t ∷ truths) [] others round = absurd round
  none_named name (b ∷ bidders) (t ∷ truths) (j ∷ judged) others (bid, round) =
      let is : bytes_eq name j.submission.name ≡ false = ap (bytes_eq name) bid.0 ∙ others.0 in
      rw is (none_named name bidders truths judged others.1 round)

-- ---- all bidders

taken : (old : Bounds) (j : Judged) → j.verdict ≡ Accepted → bounds_after old (j ∷ []) ≡ stated_bounds j.submission
taken old j accepted =
    let is : is_accepted j ≡ true = ap is_acceptance accepted in
    rw is refl

pub all_hold : (p : Prices) (improve : ℤ) (bidders : List Standing) (truths : List (List ℤ)) (judged : List Judged) → IsDistinct bytes_eq (names_from bidders) → AllZip IsSure bidders truths
    → AreJudged p improve bidders judged → IsProxyRound p improve bidders truths judged → AreAccepted judged × HoldTruths (next_bounds bidders judged) truths
unfolding IsDistinct
all_hold p improve [] [] [] distinct sure are round = (tt, tt)
all_hold p improve [] [] (j ∷ judged) distinct sure are round = absurd round
all_hold p improve [] (t ∷ truths) judged distinct sure are round = absurd sure
all_hold p improve (b ∷ bidders) [] judged distinct sure are round = absurd sure
all_hold p improve (b ∷ bidders) (t ∷ truths) [] distinct sure are round = absurd round
all_hold p improve (b ∷ bidders) (t ∷ truths) (j ∷ judged) distinct sure are (bid, round) =
    let named : j.submission.name ≡ b.name = bid.0 in
    let own : bytes_eq b.name j.submission.name ≡ true = bytes_eq-same b.name j.submission.name (sym named) in
    let alone : of_name b.name judged ≡ [] = none_named p improve b.name bidders truths judged distinct.0 round in
    let mine : of_name b.name (j ∷ judged) ≡ j ∷ [] = rw own (ap (λ (js : List Judged). j ∷ js) alone) in
    let judges : JudgesInOrder p improve b false (j ∷ []) = subst (JudgesInOrder p improve b false) mine are.0 in
    let accepted : j.verdict ≡ Accepted = proxy_accepted p improve b t j.submission j.verdict sure.0 bid judges.0 in
    let rest = all_hold p improve bidders truths judged distinct.1 sure.1 (others_judged p improve b.name bidders j judged distinct.0 named are.1) round in
    let first : bounds_after b.bounds (of_name b.name (j ∷ judged)) ≡ stated_bounds j.submission = ap (bounds_after b.bounds) mine ∙ taken b.bounds j accepted in (
      (accepted, rest.0),
      (
        subst (λ (now : Bounds). IsInside 1 now t) (sym first) (proxy_holds p improve b t j.submission sure.0 bid),
        subst (λ (bs : List Bounds). HoldTruths bs truths) (sym (others_next b.name bidders j judged distinct.0 named)) rest.1,
      ),
    )

-- ---- the bidders of an exchange

abbrev trees_in : List Bidder → List Tree
trees_in bidders = map (λ (bidder : Bidder). bidder.tree) bidders

pub all_sure : (bidders : List Bidder) (bounds : List Bounds) (truths : List (List ℤ)) (sets : Assignment) → length sets ≡ length bidders → HaveBounds bidders bounds
    → ((b : ℕ) → b < length bidders → IsSatisfied (tree_of (trees_in bidders) b) (set_of sets b)) → HoldTruths bounds truths → AllZip IsSure (standings_from bidders bounds sets) truths
all_sure [] [] [] sets count have satisfied hold = tt
all_sure [] [] (t ∷ truths) sets count have satisfied hold = absurd hold
all_sure [] (now ∷ bounds) truths sets count have satisfied hold = absurd have
all_sure (b ∷ bidders) [] truths sets count have satisfied hold = absurd have
all_sure (b ∷ bidders) (now ∷ bounds) truths [] count have satisfied hold = absurd (omega (arith, count))
all_sure (b ∷ bidders) (now ∷ bounds) [] (s ∷ sets) count have satisfied hold = absurd hold
all_sure (b ∷ bidders) (now ∷ bounds) (t ∷ truths) (s ∷ sets) count have satisfied hold = (
  record { satisfied = satisfied 0 (omega arith); bounds = have.0; inside = hold.0 },
  all_sure bidders bounds truths sets (omega (arith, count)) have.1 (λ c h. satisfied (suc c) (omega (arith, h))) hold.1,
)

-- ---- round after round

hold_from : (ex : Exchange) (truths : List (List ℤ)) (number : ℕ) (bounds : List Bounds) (going : List Going) (c : Closed) → IsExchange ex → HaveBounds ex.bidders bounds → HoldTruths bounds truths
    → IsRightFrom ex number bounds going c → IsProxyFrom ex truths bounds going → HoldThroughout ex truths bounds going × HoldTruths (bounds_after_rounds ex bounds going) truths
hold_from ex truths number bounds [] c lawful have hold right proxies = (hold, hold)
hold_from ex truths number bounds (g ∷ later) c lawful have hold (fails, is, rest) (round, proxies) =
    let count : length g.provisional.sets ≡ length ex.bidders = is.provisional.feasible.same_length ∙ length-map ex.bidders _ in
    let named : names_from (standings ex bounds g.provisional.sets) ≡ names_of ex = standings_are_named ex bounds g.provisional.sets (bounds_count ex.bidders bounds have) count in
    let sure = all_sure ex.bidders bounds truths g.provisional.sets count have (λ b h. is.provisional.feasible.satisfied b (omega (arith, h, length-map ex.bidders (λ (bidder : Bidder). bidder.tree)))) hold in
    let next = all_hold g.prices ex.settings.improve (standings ex bounds g.provisional.sets) truths g.judged (subst (IsDistinct bytes_eq) (sym named) lawful.names) sure is.round.each round in
    let later_have = rounds_keep_bounds g.prices ex.settings.improve g.judged ex.bidders bounds g.provisional.sets count have is.round in
    let after = hold_from ex truths (suc number) (bounds_after_round ex bounds g) later c lawful later_have next.1 rest proxies in
    ((hold, next.0, after.0), after.1)

pub proxies_hold : ProxiesHold
proxies_hold s truths right hold proxies =
    hold_from s.exchange truths 0 (opening_bounds s.exchange) s.going s.closed right.exchange (opening_have_bounds (length s.exchange.goods) s.exchange.bidders right.exchange.bidders) hold right.settlements proxies

-- ---- at the true values

pub hold_count : (bounds : List Bounds) (truths : List (List ℤ)) → HoldTruths bounds truths → length truths ≡ length bounds
hold_count [] [] hold = refl
hold_count [] (t ∷ truths) hold = absurd hold
hold_count (b ∷ bounds) [] hold = absurd hold
hold_count (b ∷ bounds) (t ∷ truths) hold = omega (arith, hold_count bounds truths hold.1)

pub holds_at : (bounds : List Bounds) (truths : List (List ℤ)) (b : ℕ) → HoldTruths bounds truths → b < length bounds → IsInside 1 (bounds_of bounds b) (weights_of truths b)
holds_at [] truths b hold h = absurd (omega (arith, h))
holds_at (now ∷ bounds) [] b hold h = absurd hold
holds_at (now ∷ bounds) (t ∷ truths) zero hold h = hold.0
holds_at (now ∷ bounds) (t ∷ truths) (suc b) hold h = holds_at bounds truths b hold.1 (omega (arith, h))

-- the true values are a profile inside bounds that hold them
pub truths_are_profile : (bounds : List Bounds) (truths : List (List ℤ)) → HoldTruths bounds truths → IsProfile bounds 1 truths
truths_are_profile bounds truths hold = record { whole = omega arith; same_length = hold_count bounds truths hold; inside = λ b h. holds_at bounds truths b hold h }

pub proxies_reach_regret : ProxiesReachRegret
proxies_reach_regret s truths right hold proxies trades worth feasible total =
    let last : HoldTruths (final_bounds s) truths = (proxies_hold s truths right hold proxies).1 in
    let (final_worth, is, le) = (right_gives_headline s right).no_trade_beats 1 truths trades worth (truths_are_profile (final_bounds s) truths last) feasible total in
    (final_worth, is, omega (arith, ints, le, one_time s.closed.settlement.regret))
