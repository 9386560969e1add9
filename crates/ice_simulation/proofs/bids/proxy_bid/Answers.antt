use Rattle.std.proofs.Common.{◌≡◌, ◌∙◌, ℕ, List, [], ℤ, get_or, sym, ap, subst, rules, arith, to_z, of_z}
use mir.Syntax.{w64}
use mir.Val.{SFits}
use Rattle.std.proofs.lemmas.Int.{to_z-of_z}
use Rattle.ice_defs.specs.Tree.{Tree}
use Rattle.ice_defs.specs.Set.{NodeSet}
use Rattle.ice_defs.specs.Bounds.{Bounds, IsInside, bounds_of}
use Rattle.ice_defs.specs.Prices.{Prices}
use Rattle.ice_defs.specs.Round.{Standing, Submission, stated_bounds}
use Rattle.ice_defs.specs.Exchange.{Exchange, names_of}
use Rattle.ice_proxy.specs.Proposals.{proposal, IsProxyAttempt}
use Rattle.ice_proxy.proofs.Sessions.{holds_at}
use Rattle.ice_simulation.specs.TruthFile.{truth_lists}
use Rattle.ice_simulation.specs.Rounds.{standing_in}
use Rattle.ice_simulation.proofs.bids.proxy_bid.Goals as goal

-- the attempt of one bidder is that of the same one in other words
same_attempt : (p q : Prices) (i j : ℤ) (one other : Standing) (t u : List ℤ) (a : ℕ) → p ≡ q → i ≡ j → one ≡ other → t ≡ u → IsProxyAttempt p i one t a → IsProxyAttempt q j other u a
same_attempt p q i j one other t u a ep ei eb et is =
    subst (λ (x : List ℤ). IsProxyAttempt q j other x a) et
    (subst (λ (b : Standing). IsProxyAttempt q j b t a) eb (subst (λ (z : ℤ). IsProxyAttempt q z one t a) ei (subst (λ (r : Prices). IsProxyAttempt r i one t a) ep is)))

same_standing : (name : List ℕ) (t t' : Tree) (b b' : Bounds) (s s' : NodeSet) → t ≡ t' → b ≡ b' → s ≡ s'
    → (let one : Standing = record { name = name; tree = t; bounds = b; set = s } in one) ≡ record { name = name; tree = t'; bounds = b'; set = s' }
same_standing name t t' b b' s s' et eb es = cc

pub proxy-found-requires-clause-inside : goal.proxy-found-requires-clause-inside
proxy-found-requires-clause-inside c =
    let truth : c.truth_of-truth.result.now ≡ get_or (truth_lists c.args.round.now.exchange.bidders c.args.truths.now) c.args.bidder [] =
    c.truth_of-truth.ensures ∙ ap (λ (ex : Exchange). get_or (truth_lists ex.bidders c.args.truths.now) c.args.bidder []) c.exchange-exchange.ensures in
    subst (λ (t : List ℤ). IsInside 1 c.standing_in-at.result.bounds.now t) (sym truth)
    (subst (λ (b : Bounds). IsInside 1 b (get_or (truth_lists c.args.round.now.exchange.bidders c.args.truths.now) c.args.bidder [])) (sym c.standing_in-at.ensures.bounds)
    (holds_at c.args.round.now.round.bounds (truth_lists c.args.round.now.exchange.bidders c.args.truths.now) c.args.bidder c.requires.hold (omega (arith, c.requires.bidder, c.requires.stands.bounds_count))))

pub returns : goal.returns
returns c =
    let truth : c.truth_of-truth.result.now ≡ get_or (truth_lists c.args.round.now.exchange.bidders c.args.truths.now) c.args.bidder [] =
    c.truth_of-truth.ensures ∙ ap (λ (ex : Exchange). get_or (truth_lists ex.bidders c.args.truths.now) c.args.bidder []) c.exchange-exchange.ensures in
    let fits : SFits w64 c.improve_of.result = search rules in
    let improve : to_z w64 (of_z w64 c.improve_of.result) ≡ c.args.round.now.exchange.settings.improve =
    to_z-of_z w64 c.improve_of.result fits ∙ c.improve_of.ensures ∙ ap (λ (ex : Exchange). ex.settings.improve) c.exchange-exchange.ensures in
    let name : c.bidder_name.result.now ≡ get_or (names_of c.args.round.now.exchange) c.args.bidder [] =
    c.bidder_name.ensures ∙ ap (λ (ex : Exchange). get_or (names_of ex) c.args.bidder []) c.exchange-exchange.ensures in
    let at = c.standing_in-at.ensures in (
      ap (λ (s : Submission). s.name) c.bid_of.ensures ∙ name,
      (
        c.proxy-found.result.attempt,
        same_attempt c.standing_in-at.result.prices.now c.args.round.now.round.prices (to_z w64 (of_z w64 c.improve_of.result)) c.args.round.now.exchange.settings.improve
            _ (standing_in c.args.round.now c.args.bidder) c.truth_of-truth.result.now (get_or (truth_lists c.args.round.now.exchange.bidders c.args.truths.now) c.args.bidder []) c.proxy-found.result.attempt
            at.prices improve (same_standing (get_or (names_of c.args.round.now.exchange) c.args.bidder []) _ _ _ _ _ _ at.tree at.bounds at.set) truth
            (c.proxy-found.ensures.attempt (get_or (names_of c.args.round.now.exchange) c.args.bidder [])),
        ap stated_bounds c.bid_of.ensures ∙ c.proxy-found.ensures.bounds
            ∙ ap (λ (b : Bounds). proposal b c.truth_of-truth.result.now c.proxy-found.result.attempt) at.bounds
            ∙ ap (λ (t : List ℤ). proposal (bounds_of c.args.round.now.round.bounds c.args.bidder) t c.proxy-found.result.attempt) truth,
      ),
    )
