use Rattle.std.proofs.Common.{◌≡◌, ◌∙◌, refl, sym, ap, subst, length}
use Rattle.std.proofs.lemmas.Result.{err_from_is_err_and}
use Rattle.ice_defs.specs.Exchange.{Exchange, names_of}
use Rattle.ice_round.specs.SessionAt.{SessionAt}
use Rattle.ice_trial.specs.Truths.{truth_bids}
use Rattle.ice_trial.specs.Rounds.{Submits, IsTold}
use Rattle.ice_trial.specs.declared.trial.TruthRound.{TruthRound}
use Rattle.ice_trial.proofs.Telling.{none_given, exact_truths, truths_count, next_are, same_exchange, truths_told}
use Rattle.ice_trial.proofs.trial.hold_round.Goals as goal

pub truth_bids-requires-clause-count : goal.truth_bids-requires-clause-count
truth_bids-requires-clause-count c =
    let q = c.requires in
    subst (λ (x : Exchange). length c.args.truths.now ≡ length x.bidders) (sym c.exchange.ensures) (truths_count q.0 c.args.round c.args.opening c.args.truths.now q.1 q.2 q.3)

pub truth_bids-requires-clause-exact : goal.truth_bids-requires-clause-exact
truth_bids-requires-clause-exact c =
    let q = c.requires in
    exact_truths (q.0).bounds c.args.truths.now q.3

pub returns-in_err-bids : goal.returns-in_err-bids
returns-in_err-bids c =
    let p = err_from_is_err_and c.from_residual.result c.from_residual.ensures.1 in
    none_given _ c.from_residual.result p.0 p.1

pub same-round : goal.same-round
same-round c = refl

pub returns : goal.returns
returns c =
    let q = c.requires in
    let s = q.0 in
    let run = q.1 in
    let is = q.2 in
    let are = q.3 in
    let r = c.args.round in
    let after = c.submit_all.new.round in
    let o = c.args.opening in
    let truths = c.args.truths.now in
    let bids = c.in_ok-bids.bids in
    let first : TruthRound = record { opening = c.args.opening; bids = c.in_ok-bids.bids } in
    let said : bids.items ≡ truth_bids (names_of s.exchange) truths = c.in_ok-bids.ensures ∙ ap (λ (x : Exchange). truth_bids (names_of x) truths) (c.exchange.ensures ∙ is.exchange) in
    let submits : Submits c.args.round c.submit_all.new.round bids.items = subst (Submits c.args.round c.submit_all.new.round) c.deref.ensures.value c.submit_all.ensures in
    let terms = c.den-den.ensures.limits in
    subst (λ (t : SessionAt). IsTold t first × (t.exchange ≡ r.exchange) × (t.bounds ≡ truths)) (sym c.end.ensures) (
      truths_told s r after o truths run is terms are bids.items said submits first refl refl,
      same_exchange s r after o truths run is terms are bids.items said submits,
      next_are s r after o truths run is terms are bids.items said submits,
    )
