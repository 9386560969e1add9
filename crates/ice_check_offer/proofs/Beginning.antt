-- Provisional sets begin an offer.
use Rattle.std.proofs.Common.{◌≡◌, [], List, sym, ◌∙◌, ap, subst}
use Rattle.ice_defs.specs.Trade.{Assignment}
use Rattle.ice_defs.specs.Round.{Judged}
use Rattle.ice_defs.specs.Exchange.{Exchange}
use Rattle.ice_journal_laws.specs.State.{State, exchange_at, at_prices}
use Rattle.ice_verdicts.specs.Judges.{Round, IsRoundOf, IsAfter}
use Rattle.ice_verdicts.proofs.Leading.{round_begins}
use Rattle.ice_check_offer.specs.declared.place.Place.TheVariants as place
use Rattle.ice_check_offer.specs.declared.offer.Offer.{Offer}
use Rattle.ice_check_offer.specs.Offers.{IsOfferOf, IsFresh}

pub begun : (ex : Exchange) (o : Offer) (sets : Assignment) (judge : Round) → judge ≡ record o.judge { sets = sets } → IsRoundOf ex judge → IsFresh ex o.judge
    → (s : State) → exchange_at s ≡ ex → s.place ≡ at_prices → s.bounds ≡ o.judge.bounds → s.offered ≡ sets → s.judged ≡ [] → IsOfferOf ex (record o { place = place.Prices; judge = judge }) s
begun ex o sets judge same round fresh s e p b f j = record {
  exchange = e;
  bounds = b ∙ sym (ap (λ (r : Round). r.bounds) same);
  offered = f ∙ sym (ap (λ (r : Round). r.sets) same);
  at = (
    p,
    subst (λ (js : List Judged). IsAfter ex js judge) (sym j)
        (round_begins ex judge round (ap (λ (r : Round). r.next) same ∙ fresh.next ∙ sym (ap (λ (r : Round). r.bounds) same)) (ap (λ (r : Round). r.marks) same ∙ fresh.marks)),
  );
}
