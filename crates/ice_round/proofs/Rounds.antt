-- The bounds and sets of a round, and rounds that begin.
use Rattle.std.proofs.Common.{◌≡◌, ◌∙◌, [], ap, sym}
use Rattle.ice_defs.specs.Exchange.{Exchange}
use Rattle.ice_defs.specs.Trade.{Assignment}
use Rattle.ice_defs.specs.Prices.{Prices}
use Rattle.ice_verdicts.specs.Judges.{Round, IsRoundOf, IsAfter}
use Rattle.ice_verdicts.proofs.Leading.{round_begins}
use Rattle.ice_round.specs.SessionAt.{IsFresh}

-- a round with other sets and prices begins where no bounds are changed and no bidder is marked
pub offered_begins : (ex : Exchange) (r one two : Round) (sets : Assignment) (prices : Prices) → IsFresh ex r → one ≡ record r { sets = sets } → two ≡ record one { prices = prices }
    → IsRoundOf ex two → IsAfter ex [] two
offered_begins ex r one two sets prices fresh e d is =
    round_begins ex two is
    (ap (λ (x : Round). x.next) d ∙ ap (λ (x : Round). x.next) e ∙ fresh.next ∙ sym (ap (λ (x : Round). x.bounds) e) ∙ sym (ap (λ (x : Round). x.bounds) d))
    (ap (λ (x : Round). x.marks) d ∙ ap (λ (x : Round). x.marks) e ∙ fresh.marks)
