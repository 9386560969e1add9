use Rattle.std.proofs.Common.{rules}
use Rattle.std.proofs.lemmas.List.Sorted.{answers_always}
use Rattle.ice_best.proofs.Offers.{IsRising-sorted}
use Rattle.ice_best.proofs.choice.sort_offers.Goals as goal

pub returns-clause-rising : goal.returns-clause-rising
returns-clause-rising c = IsRising-sorted _ (c.sort_unstable_by_key.ensures.sorted (λ o. o.gain) (answers_always _ _ _ (λ f a r g h. search rules)))
