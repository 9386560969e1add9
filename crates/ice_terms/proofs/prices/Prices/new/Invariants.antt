use Rattle.std.proofs.Common.{◌≡◌, length, take, IsTrue}
use Rattle.std.specs.List.{list_all}
use Rattle.ice_terms.specs.Terms.{is_numerator}
use Rattle.ice_terms.proofs.prices.Prices.new.Given as goal

abbrev pub invariant-loop-num : goal.invariant-loop-num
invariant-loop-num l =
    (length l.terms.items ≡ l.num-index) × (l.terms.items ≡ take l.num-index l.nums) × IsTrue (list_all is_numerator l.terms.items)
