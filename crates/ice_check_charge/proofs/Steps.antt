-- A step of the loop over the values without each bidder.
use Rattle.std.proofs.Common.{◌≡◌, ◌<◌, ◌+◌, ℕ, List, length, drop, get_or, ℤ, ◌+ℤ◌, ◌-ℤ◌, sym, ◌∙◌, ap, add-one, drop-cons}
use Rattle.ice_defs.specs.Sum.{sum_over}
use Rattle.ice_check_charge.specs.Tests.{vickreys_of}

pub sum_over-step : (f : ℤ → ℤ) (total : ℤ) (withouts : List ℤ) (i : ℕ) (d : ℤ) → i < length withouts
    → sum_over f (vickreys_of total (drop i withouts)) ≡ f (total -ℤ get_or withouts i d) +ℤ sum_over f (vickreys_of total (drop (i + 1) withouts))
sum_over-step f total withouts i d l =
    ap (λ (xs : List ℤ). sum_over f (vickreys_of total xs)) (drop-cons withouts i d l)
    ∙ ap (λ k. f (total -ℤ get_or withouts i d) +ℤ sum_over f (vickreys_of total (drop k withouts))) (sym (add-one i))
