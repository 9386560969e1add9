-- Low bounds: no tree refuses them, and they are bounds of the same bidders.
use Rattle.std.proofs.Common.{ℕ, ◌+◌, ◌<◌, ◌≡◌, true, false, None, List, [], ◌∷◌, ◌++◌, length, take, refl, arith, ap, sym, ◌∙◌}
use Rattle.std.specs.Prelude.{◌==◌}
use Rattle.std.specs.List.{list_all}
use Rattle.std.proofs.lemmas.Int.{ints}
use Rattle.std.proofs.lemmas.Bool.{eq-eqb}
use Rattle.std.proofs.lemmas.List.{length-map, get_or-map, take_more}
use Rattle.ice_defs.specs.Bounds.{Bounds, bounds_of, no_bounds}
use Rattle.ice_defs.specs.Lawful.{AreBounds}
use Rattle.ice_defs.specs.Making.{is_value}
use Rattle.ice_defs.proofs.Values.{all_values}
use Rattle.ice_tree.specs.Bounds.{bounds_refusal, are_crossed}
use Rattle.ice_tree.proofs.Bounding.{are_crossed-same}
use Rattle.ice_fair_laws.specs.Fair.{low_bounds}

abbrev pub lowered : Bounds → Bounds
lowered b = record { lo = b.lo; hi = b.lo }

pub lowered-are : (nodes : ℕ) (b : Bounds) → AreBounds nodes b → AreBounds nodes (lowered b)
lowered-are nodes b are = record {
  lo_count = are.lo_count;
  hi_count = are.lo_count;
  low = are.low;
  ordered = λ n h. omega (arith, ints);
  high = λ n h. let less = are.ordered n h in let most = are.high n h in omega (arith, ints, less, most);
}

-- no tree refuses them
pub lowered-unrefused : (nodes : ℕ) (b : Bounds) → AreBounds nodes b → bounds_refusal nodes b.lo b.lo ≡ None
lowered-unrefused nodes b are =
    let low = lowered-are nodes b are in
    let counted : (length b.lo == nodes) ≡ true = eq-eqb (length b.lo) nodes are.lo_count in
    let valued : list_all is_value b.lo ≡ true = all_values b.lo (λ n h. low.low n (omega (arith, are.lo_count, h))) (λ n h. low.high n (omega (arith, are.lo_count, h))) in
    let ordered : are_crossed b.lo b.lo ≡ false = are_crossed-same b.lo in
    rw (counted, valued, ordered) refl

-- the list bidder by bidder
pub one_bidder_more : (bs done : List Bounds) (n : ℕ) (b : Bounds) → n < length bs → done ≡ take n (low_bounds bs) → b ≡ lowered (bounds_of bs n) → done ++ b ∷ [] ≡ take (n + 1) (low_bounds bs)
one_bidder_more bs done n b there so_far is =
    let there_too : n < length (low_bounds bs) = omega (arith, there, length-map bs lowered) in
    let at : bounds_of (low_bounds bs) n ≡ lowered (bounds_of bs n) = get_or-map lowered bs n no_bounds no_bounds there in
    ap (λ (ds : List Bounds). ds ++ b ∷ []) so_far ∙ ap (λ (z : Bounds). take n (low_bounds bs) ++ z ∷ []) (is ∙ sym at) ∙ sym (take_more (low_bounds bs) n no_bounds there_too)
