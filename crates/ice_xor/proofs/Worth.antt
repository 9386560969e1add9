-- The worth of a trade by flat bids is its worth in the tree.
use Rattle.std.proofs.Common.{ℕ, zero, suc, ◌<◌, ◌≤◌, ◌≡◌, Bool, true, false, cond, List, [], ◌∷◌, length, IsTrue, ℤ, pos, ◌≤ℤ◌, refl, sym, ap, ◌∙◌, subst, arith}
use Rattle.std.specs.List.{AllByRecursion}
use Rattle.std.proofs.lemmas.Int.{ints}
use Rattle.std.proofs.lemmas.List.{length-map}
use Rattle.ice_defs.specs.declared.Node.{Node}
use Rattle.ice_defs.specs.declared.NodeKind.TheVariants.{Choose}
use Rattle.ice_defs.specs.Sum.{count_below}
use Rattle.ice_defs.specs.Tree.{kind_of}
use Rattle.ice_defs.specs.Set.{NodeSet, has, children_inside, IsWithin, IsSatisfied, value, units}
use Rattle.ice_defs.specs.Trade.{is_exact, IsCovered}
use Rattle.ice_defs.specs.Market.{Trade, Serves, IsWorth}
use Rattle.ice_defs.proofs.Choices.{cond-same}
use Rattle.ice_xor.specs.FlatBids.{Package, FlatBidder, ServesFlat, IsFlatWorth, flat_tree, packages_nodes, taken_units, spread, spread_over, KeepsWorth}
use Rattle.ice_xor.proofs.Paired.{inside, inside-counted, children-counted, value_more, units_more}
use Rattle.ice_xor.proofs.PackageNodes.{spread_set, length-spread_set, value-spread, units-spread}
use Rattle.ice_xor.proofs.Spreading.{sound, under_root}
use Rattle.ice_xor.proofs.Gathering.{gather}

abbrev most : FlatBidder → ℕ
most b = cond b.any (length b.packages) 1

abbrev root : FlatBidder → Node
root b = record { kind = Choose 0 (most b); parent = 0 }

-- how many packages are inside
inside-le : (s : NodeSet) → inside s ≤ length s
inside-le [] = omega arith
inside-le (true ∷ s) = omega (arith, inside-le s)
inside-le (false ∷ s) = omega (arith, inside-le s)

-- the value and the units of a set that takes packages whole
value_of : (b : FlatBidder) (r : Bool) (chosen : NodeSet) (v : List ℤ) → length chosen ≡ length b.packages → length v ≡ length b.packages → value (r ∷ spread_set b.packages chosen) (spread b v) ≡ value chosen v
value_of b r chosen v e l = omega (arith, ints, value_more r (spread_set b.packages chosen) (pos 0) (spread_over b.packages v), cond-same r (pos 0), value-spread b.packages chosen v e l)

units_of : (b : FlatBidder) (r : Bool) (chosen : NodeSet) (g : ℕ) → length chosen ≡ length b.packages → units (flat_tree b) (r ∷ spread_set b.packages chosen) g ≡ taken_units b.packages chosen g
units_of b r chosen g e = omega (arith, ints, units_more (root b) (packages_nodes 1 b.packages) r (spread_set b.packages chosen) g, cond-same r (pos 0), units-spread 1 b.packages chosen g e)

children_of_root : (b : FlatBidder) (r : Bool) (chosen : NodeSet) → length chosen ≡ length b.packages → children_inside (flat_tree b) (r ∷ spread_set b.packages chosen) 0 ≡ inside chosen
children_of_root b r chosen e =
    children-counted 0 (root b) (packages_nodes 1 b.packages) r (spread_set b.packages chosen) (length-spread_set 1 b.packages chosen e) ∙ under_root 1 b.packages chosen (omega arith) e

-- ---- from packages to nodes

few_enough : (b : FlatBidder) (chosen : NodeSet) → length chosen ≡ length b.packages → (b.any ≡ false → count_below (has chosen) (length chosen) ≤ 1) → inside chosen ≤ most b
few_enough b chosen e one = by b.any refl
  where
    by : (any : Bool) → b.any ≡ any → inside chosen ≤ most b
    by true is = omega (arith, ap (λ x. let k : ℕ = cond x (length b.packages) 1 in k) is, inside-le chosen, e)
    by false is = omega (arith, ap (λ x. let k : ℕ = cond x (length b.packages) 1 in k) is, one is, inside-counted chosen)

pub spread_satisfied : (b : FlatBidder) (chosen : NodeSet) → length chosen ≡ length b.packages → (b.any ≡ false → count_below (has chosen) (length chosen) ≤ 1) → IsSatisfied (flat_tree b) (true ∷ spread_set b.packages chosen)
spread_satisfied b chosen e one =
    let at = λ (n : ℕ) (low : 0 < n) (high : n < length (flat_tree b)). sound (root b) [] [] b.packages chosen refl tt e n low high in
    record {
      same_length = omega (arith, length-spread_set 1 b.packages chosen e);
      parent_inside = λ c low high. (at c low high).parent_inside;
      count_inside = count;
    }
  where
    count : (n : ℕ) → n < length (flat_tree b) → IsTrue (has (true ∷ spread_set b.packages chosen) n) → IsWithin (kind_of (flat_tree b) n) (children_inside (flat_tree b) (true ∷ spread_set b.packages chosen) n)
    count zero high is = (omega arith, omega (arith, children_of_root b true chosen e, few_enough b chosen e one))
    count (suc n) high is = (sound (root b) [] [] b.packages chosen refl tt e (suc n) (omega arith) high).count_inside is

pub spread_serves : (exact : List Bool) (b : FlatBidder) (trade : Trade) (chosen : NodeSet) → ServesFlat exact b trade chosen → Serves exact (flat_tree b) trade (true ∷ spread_set b.packages chosen)
spread_serves exact b trade chosen serves = (
  spread_satisfied b chosen serves.same_length serves.one,
  λ g there. subst (λ u. IsCovered (is_exact exact g) u (trade g)) (sym (units_of b true chosen g serves.same_length)) (serves.fits g there),
)

-- ---- from nodes to packages

nothing : (chosen : NodeSet) → AllByRecursion (λ b. IsTrue b → IsTrue false) chosen → inside chosen ≡ 0
nothing [] rooted = refl
nothing (true ∷ chosen) rooted = let never : false ≡ true = rooted.0 refl in absurd cc
nothing (false ∷ chosen) rooted = omega (arith, nothing chosen rooted.1)

-- the packages that a set of nodes takes
record IsFlat (exact : List Bool) (b : FlatBidder) (trade : Trade) (s : NodeSet) : Type 0 where
  first : Bool
  chosen : NodeSet
  is : s ≡ first ∷ spread_set b.packages chosen
  serves : ServesFlat exact b trade chosen

one_of : (b : FlatBidder) (r : Bool) (chosen : NodeSet) → length chosen ≡ length b.packages → IsSatisfied (flat_tree b) (r ∷ spread_set b.packages chosen) → AllByRecursion (λ x. IsTrue x → IsTrue r) chosen
    → b.any ≡ false → count_below (has chosen) (length chosen) ≤ 1
one_of b true chosen e satisfied rooted single =
    let count = satisfied.count_inside 0 (omega arith) refl in
    omega (arith, inside-counted chosen, children_of_root b true chosen e, count.1, ap (λ x. let k : ℕ = cond x (length b.packages) 1 in k) single)
one_of b false chosen e satisfied rooted single = omega (arith, inside-counted chosen, nothing chosen rooted)

flat : (exact : List Bool) (b : FlatBidder) (trade : Trade) (s : NodeSet) → Serves exact (flat_tree b) trade s → IsFlat exact b trade s
flat exact b trade [] serves = absurd (omega (arith, serves.0.same_length))
flat exact b trade (r ∷ u) serves =
    let g = gather (root b) [] r [] b.packages u refl tt (omega (arith, serves.0.same_length)) serves.0 in
    let is : r ∷ u ≡ r ∷ spread_set b.packages g.chosen = ap (λ x. r ∷ x) g.is in
    let satisfied : IsSatisfied (flat_tree b) (r ∷ spread_set b.packages g.chosen) = subst (IsSatisfied (flat_tree b)) is serves.0 in
    record {
      first = r;
      chosen = g.chosen;
      is = is;
      serves = record {
        same_length = g.same_length;
        one = one_of b r g.chosen g.same_length satisfied g.rooted;
        fits = λ n there. subst (λ x. IsCovered (is_exact exact n) x (trade n)) (ap (λ x. units (flat_tree b) x n) is ∙ units_of b r g.chosen n g.same_length) (serves.1 n there);
      };
    }

flat_value : (exact : List Bool) (b : FlatBidder) (trade : Trade) (s : NodeSet) (v : List ℤ) (f : IsFlat exact b trade s) → length v ≡ length b.packages → value s (spread b v) ≡ value f.chosen v
flat_value exact b trade s v f l = ap (λ x. value x (spread b v)) f.is ∙ value_of b f.first f.chosen v f.serves.same_length l

-- ---- the worths

pub worth_kept : (exact : List Bool) (b : FlatBidder) → KeepsWorth exact b
worth_kept exact b k v trade worth some profile = (to, from)
  where
    count : length v ≡ length b.packages
    count = profile.same_length ∙ length-map b.packages (λ (p : Package). p.lo)

    to : IsWorth exact (flat_tree b) (spread b v) trade worth → IsFlatWorth exact b v trade worth
    to w =
        let f = flat exact b trade w.attained.0 w.attained.1 in
        record {
          attained = (f.chosen, f.serves, sym (flat_value exact b trade w.attained.0 v f count) ∙ w.attained.2);
          bound = λ chosen serves. subst (λ z. z ≤ℤ worth) (value_of b true chosen v serves.same_length count) (w.bound (true ∷ spread_set b.packages chosen) (spread_serves exact b trade chosen serves));
        }

    from : IsFlatWorth exact b v trade worth → IsWorth exact (flat_tree b) (spread b v) trade worth
    from w = record {
      attained = (true ∷ spread_set b.packages w.attained.0, spread_serves exact b trade w.attained.0 w.attained.1, value_of b true w.attained.0 v w.attained.1.same_length count ∙ w.attained.2);
      bound = λ s serves. let f = flat exact b trade s serves in subst (λ z. z ≤ℤ worth) (sym (flat_value exact b trade s v f count)) (w.bound f.chosen f.serves);
    }
