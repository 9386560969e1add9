-- The sum of the greatest nets where the multiplier of one good is one more, or one less.
use Rattle.std.proofs.Common.{ℕ, zero, suc, ◌<◌, ◌≤◌, ◌≡◌, List, length, ◌+◌, ◌*◌, ◌^◌, Option, None, Some, set, ℤ, pos, neg_ℤ, ◌+ℤ◌, ◌-ℤ◌, ◌*ℤ◌, ◌≤ℤ◌, refl, arith, ap, sym, ◌∙◌, subst, ◌⊎◌, inl, inr}
use Rattle.std.proofs.lemmas.Int.{ints}
use Rattle.std.proofs.lemmas.Bool.{cases_lt}
use Rattle.std.proofs.lemmas.List.{set-get_or}
use mir.Syntax.{w128}
use mir.Val.{SFits}
use Rattle.ice_defs.specs.Sum.{sum_below}
use Rattle.ice_defs.specs.Tree.{Tree}
use Rattle.ice_defs.specs.Set.{NodeSet, Weights, units}
use Rattle.ice_defs.specs.Fixing.{Fixing}
use Rattle.ice_defs.specs.Trade.{Assignment, tree_of, set_of, weights_of, fixing_of}
use Rattle.ice_defs.specs.Bound.{Multipliers, cost, net, IsOpen, IsNetSum}
use Rattle.ice_defs.proofs.Sums.{sum_below-same, sum_below_more}
use Rattle.ice_defs.proofs.Integers.{neg_times}
use Rattle.ice_defs.proofs.Multiples.{one_time}
use Rattle.ice_best.proofs.Sales.{greatest_unique}
use Rattle.ice_bound.specs.declared.direction.Direction.{Direction}
use Rattle.ice_bound.specs.declared.direction.Direction.TheVariants.{Up, Down}
use Rattle.ice_bound.specs.Multipliers.{multiplier_of}
use Rattle.ice_bound.specs.Beside.{beside, less_cost, with_beside, StandingBeside, IsFoundBeside, IsShare, IsGreatestShare}
use Rattle.ice_bound.specs.Kept.{Stands, IsFound, IsNetOf, net_of}
use Rattle.ice_bound.proofs.Moving.{cost-moved}
use Rattle.ice_bound.specs.Tables.{Moves}
use Rattle.ice_bound.proofs.Staying.{stays_best}
use Rattle.ice_bound.proofs.Totals.{IsGreatestNet, IsPartialSum, no_bidder, one_bidder_more, total_fits}

pub beside_moves : (direction : Direction) (z : ℤ) → Moves direction z (beside direction z)
beside_moves Up z = omega (arith, ints)
beside_moves Down z = omega (arith, ints)

-- a set nets less by what one more 64th a unit costs
pub net-beside : (m : Multipliers) (g : ℕ) → g < length m → (t : Tree) (w : Weights) (s : NodeSet) (direction : Direction)
    → net t w (with_beside m g direction) s ≡ less_cost direction (net t w m s) (units t s g)
net-beside m g there t w s Up =
    let z = multiplier_of m g in
    let on : (z +ℤ pos 1) -ℤ z ≡ pos 1 = omega (arith, ints) in
    let step : ((z +ℤ pos 1) -ℤ z) *ℤ units t s g ≡ units t s g = ap (λ k. k *ℤ units t s g) on ∙ one_time (units t s g) in
    let same : cost t s (set m g z) ≡ cost t s m = ap (cost t s) (set-get_or m g (pos 0)) in
    omega (arith, ints, cost-moved m g there t s z (z +ℤ pos 1), step, same)
net-beside m g there t w s Down =
    let z = multiplier_of m g in
    let back : (z -ℤ pos 1) -ℤ z ≡ neg_ℤ (pos 1) = omega (arith, ints) in
    let step : ((z -ℤ pos 1) -ℤ z) *ℤ units t s g ≡ neg_ℤ (units t s g) =
    ap (λ k. k *ℤ units t s g) back ∙ neg_times (pos 1) (units t s g) ∙ ap neg_ℤ (one_time (units t s g)) in
    let same : cost t s (set m g z) ≡ cost t s m = ap (cost t s) (set-get_or m g (pos 0)) in
    omega (arith, ints, cost-moved m g there t s z (z -ℤ pos 1), step, same)

-- what was found is the net of its set, and the greatest
pub net_found : (t : Tree) (w : Weights) (m : Multipliers) (x : Fixing) (v : ℤ) (s : NodeSet) → IsFound t w m x (Some v) s → net t w m s ≡ v
net_found t w m x v s (is, (o, e)) = e

-- a bidder with an open set has a net
pub not_none : (t : Tree) (w : Weights) (m : Multipliers) (x : Fixing) (o : Option ℤ) → IsNetOf t w m x o → (r : NodeSet) × IsOpen t x r → ((v : ℤ) → o ≡ Some v → ⊥) → ⊥
not_none t w m x None none (r, open_set) none_is = none r open_set
not_none t w m x (Some v) is alive none_is = none_is v refl

-- the same of the same things
pub found_at : (t t2 : Tree) (w w2 : Weights) (m : Multipliers) (x x2 : Fixing) (o : Option ℤ) (s s2 : NodeSet) → t2 ≡ t → w2 ≡ w → x2 ≡ x → s2 ≡ s → IsFound t w m x o s → IsFound t2 w2 m x2 o s2
found_at t t2 w w2 m x x2 o s s2 tree weights fixing set is =
    subst (λ k. IsFound k w2 m x2 o s2) (sym tree)
    (subst (λ k. IsFound t k m x2 o s2) (sym weights) (subst (λ k. IsFound t w m k o s2) (sym fixing) (subst (λ k. IsFound t w m x o k) (sym set) is)))

pub open_found : (t : Tree) (w : Weights) (m : Multipliers) (x : Fixing) (o : Option ℤ) (s : NodeSet) → IsFound t w m x o s → (((r : NodeSet) → IsOpen t x r → ⊥) → ⊥) → IsOpen t x s
open_found t w m x None s none alive = absurd (alive none)
open_found t w m x (Some v) s (is, (o, e)) alive = o

-- the tails of two sums, one of them below the other
abbrev IsTailBelow : (ℕ → ℤ) → (ℕ → ℤ) → ℕ → ℕ → Type 0
IsTailBelow low best b n = (sum_below low n +ℤ sum_below best b) ≤ℤ (sum_below best n +ℤ sum_below low b)

tail_more : (low best : ℕ → ℤ) (b n : ℕ) → b ≤ suc n → low n ≤ℤ best n → (b ≤ n → IsTailBelow low best b n) → IsTailBelow low best b (suc n)
tail_more low best b n few le before = by (cases_lt b (suc n))
  where
    by : (b < suc n) ⊎ (suc n ≤ b) → IsTailBelow low best b (suc n)
    by (inl h) = omega (arith, ints, before (omega (arith, h)), le)
    by (inr h) =
        let e : b ≡ suc n = omega (arith, h, few) in
        let lows = ap (sum_below low) e in
        let bests = ap (sum_below best) e in
        omega (arith, ints, lows, bests)

tail-le : (low best : ℕ → ℤ) (b n : ℕ) → b ≤ n → ((c : ℕ) → c < n → low c ≤ℤ best c) → IsTailBelow low best b n
tail-le low best zero zero few le = omega (arith, ints)
tail-le low best (suc b) zero few le = absurd (omega (arith, few))
tail-le low best b (suc n) few le = tail_more low best b n few (le n (omega arith)) (λ h. tail-le low best b n h (λ c l. le c (omega (arith, l))))

-- what the set of a bidder nets
abbrev pub net_at : List Tree → List Weights → Multipliers → Assignment → ℕ → ℤ
net_at ts ws m sets b = net (tree_of ts b) (weights_of ws b) m (set_of sets b)

module _ (ts : List Tree) (ws : List Weights) (m : Multipliers) (xs : List Fixing) (sets : Assignment) where
  -- the greatest nets of the first bidders, and open sets of the others, are together no more than
  -- the sum
  pub at_most : (b : ℕ) (done total : ℤ) → b ≤ length ts → ((c : ℕ) → c < length ts → IsOpen (tree_of ts c) (fixing_of xs c) (set_of sets c))
      → IsPartialSum ts ws m xs b done → IsNetSum ts ws m xs total → (done +ℤ sum_below (net_at ts ws m sets) (length ts)) ≤ℤ (total +ℤ sum_below (net_at ts ws m sets) b)
  at_most b done total few opens partial (best, each, sum) =
      let same = sum_below-same partial.best best b (λ c h. greatest_unique (partial.best c) (best c) (partial.each c h) (each c (omega (arith, h, few)))) in
      let tail = tail-le (net_at ts ws m sets) best b (length ts) few (λ c h. (each c h).bound (set_of sets c) (opens c h)) in
      omega (arith, ints, same, tail, sum, partial.sum)

-- the greatest nets of all bidders are the sum
pub all_are : (ts : List Tree) (ws : List Weights) (m : Multipliers) (xs : List Fixing) (b : ℕ) (done total : ℤ) → b ≡ length ts
    → IsPartialSum ts ws m xs b done → IsNetSum ts ws m xs total → done ≡ total
all_are ts ws m xs b done total e partial (best, each, sum) =
    let same = sum_below-same partial.best best b (λ c h. greatest_unique (partial.best c) (best c) (partial.each c h) (each c (omega (arith, h, e)))) in
    let whole = ap (sum_below best) e in
    omega (arith, ints, same, whole, sum, partial.sum)

-- the net of the set beside, by the net that was found
pub low_at : (m : Multipliers) (g : ℕ) → g < length m → (t : Tree) (w : Weights) (x : Fixing) (s : NodeSet) (direction : Direction) (v : ℤ) → IsFound t w m x (Some v) s
    → net t w (with_beside m g direction) s ≡ less_cost direction v (units t s g)
low_at m g there t w x s direction v found = net-beside m g there t w s direction ∙ ap (λ k. less_cost direction k (units t s g)) (net_found t w m x v s found)

module _ (st : StandingBeside) (b : ℕ) where
  -- shares and greatest nets fit 128 bits, and so does what lies between them
  pub share_fits : (share : ℤ) → IsShare st b share → SFits w128 share
  share_fits share is = total_fits share (omega (arith, ints, is.low)) (omega (arith, ints, is.high))

  pub greatest_fits : (v : ℤ) → IsGreatestShare st b v → SFits w128 v
  greatest_fits v is = total_fits v (omega (arith, ints, is.low)) (omega (arith, ints, is.high))

  pub gain_fits : (v share : ℤ) → IsGreatestShare st b v → IsShare st b share → SFits w128 (v -ℤ share)
  gain_fits v share greatest is = total_fits (v -ℤ share) (omega (arith, ints, greatest.low, is.high)) (omega (arith, ints, greatest.high, is.low))

module _ (st : StandingBeside) (b : ℕ) (known : IsFoundBeside st) (there : b < length st.trees) where
  -- so the share of a bidder
  pub share_is : (v share : ℤ) → net_of st.nets b ≡ Some v → share ≡ less_cost st.direction v (units (tree_of st.trees b) (set_of st.sets b) st.good)
      → neg_ℤ (pos (201 * 2 ^ 90)) ≤ℤ share → share ≤ℤ pos (201 * 2 ^ 90) → IsShare st b share
  share_is v share is less low high =
      let t = tree_of st.trees b in
      let w = weights_of st.weights b in
      let x = fixing_of st.marks b in
      let s = set_of st.sets b in
      let found : IsFound t w st.multipliers x (Some v) s = subst (λ o. IsFound t w st.multipliers x o s) is (known.found.each b there) in
      record {
        is = ap (λ m. net t w m s) known.moved ∙ low_at st.multipliers st.good known.good t w x s st.direction v found ∙ sym less;
        low = low;
        high = high;
      }

  -- where the set stands, so does what was found
  pub stays_found : Stands (tree_of st.trees b) (set_of st.sets b) st.good st.direction (length (tree_of st.trees b))
      → IsFound (tree_of st.trees b) (weights_of st.weights b) st.moved (fixing_of st.marks b) (net_of st.nets b) (set_of st.sets b)
  stays_found stands =
      let t = tree_of st.trees b in
      let w = weights_of st.weights b in
      let x = fixing_of st.marks b in
      let s = set_of st.sets b in
      let z = multiplier_of st.multipliers st.good in
      subst (λ m. IsFound t w m x (net_of st.nets b) s) (sym known.moved)
      (stays_best st.multipliers st.good (beside st.direction z) known.good st.direction (beside_moves st.direction z) t w s stands x _ (known.found.each b there))

module _ (ts : List Tree) (ws : List Weights) (m : Multipliers) (xs : List Fixing) (sets : Assignment) where
  -- a number is what the first bidders have as greatest nets and the sets of the others net
  abbrev pub AreGreatestThenSets : ℕ → ℤ → Type 0
  AreGreatestThenSets b bound =
      IsPartialSum ts ws m xs b ((bound +ℤ sum_below (net_at ts ws m sets) b) -ℤ sum_below (net_at ts ws m sets) (length ts))

  pub sets_alone : (bound : ℤ) → sum_below (net_at ts ws m sets) (length ts) ≡ bound → AreGreatestThenSets 0 bound
  sets_alone bound is =
      let none : pos 0 ≡ (bound +ℤ pos 0) -ℤ sum_below (net_at ts ws m sets) (length ts) = omega (arith, ints, is) in
      subst (IsPartialSum ts ws m xs 0) none (no_bidder ts ws m xs)

  -- the set of the next bidder gives way to its greatest net
  pub raised : (b : ℕ) (bound v low : ℤ) → AreGreatestThenSets b bound → IsGreatestNet ts ws m xs b v → net_at ts ws m sets b ≡ low → AreGreatestThenSets (b + 1) (bound +ℤ (v -ℤ low))
  raised b bound v low before here is =
      let lows = sum_below (net_at ts ws m sets) in
      let same : ((bound +ℤ lows b) -ℤ lows (length ts)) +ℤ v ≡ ((bound +ℤ (v -ℤ low)) +ℤ lows (b + 1)) -ℤ lows (length ts) = omega (arith, ints, is, sum_below_more (net_at ts ws m sets) b) in
      subst (IsPartialSum ts ws m xs (b + 1)) same (one_bidder_more ts ws m xs b _ v before here)

  -- such a number is at most the sum, and in the end it is the sum
  pub is_below : (b : ℕ) (bound total : ℤ) → b ≤ length ts → ((c : ℕ) → c < length ts → IsOpen (tree_of ts c) (fixing_of xs c) (set_of sets c))
      → AreGreatestThenSets b bound → IsNetSum ts ws m xs total → bound ≤ℤ total
  is_below b bound total few opens partial is = omega (arith, ints, at_most ts ws m xs sets b _ total few opens partial is)

  pub is_whole : (b : ℕ) (bound total : ℤ) → b ≡ length ts → AreGreatestThenSets b bound → IsNetSum ts ws m xs total → bound ≡ total
  is_whole b bound total e partial is = omega (arith, ints, all_are ts ws m xs b _ total e partial is, ap (sum_below (net_at ts ws m sets)) e)
