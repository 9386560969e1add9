-- The sum of the bidders' greatest nets, less their tolls, one bidder after another.
use Rattle.std.proofs.Common.{ℕ, ◌+◌, ◌*ℤ◌, ◌≤ℤ◌, ◌<ℤ◌, ◌<◌, ◌≡◌, ◌≢◌, cond, eqb, List, length, ℤ, pos, ◌+ℤ◌, refl, arith, ap, sym, ◌∙◌, subst, below_more}
use Rattle.std.proofs.lemmas.Int.{ints}
use Rattle.std.proofs.lemmas.Bool.{eq-eqb, ne_eqb}
use Rattle.ice_defs.specs.Sum.{sum_below}
use Rattle.ice_defs.specs.Tree.{Tree}
use Rattle.ice_defs.specs.Set.{NodeSet, Weights, weight_of}
use Rattle.ice_defs.specs.Fixing.{Fixing}
use Rattle.ice_defs.specs.Greatest.{IsGreatest}
use Rattle.ice_defs.specs.Trade.{tree_of, weights_of, fixing_of}
use Rattle.ice_defs.specs.Bound.{Multipliers, IsOpen, IsDead}
use Rattle.ice_defs.proofs.Sums.{sum_below-same, sum_below_more}
use Rattle.ice_bound.specs.Answer.{IsFirstDead}
use Rattle.ice_defs.specs.Derived.{Derived, Tolls, net_with, tolls_on_limits, IsNetSumWith, IsBoundWith}
use Rattle.ice_bound.specs.Laws.{tolls_on_node}
use Rattle.ice_derived.specs.Nets.{net_less}
use Rattle.ice_derived.proofs.Values.{greatest-with}

module _ (ds : List Derived) (tolls : Tolls) (ts : List Tree) (ws : List Weights) (m : Multipliers) (xs : List Fixing) where
  abbrev pub IsGreatestNet : ℕ → ℤ → Type 0
  IsGreatestNet b v = IsGreatest (IsOpen (tree_of ts b) (fixing_of xs b)) (net_with ds tolls b (tree_of ts b) (weights_of ws b) m) v

  -- the sum of the greatest nets of the first n bidders
  pub record IsPartialSum (n : ℕ) (total : ℤ) : Type 0 where
    pub best : ℕ → ℤ
    pub each : (b : ℕ) → b < n → IsGreatestNet b (best b)
    pub sum : sum_below best n ≡ total

  pub no_bidder : IsPartialSum 0 (pos 0)
  no_bidder = record { best = λ b. pos 0; each = λ b h. absurd (omega (arith, h)); sum = refl }

  -- one more greatest net
  with_best : (ℕ → ℤ) → ℕ → ℤ → ℕ → ℤ
  with_best best n v b = cond (eqb b n) v (best b)

  best_same : (best : ℕ → ℤ) (n : ℕ) (v : ℤ) → with_best best n v n ≡ v
  unfolding with_best
  best_same best n v = ap (λ c. cond c v (best n)) (eq-eqb n n refl)

  best_other : (best : ℕ → ℤ) (n : ℕ) (v : ℤ) (b : ℕ) → b ≢ n → with_best best n v b ≡ best b
  unfolding with_best
  best_other best n v b ne = ap (λ c. cond c v (best b)) (ne_eqb b n ne)

  pub one_bidder_more : (n : ℕ) (total v : ℤ) → IsPartialSum n total → IsGreatestNet n v → IsPartialSum (n + 1) (total +ℤ v)
  one_bidder_more n total v before here = record {
    best = with_best before.best n v;
    each = below_more (λ b. IsGreatestNet b (with_best before.best n v b)) n
        (λ b h. subst (IsGreatestNet b) (sym (best_other before.best n v b (omega arith))) (before.each b h))
        (subst (IsGreatestNet n) (sym (best_same before.best n v)) here);
    sum = sum_below_more (with_best before.best n v) n
        ∙ omega (arith, ints, sum_below-same (with_best before.best n v) before.best n (λ b h. best_other before.best n v b (omega arith)), best_same before.best n v, before.sum);
  }

  -- a bidder with a greatest net has an open set
  not_dead : (n : ℕ) (total : ℤ) → IsPartialSum n total → (b : ℕ) → b < n → ¬ IsDead ts xs b
  not_dead n total is b h dead = let (s, o, same) = (is.each b h).attained in dead s o

  pub all_bidders : (n : ℕ) (total : ℤ) → n ≡ length ts → IsPartialSum n total → IsNetSumWith ds tolls ts ws m xs total
  all_bidders n total e is = by (subst (λ k. IsPartialSum k total) e is)
    where
      by : IsPartialSum (length ts) total → IsNetSumWith ds tolls ts ws m xs total
      by all = (all.best, all.each, all.sum)

  -- the code's tree, weights and fixing are those of the bidder, and its charges are the tolls
  pub greatest_at : (b : ℕ) (t : Tree) (w charges : Weights) (x : Fixing) (v : ℤ) → t ≡ tree_of ts b → w ≡ weights_of ws b → x ≡ fixing_of xs b
      → ((n : ℕ) → n < length t → weight_of charges n ≡ tolls_on_node ds tolls b n)
      → IsGreatest (IsOpen t x) (net_less t w m charges) v → IsGreatestNet b v
  greatest_at b t w charges x v tree weights fixing each is =
      subst (λ u. IsGreatest (IsOpen u (fixing_of xs b)) (net_with ds tolls b u (weights_of ws b) m) v) tree
      (subst (λ u. IsGreatest (IsOpen t (fixing_of xs b)) (net_with ds tolls b t u m) v) weights
      (subst (λ u. IsGreatest (IsOpen t u) (net_with ds tolls b t w m) v) fixing (greatest-with ds tolls b t w m charges x v each is)))

  pub first_dead : (b : ℕ) (total : ℤ) (t : Tree) (x : Fixing) → b < length ts → t ≡ tree_of ts b → x ≡ fixing_of xs b → IsPartialSum b total
      → ((s : NodeSet) → IsOpen t x s → ⊥) → IsFirstDead ts xs b
  first_dead b total t x there tree fixing is none = record {
    there = there;
    dead = λ s o. none s (subst (λ u. IsOpen u x s) (sym tree) (subst (λ u. IsOpen (tree_of ts b) u s) (sym fixing) o));
    first = not_dead b total is;
  }

  -- the floor of a 4096th of the sum and the tolls on the limits is the bound
  pub floor_bound : (total limits v : ℤ) → limits ≡ tolls_on_limits ds tolls → IsNetSumWith ds tolls ts ws m xs total
      → (pos 4096 *ℤ v) ≤ℤ (total +ℤ limits) → (total +ℤ limits) <ℤ (pos 4096 *ℤ v +ℤ pos 4096) → IsBoundWith ds tolls ts ws m xs v
  floor_bound total limits v same is low high = (total, is, omega (arith, ints, same, low), omega (arith, ints, same, high))
