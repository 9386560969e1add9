-- The loss of a set, and which sets are best, ahead or gain more, by the profiles that decide.
use Rattle.std.proofs.Common.{ℕ, ◌<◌, ◌≤◌, ◌≡◌, Bool, true, false, cond, length, ℤ, pos, ◌-ℤ◌, ◌*ℤ◌, ◌≤ℤ◌, ◌<ℤ◌, arith, ap, ◌∙◌, ◌⊎◌, inl, inr, subst}
use Rattle.std.proofs.lemmas.Int.{ints}
use Rattle.std.proofs.Math.IntN.{*ℤ-zero}
use Rattle.ice_defs.specs.Tree.{Tree}
use Rattle.ice_defs.specs.Set.{NodeSet, has, IsSatisfied, Weights, weight_of}
use Rattle.ice_defs.specs.Bounds.{Bounds, IsInside}
use Rattle.ice_defs.specs.Prices.{Prices}
use Rattle.ice_defs.specs.Rules.{net_at, IsAhead, IsBestThroughout, IsLoss, IsMrpar, GainsMore, Improves}
use Rattle.ice_best_at_prices.specs.Net.{IsBestAtPrices}
use Rattle.ice_defs.proofs.Products.{times-le}
use Rattle.ice_rules.specs.Profiles.{AreAgainst, AreInFavour}
use Rattle.ice_rules.specs.Centre.{IsAsGoodAsAny}
use Rattle.ice_defs.proofs.Multiples.{times_less, one_time, times-lt, times_cancel}
use Rattle.ice_rules.proofs.Gaps.{against_favours, in_favour_favours, greatest_gain}

-- no lower value is above the upper one
abbrev pub AreOrdered : Bounds → Type 0
AreOrdered bounds = (n : ℕ) → n < length bounds.lo → weight_of bounds.lo n ≤ℤ weight_of bounds.hi n

between : (b : Bool) (lo hi : ℤ) → lo ≤ℤ hi
    → ((pos 1 *ℤ lo) ≤ℤ cond b lo hi) × (cond b lo hi ≤ℤ (pos 1 *ℤ hi)) × ((pos 1 *ℤ lo) ≤ℤ cond b hi lo) × (cond b hi lo ≤ℤ (pos 1 *ℤ hi))
between true lo hi h = (omega (arith, ints, one_time lo), omega (arith, ints, one_time hi), omega (arith, ints, one_time lo), omega (arith, ints, one_time hi))
between false lo hi h = (omega (arith, ints, one_time lo), omega (arith, ints, one_time hi), omega (arith, ints, one_time lo), omega (arith, ints, one_time hi))

pub against_inside : (bounds : Bounds) (s : NodeSet) (w : Weights) → AreAgainst bounds s w → AreOrdered bounds → IsInside 1 bounds w
against_inside bounds s w are ordered = record {
  same_length = are.nodes;
  low = λ n h.
      let l : n < length bounds.lo = omega (arith, are.nodes, h) in
      omega (arith, ints, are.each n l, (between (has s n) (weight_of bounds.lo n) (weight_of bounds.hi n) (ordered n l)).0);
  high = λ n h.
      let l : n < length bounds.lo = omega (arith, are.nodes, h) in
      omega (arith, ints, are.each n l, (between (has s n) (weight_of bounds.lo n) (weight_of bounds.hi n) (ordered n l)).1);
}

pub in_favour_inside : (bounds : Bounds) (s : NodeSet) (w : Weights) → AreInFavour bounds s w → AreOrdered bounds → IsInside 1 bounds w
in_favour_inside bounds s w are ordered = record {
  same_length = are.nodes;
  low = λ n h.
      let l : n < length bounds.lo = omega (arith, are.nodes, h) in
      omega (arith, ints, are.each n l, (between (has s n) (weight_of bounds.lo n) (weight_of bounds.hi n) (ordered n l)).2);
  high = λ n h.
      let l : n < length bounds.lo = omega (arith, are.nodes, h) in
      omega (arith, ints, are.each n l, (between (has s n) (weight_of bounds.lo n) (weight_of bounds.hi n) (ordered n l)).3);
}

module _ (t : Tree) (p : Prices) (bounds : Bounds) (nodes : length bounds.lo ≡ length t) where
  -- ---- the loss

  pub loss_is : (s : NodeSet) (w : Weights) (out : NodeSet) (best : ℤ) → IsSatisfied t s → AreAgainst bounds s w → AreOrdered bounds → IsBestAtPrices t w 1 p out best
      → IsLoss t p s bounds (best -ℤ net_at t p 1 w s)
  loss_is s w out best sat are ordered is = record {
    attained = (1, w, out, omega arith, against_inside bounds s w are ordered, is.satisfied, attained);
    bound = λ k v b one inside ok.
        let gain = greatest_gain t p bounds b s w v k (against_favours bounds b s w are) inside (omega (arith, ok.same_length, nodes)) (omega (arith, sat.same_length, nodes)) in
        let most : (net_at t p 1 w b -ℤ net_at t p 1 w s) ≤ℤ (best -ℤ net_at t p 1 w s) = omega (arith, ints, is.greatest b ok) in
        omega (arith, ints, gain, times-le k _ _ most);
  }
    where
      attained : (net_at t p 1 w out -ℤ net_at t p 1 w s) ≡ pos 1 *ℤ (best -ℤ net_at t p 1 w s)
      attained = omega (arith, ints, is.has, one_time (best -ℤ net_at t p 1 w s))

  pub loss_not_negative : (s : NodeSet) (w : Weights) (out : NodeSet) (best : ℤ) → IsSatisfied t s → IsBestAtPrices t w 1 p out best → pos 0 ≤ℤ (best -ℤ net_at t p 1 w s)
  loss_not_negative s w out best sat is = omega (arith, ints, is.greatest s sat)

  loss-le : (s : NodeSet) (one other : ℤ) → IsLoss t p s bounds one → IsLoss t p s bounds other → one ≤ℤ other
  loss-le s one other x y =
      let (k, v, b, some, inside, sat, e) = x.attained in
      times_cancel k one other some (omega (arith, ints, e, y.bound k v b some inside sat))

  -- there is one loss
  pub loss_unique : (s : NodeSet) (one other : ℤ) → IsLoss t p s bounds one → IsLoss t p s bounds other → one ≡ other
  loss_unique s one other x y = omega (arith, ints, loss-le s one other x y, loss-le s other one y x)

  -- ---- best throughout

  pub best_from_none : (s : NodeSet) (loss : ℤ) → IsLoss t p s bounds loss → loss ≡ pos 0 → IsBestThroughout t p bounds s
  best_from_none s loss is none k v b some inside sat =
      let zero : pos k *ℤ loss ≡ pos 0 = ap (λ z. pos k *ℤ z) none ∙ *ℤ-zero (pos k) in
      omega (arith, ints, is.bound k v b some inside sat, zero)

  pub none_from_best : (s : NodeSet) (loss : ℤ) → IsLoss t p s bounds loss → pos 0 ≤ℤ loss → IsBestThroughout t p bounds s → loss ≡ pos 0
  none_from_best s loss is low best =
      let (k, v, b, some, inside, sat, e) = is.attained in
      let high = times_cancel k loss (pos 0) some (omega (arith, ints, e, best k v b some inside sat, *ℤ-zero (pos k))) in
      omega (arith, ints, low, high)

  -- ---- ahead

  pub ahead_from : (a s : NodeSet) (w : Weights) → length a ≡ length t → length s ≡ length t → AreAgainst bounds a w → net_at t p 1 w s <ℤ net_at t p 1 w a → IsAhead t p bounds a s
  ahead_from a s w a_size s_size are less k v some inside =
      let gain = greatest_gain t p bounds s a w v k (against_favours bounds s a w are) inside (omega (arith, s_size, nodes)) (omega (arith, a_size, nodes)) in
      let below : (net_at t p 1 w s -ℤ net_at t p 1 w a) <ℤ pos 0 = omega (arith, ints, less) in
      omega (arith, ints, gain, times-lt k _ (pos 0) some below, *ℤ-zero (pos k))

  pub ahead_gives : (a s : NodeSet) (w : Weights) → AreAgainst bounds a w → AreOrdered bounds → IsAhead t p bounds a s → net_at t p 1 w s <ℤ net_at t p 1 w a
  ahead_gives a s w are ordered ahead = ahead 1 w (omega arith) (against_inside bounds a w are ordered)

  -- ---- gains

  pub gains_from : (s : NodeSet) (w : Weights) (out : NodeSet) (best least : ℤ) → IsSatisfied t s → AreInFavour bounds s w → IsBestAtPrices t w 1 p out best
      → least <ℤ (best -ℤ net_at t p 1 w s) → GainsMore t p s bounds least
  gains_from s w out best least sat are is less = (out, is.satisfied, λ k v some inside. more k v some inside)
    where
      more : (k : ℕ) (v : Weights) → 1 ≤ k → IsInside k bounds v → (pos k *ℤ least) <ℤ (net_at t p k v out -ℤ net_at t p k v s)
      more k v some inside =
          let gain = greatest_gain t p bounds s out w v k (in_favour_favours bounds s out w are) inside (omega (arith, sat.same_length, nodes)) (omega (arith, is.satisfied.same_length, nodes)) in
          let back : net_at t p 1 w s -ℤ net_at t p 1 w out ≡ pos 0 -ℤ (best -ℤ net_at t p 1 w s) = omega (arith, ints, is.has) in
          let turned : pos k *ℤ (net_at t p 1 w s -ℤ net_at t p 1 w out) ≡ pos k *ℤ (pos 0 -ℤ (best -ℤ net_at t p 1 w s)) = ap (λ z. pos k *ℤ z) back in
          omega (arith, ints, gain, turned, times_less (pos k) (pos 0) (best -ℤ net_at t p 1 w s), *ℤ-zero (pos k), times-lt k least _ some less)

  pub gains_give : (s : NodeSet) (w : Weights) (out : NodeSet) (best least : ℤ) → AreInFavour bounds s w → AreOrdered bounds → IsBestAtPrices t w 1 p out best
      → GainsMore t p s bounds least → least <ℤ (best -ℤ net_at t p 1 w s)
  gains_give s w out best least are ordered is (b, ok, more) =
      omega (arith, ints, more 1 w (omega arith) (in_favour_inside bounds s w are ordered), one_time least, is.greatest b ok)

  -- ---- the first rule

  -- where some set is best throughout, a set that is as good as any is so too
  pub best_if_any : (a s : NodeSet) → IsAsGoodAsAny t p bounds a → IsMrpar t p s bounds → IsBestThroughout t p bounds a
  best_if_any a s good (best, sat, throughout, rest) k v b some inside ok =
      omega (arith, ints, throughout k v b some inside ok, good best sat throughout k v some inside)

  pub mrpar_gives : (a s : NodeSet) → IsAsGoodAsAny t p bounds a → IsMrpar t p s bounds → IsBestThroughout t p bounds s ⊎ IsAhead t p bounds a s
  mrpar_gives a s good (best, sat, throughout, inl same) = inl same
  mrpar_gives a s good (best, sat, throughout, inr ahead) =
      inr (λ k v some inside. omega (arith, ints, ahead k v some inside, good best sat throughout k v some inside))

-- ---- the second rule

-- where none of the three holds, new bounds do not improve
pub improves_not : (t : Tree) (p : Prices) (s : NodeSet) (old new : Bounds) (improve loss left : ℤ) → length old.lo ≡ length t → length new.lo ≡ length t
    → IsLoss t p s old loss → IsLoss t p s new left → (left ≡ pos 0 → ⊥) → (left ≤ℤ (loss -ℤ (improve *ℤ pos p.den)) → ⊥) → (GainsMore t p s new (loss -ℤ (improve *ℤ pos p.den)) → ⊥)
    → Improves t p s old new improve → ⊥
improves_not t p s old new improve loss left old_nodes new_nodes is was some more none (loss', left', is', was', ends) =
    by ends
  where
    same : loss' ≡ loss
    same = loss_unique t p old old_nodes s loss' loss is' is

    kept : left' ≡ left
    kept = loss_unique t p new new_nodes s left' left was' was

    by : (left' ≡ pos 0) ⊎ (left' ≤ℤ (loss' -ℤ (improve *ℤ pos p.den))) ⊎ GainsMore t p s new (loss' -ℤ (improve *ℤ pos p.den)) → ⊥
    by (inl e) = some (omega (arith, ints, kept, e))
    by (inr (inl le)) = more (omega (arith, ints, kept, same, le))
    by (inr (inr gains)) = none (subst (λ z. GainsMore t p s new (z -ℤ (improve *ℤ pos p.den))) same gains)
