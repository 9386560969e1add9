-- Where each bidder has a set that meets the side, there is a sum of greatest nets.
use Rattle.std.proofs.Common.{ℕ, zero, suc, ◌+◌, ◌<◌, ◌≤◌, ◌≡◌, Bool, true, false, List, [], ◌∷◌, length, ℤ, pos, ◌+ℤ◌, ◌≤ℤ◌, refl, arith, ap, sym, ◌⊎◌, inl, inr, subst, below_more}
use Rattle.std.specs.List.{Contains}
use Rattle.std.proofs.lemmas.Bool.{both_ways}
use Rattle.std.proofs.lemmas.Int.{ints, by_lt_z}
use Rattle.ice_defs.specs.declared.Mark.{Mark}
use Rattle.ice_defs.specs.declared.Mark.TheVariants.{Free, Must, Never}
use Rattle.ice_defs.specs.Tree.{Tree}
use Rattle.ice_defs.specs.Set.{NodeSet, Weights, IsSatisfied, has}
use Rattle.ice_defs.specs.SetFault.{is_satisfied}
use Rattle.ice_defs.specs.Sale.{all_sets}
use Rattle.ice_defs.specs.Fixing.{Fixing, mark_of, Agrees, Meets}
use Rattle.ice_defs.specs.Greatest.{IsGreatest}
use Rattle.ice_defs.specs.Trade.{tree_of, weights_of, fixing_of}
use Rattle.ice_defs.specs.Bound.{Multipliers, net, IsOpen, IsNetSum}
use Rattle.ice_defs.specs.Steps.{Side}
use Rattle.ice_defs.specs.Sweep.{IsLive}
use Rattle.ice_best.proofs.Deciding.{is_satisfied-true, is_satisfied-from}
use Rattle.ice_best.proofs.Sales.{all_sets-has}
use Rattle.ice_bound.proofs.Totals.{IsPartialSum, no_bidder, one_bidder_more, all_bidders}

-- so or not
abbrev Decided : Type 0 → Type 0
Decided P = P ⊎ (P → ⊥)

-- ---- a greatest one of a list

front_or_rest : {X : Type 0} (x : X) (xs : List X) (y : X) → Contains (x ∷ xs) y → (x ≡ y) ⊎ Contains xs y
front_or_rest x xs y (zero, h, e) = inl e
front_or_rest x xs y (suc k, h, e) = inr (k, omega (arith, h), e)

module _ {X : Type 0} (Is : X → Type 0) (size : X → ℤ) where
  abbrev HasNone : List X → Type 0
  HasNone xs = (y : X) → Contains xs y → Is y → ⊥

  abbrev IsGreatestOf : List X → X → Type 0
  IsGreatestOf xs x = (y : X) → Contains xs y → Is y → size y ≤ℤ size x

  abbrev HasGreatest : List X → Type 0
  HasGreatest xs = HasNone xs ⊎ ((x : X) × Is x × IsGreatestOf xs x)

  none_more : (x : X) (xs : List X) → (Is x → ⊥) → HasNone xs → HasNone (x ∷ xs)
  none_more x xs isnt none y there is = by (front_or_rest x xs y there)
    where
      by : (x ≡ y) ⊎ Contains xs y → ⊥
      by (inl e) = isnt (subst Is (sym e) is)
      by (inr later) = none y later is

  skipped : (x : X) (xs : List X) (b : X) → (Is x → ⊥) → IsGreatestOf xs b → IsGreatestOf (x ∷ xs) b
  skipped x xs b isnt greatest y there is = by (front_or_rest x xs y there)
    where
      by : (x ≡ y) ⊎ Contains xs y → size y ≤ℤ size b
      by (inl e) = absurd (isnt (subst Is (sym e) is))
      by (inr later) = greatest y later is

  kept : (x : X) (xs : List X) (b : X) → size x ≤ℤ size b → IsGreatestOf xs b → IsGreatestOf (x ∷ xs) b
  kept x xs b less greatest y there is = by (front_or_rest x xs y there)
    where
      by : (x ≡ y) ⊎ Contains xs y → size y ≤ℤ size b
      by (inl e) = omega (arith, ints, ap size e, less)
      by (inr later) = greatest y later is

  alone : (x : X) (xs : List X) → HasNone xs → IsGreatestOf (x ∷ xs) x
  alone x xs none y there is = by (front_or_rest x xs y there)
    where
      by : (x ≡ y) ⊎ Contains xs y → size y ≤ℤ size x
      by (inl e) = omega (arith, ints, ap size e)
      by (inr later) = absurd (none y later is)

  taken : (x : X) (xs : List X) (b : X) → size b ≤ℤ size x → IsGreatestOf xs b → IsGreatestOf (x ∷ xs) x
  taken x xs b less greatest y there is = by (front_or_rest x xs y there)
    where
      by : (x ≡ y) ⊎ Contains xs y → size y ≤ℤ size x
      by (inl e) = omega (arith, ints, ap size e)
      by (inr later) = omega (arith, ints, greatest y later is, less)

  one_more : (x : X) (xs : List X) → Decided (Is x) → HasGreatest xs → HasGreatest (x ∷ xs)
  one_more x xs (inr isnt) (inl none) = inl (none_more x xs isnt none)
  one_more x xs (inl is_one) (inl none) = inr (x, is_one, alone x xs none)
  one_more x xs (inr isnt) (inr (b, is, greatest)) = inr (b, is, skipped x xs b isnt greatest)
  one_more x xs (inl is_one) (inr (b, is, greatest)) =
      by_lt_z (size b) (size x) (λ less. inr (x, is_one, taken x xs b (omega (arith, ints, less)) greatest)) (λ more. inr (b, is, kept x xs b more greatest))

  has_greatest : ((x : X) → Decided (Is x)) → (xs : List X) → HasGreatest xs
  has_greatest decide [] = inl (λ y (k, h, e). absurd (omega (arith, h)))
  has_greatest decide (x ∷ xs) = one_more x xs (decide x) (has_greatest decide xs)

-- ---- which sets are open

both_decided : (P Q : Type 0) → Decided P → Decided Q → Decided (P × Q)
both_decided P Q (inl p) (inl q) = inl (p, q)
both_decided P Q (inl p) (inr isnt) = inr (λ both. isnt both.1)
both_decided P Q (inr isnt) dq = inr (λ both. isnt both.0)

below_decided : (P : ℕ → Type 0) → ((n : ℕ) → Decided (P n)) → (k : ℕ) → Decided ((n : ℕ) → n < k → P n)
below_decided P decide zero = inl (λ n h. absurd (omega (arith, h)))
below_decided P decide (suc k) = by (decide k) (below_decided P decide k)
  where
    by : Decided (P k) → Decided ((n : ℕ) → n < k → P n) → Decided ((n : ℕ) → n < suc k → P n)
    by (inl here) (inl before) = inl (λ n h. below_more P k before here n (omega (arith, h)))
    by (inl here) (inr isnt) = inr (λ all. isnt (λ n h. all n (omega (arith, h))))
    by (inr isnt) before = inr (λ all. isnt (all k (omega arith)))

agrees_decided : (mark : Mark) (inside : Bool) → Decided (Agrees mark inside)
agrees_decided Free inside = inl tt
agrees_decided Must true = inl refl
agrees_decided Must false = inr (λ e. both_ways false refl e)
agrees_decided Never true = inr (λ e. both_ways true e refl)
agrees_decided Never false = inl refl

satisfied_decided : (t : Tree) (s : NodeSet) → Decided (IsSatisfied t s)
satisfied_decided t s = by (is_satisfied t s) refl
  where
    by : (b : Bool) → is_satisfied t s ≡ b → Decided (IsSatisfied t s)
    by true e = inl (is_satisfied-true t s e)
    by false e = inr (λ sat. both_ways (is_satisfied t s) e (is_satisfied-from t s sat))

open_decided : (t : Tree) (x : Fixing) (s : NodeSet) → Decided (IsOpen t x s)
open_decided t x s =
    both_decided (IsSatisfied t s) (Meets s x) (satisfied_decided t s) (below_decided (λ n. Agrees (mark_of x n) (has s n)) (λ n. agrees_decided (mark_of x n) (has s n)) (length s))

-- ---- the sum

in_all_sets : (t : Tree) (s : NodeSet) → IsSatisfied t s → Contains (all_sets (length t)) s
in_all_sets t s sat = subst (λ n. Contains (all_sets n) s) sat.same_length (all_sets-has s)

greatest_net : (t : Tree) (w : Weights) (m : Multipliers) (x : Fixing) (s : NodeSet) → IsOpen t x s → (v : ℤ) × IsGreatest (IsOpen t x) (net t w m) v
greatest_net t w m x s is_open = by (has_greatest (IsOpen t x) (net t w m) (open_decided t x) (all_sets (length t)))
  where
    by : HasGreatest (IsOpen t x) (net t w m) (all_sets (length t)) → (v : ℤ) × IsGreatest (IsOpen t x) (net t w m) v
    by (inl none) = absurd (none s (in_all_sets t s is_open.0) is_open)
    by (inr (b, is, greatest)) = (net t w m b, record { attained = (b, is, refl); bound = λ r ok. greatest r (in_all_sets t r ok.0) ok })

module _ (ts : List Tree) (ws : List Weights) (m : Multipliers) (side : Side) (live : IsLive ts side) where
  partial_sum : (n : ℕ) → n ≤ length ts → (total : ℤ) × IsPartialSum ts ws m side n total
  partial_sum zero few = (pos 0, no_bidder ts ws m side)
  partial_sum (suc n) few =
      let (total, before) = partial_sum n (omega (arith, few)) in
      let (s, is_open) = live n (omega (arith, few)) in
      let (v, greatest) = greatest_net (tree_of ts n) (weights_of ws n) m (fixing_of side n) s is_open in
      let next : n + 1 ≡ suc n = omega arith in
      (total +ℤ v, subst (λ k. IsPartialSum ts ws m side k (total +ℤ v)) next (one_bidder_more ts ws m side n total v before greatest))

  -- a live side has a sum
  pub has_sum : (total : ℤ) × IsNetSum ts ws m side total
  has_sum = let (total, is) = partial_sum (length ts) (omega arith) in (total, all_bidders ts ws m side (length ts) total refl is)
