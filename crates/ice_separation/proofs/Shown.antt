-- One leaf with a multiplier of one good shows a derived good, whatever stands before it.
use Rattle.std.proofs.Common.{ℕ, ◌<◌, ◌≡◌, ◌≢◌, Bool, List, [], ◌∷◌, length, get_or, set, replicate, ℤ, pos, ◌*ℤ◌, ◌≤ℤ◌, arith, sym, subst, ap, ◌∙◌, ◌⊎◌, inl, inr}
use Rattle.std.proofs.lemmas.Int.{ints}
use Rattle.std.proofs.Math.IntN.{zero-*ℤ}
use Rattle.std.proofs.lemmas.List.{nil_from_length}
use Rattle.std.proofs.lemmas.Bool.{cases_eq}
use Rattle.std.proofs.lemmas.List.{append-nil, get_or-set_same, get_or-set_other, get_or-replicate, length-replicate, length-set}
use Rattle.ice_defs.specs.Sum.{sum_below}
use Rattle.ice_defs.proofs.Sums.{sum_below-zero}
use Rattle.ice_defs.specs.Greatest.{IsGreatest}
use Rattle.ice_defs.specs.Tree.{Tree}
use Rattle.ice_defs.specs.Set.{NodeSet, Weights, value}
use Rattle.ice_defs.specs.Fixing.{Fixing}
use Rattle.ice_defs.specs.Trade.{tree_of, weights_of, fixing_of}
use Rattle.ice_defs.specs.Bound.{Multipliers, IsOpen}
use Rattle.ice_defs.specs.Derived.{Derived, Tolls, derived_at, toll_of, net_with, IsBoundWith, IsBoundBy, with_derived, flags_of}
use Rattle.ice_defs.specs.Group.{free_side}
use Rattle.ice_refute.specs.Waiting.{nodes_of}
use Rattle.ice_defs.specs.Steps.{leaf}
use Rattle.ice_defs.specs.Log.{HasWrongSign, PassesBy, closes}
use Rattle.ice_derived.proofs.Following.{sign_of_leaf, bound_of_leaf}
use Rattle.ice_derived.specs.Signs.{HasWrongSigns}
use Rattle.ice_derived.specs.Ranges.{IsLimit, AreAllAmounts}
use Rattle.ice_separation.specs.Derivations.{lone_multiplier, HasAmount, IsDerivation}

-- ---- no tolls cost nothing

module _ (ds : List Derived) where
  no_tolls : (f : ℕ → ℤ) → sum_below (λ k. toll_of [] k *ℤ f k) (length ds) ≡ pos 0
  no_tolls f = sum_below-zero (λ k. toll_of [] k *ℤ f k) (length ds) (λ k h. zero-*ℤ (f k))

  same_greatest : (b : ℕ) (t : Tree) (w : Weights) (m : Multipliers) (x : Fixing) (v : ℤ)
      → IsGreatest (IsOpen t x) (net_with [] [] b t w m) v → IsGreatest (IsOpen t x) (net_with ds [] b t w m) v
  same_greatest b t w m x v is =
      let (s, o, same) = is.attained in
      record { attained = (s, o, sym (net_is s) ∙ same); bound = λ r ok. subst (λ z. z ≤ℤ v) (net_is r) (is.bound r ok) }
    where
      net_is : (s : NodeSet) → net_with [] [] b t w m s ≡ net_with ds [] b t w m s
      net_is s = omega (arith, ints, no_tolls (λ k. value s (weights_of (derived_at ds k).amounts b)))

  same_bound : (ts : List Tree) (ws : List Weights) (m : Multipliers) (xs : List Fixing) (v : ℤ)
      → IsBoundWith [] [] ts ws m xs v → IsBoundWith ds [] ts ws m xs v
  same_bound ts ws m xs v (total, (best, each, sums), low, high) =
      let none = no_tolls (λ k. (derived_at ds k).limit) in (
        total,
        (best, λ b h. same_greatest b (tree_of ts b) (weights_of ws b) m (fixing_of xs b) (best b) (each b h), sums),
        omega (arith, ints, none, low),
        omega (arith, ints, none, high),
      )

-- ---- a leaf of that bound

right_signs : (exact : List Bool) (g m : ℕ) → ¬ HasWrongSign exact (lone_multiplier (length exact) g m)
right_signs exact g m (k, there, plain, below) = by (cases_eq k g)
  where
    zeros : List ℤ
    zeros = replicate (length exact) (pos 0)

    by : (k ≡ g) ⊎ (k ≢ g) → ⊥
    by (inl e) = omega (arith, ints, below, get_or-set_same zeros k (pos m) (pos 0) (omega (arith, there, length-replicate (length exact) (pos 0))), ap (λ j. get_or (set zeros j (pos m)) k (pos 0)) e)
    by (inr ne) = omega (arith, ints, below, get_or-set_other zeros g k (pos m) (pos 0) ne, get_or-replicate (length exact) k (pos 0) (pos 0) there)

pub shows : (ts : List Tree) (exact : List Bool) (ws : List Weights) (xs : List Fixing) (g m : ℕ) (v : ℤ)
    → IsBoundWith [] [] ts ws (lone_multiplier (length exact) g m) xs v
    → (ds : List Derived) → PassesBy (with_derived ds) ts exact ws v xs (leaf (lone_multiplier (length exact) g m) ∷ [])
shows ts exact ws xs g m v is ds =
    let there : IsBoundBy (with_derived ds) ts exact ws ms xs v
    = subst (λ (n : Multipliers). IsBoundBy (with_derived ds) ts exact ws n xs v) (append-nil ms) (bound_of_leaf exact ds ms [] size ts ws xs v (same_bound ds ts ws ms xs v is)) in
    let low : v ≤ℤ v = omega (arith, ints) in
    closes {v = v} signs there low
  where
    ms : Multipliers
    ms = lone_multiplier (length exact) g m

    size : length ms ≡ length exact
    size = length-set (replicate (length exact) (pos 0)) g (pos m) ∙ length-replicate (length exact) (pos 0)

    by : HasWrongSigns exact ms [] → ⊥
    by (inl wrong) = right_signs exact g m wrong
    by (inr (k, there, below)) = omega (arith, there)

    signs : ¬ HasWrongSign (flags_of (with_derived ds) exact) ms
    signs wrong = by (sign_of_leaf exact ds ms [] size (subst (λ (n : Multipliers). HasWrongSign (flags_of (with_derived ds) exact) n) (sym (append-nil ms)) wrong))

-- ---- the bound of that leaf makes a derivation

module _ (ts : List Tree) (exact : List Bool) (ws : List Weights) (g k : ℕ) (v : ℤ) where
  pub derivation_is : (ds : List Derived) (tolls : Tolls) (m : Multipliers) (xs : List Fixing) → ds ≡ [] → length tolls ≡ length ds → m ≡ lone_multiplier (length exact) g k → xs ≡ free_side ts
      → IsBoundWith ds tolls ts ws m xs v → g < length exact → nodes_of ws ≡ nodes_of ts → AreAllAmounts ws → HasAmount ws → IsLimit v
      → IsDerivation ts exact (record { derived = record { amounts = ws; limit = v }; good = g; multiplier = k })
  derivation_is ds tolls m xs no_goods count lone free is there nodes range some limit =
      let no_tolls_there : tolls ≡ [] = nil_from_length tolls (count ∙ ap length no_goods) in
      let at_lists = subst (λ (n : Tolls). IsBoundWith [] n ts ws m xs v) no_tolls_there (subst (λ (n : List Derived). IsBoundWith n tolls ts ws m xs v) no_goods is) in
      let bound = subst (λ (n : List Fixing). IsBoundWith [] [] ts ws (lone_multiplier (length exact) g k) n v) free (subst (λ (n : Multipliers). IsBoundWith [] [] ts ws n xs v) lone at_lists) in
      let shown = shows ts exact ws (free_side ts) g k v bound in
      record {
        good = there;
        nodes = nodes;
        range = range;
        some = some;
        limit = limit;
        bound = bound;
        shown = shown;
        follows = λ (n : List Derived). (leaf (lone_multiplier (length exact) g k) ∷ [], shown n);
      }
