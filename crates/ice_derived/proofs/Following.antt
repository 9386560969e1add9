-- A leaf's numbers are its multipliers and tolls, and a leaf that passes shows a derived good.
use Rattle.std.proofs.Common.{ℕ, ◌+◌, ◌-◌, ◌<◌, ◌≤◌, ◌≡◌, Bool, false, List, [], ◌∷◌, ◌++◌, length, get_or, take, drop, replicate, ℤ, pos, arith, sym, subst, ap, ◌∙◌, ◌⊎◌, inl, inr, length-append}
use Rattle.std.specs.Prelude.{◌<ℤ◌, int_le}
use Rattle.std.proofs.lemmas.Int.{ints}
use Rattle.std.proofs.lemmas.Bool.{cases_lt}
use Rattle.std.proofs.lemmas.List.{get_or_past, get_or-append-add, get_or-replicate, length-replicate}
use Rattle.std.proofs.Math.ListN.{get_or-append}
use Rattle.std.proofs.Math.Seq.{take-append_seam, drop-append_seam, get_or-append_right}
use Rattle.ice_defs.specs.Tree.{Tree}
use Rattle.ice_defs.specs.Set.{Weights}
use Rattle.ice_defs.specs.Fixing.{Fixing}
use Rattle.ice_defs.specs.Bound.{Multipliers}
use Rattle.ice_defs.specs.Derived.{Derived, Tolls, toll_of, IsBoundWith, with_derived, flags_of, IsBoundBy}
use Rattle.ice_defs.specs.Steps.{leaf}
use Rattle.ice_defs.specs.Log.{HasWrongSign, closes, is_dead_leaf}
use Rattle.ice_defs.specs.Group.{free_side}
use Rattle.ice_defs.specs.Follows.{Follows}
use Rattle.ice_refute.specs.Passing.{PassesAtBy}
use Rattle.ice_derived.specs.Signs.{HasWrongSigns}

pub int_le-above : (a b : ℤ) → int_le a b ≡ false → b <ℤ a
int_le-above a b e = grind (arith, ints)

module _ (exact : List Bool) (ds : List Derived) (m : Multipliers) (tolls : Tolls) (size : length m ≡ length exact) where
  -- the bound of a leaf is that at its multipliers and tolls
  pub bound_of_leaf : (ts : List Tree) (ws : List Weights) (xs : List Fixing) (v : ℤ) → IsBoundWith ds tolls ts ws m xs v
      → IsBoundBy (with_derived ds) ts exact ws (m ++ tolls) xs v
  bound_of_leaf ts ws xs v is =
      let front : m ≡ take (length exact) (m ++ tolls) = sym (ap (λ n. take n (m ++ tolls)) (sym size) ∙ take-append_seam m tolls) in
      let rest : tolls ≡ drop (length exact) (m ++ tolls) = sym (ap (λ n. drop n (m ++ tolls)) (sym size) ∙ drop-append_seam m tolls) in
      subst (λ (k : Tolls). IsBoundWith ds k ts ws (take (length exact) (m ++ tolls)) xs v) rest (subst (λ (n : Multipliers). IsBoundWith ds tolls ts ws n xs v) front is)

  -- a wrong sign of a leaf is one of a multiplier, or a negative toll
  pub sign_of_leaf : HasWrongSign (flags_of (with_derived ds) exact) (m ++ tolls) → HasWrongSigns exact m tolls
  sign_of_leaf (g, there, plain, below) = by (cases_lt g (length exact))
    where
      by : (g < length exact) ⊎ (length exact ≤ g) → HasWrongSigns exact m tolls
      by (inl h) =
          let same = get_or-append m tolls (pos 0) g (omega (arith, size, h)) in
          inl (g, h, sym (get_or-append exact (replicate (length ds) false) false g h) ∙ plain, omega (arith, ints, same, below))
      by (inr h) =
          let same = get_or-append_right m tolls g (pos 0) (omega (arith, size, h)) in
          inr (past (g - length m) (omega (arith, ints, same, below)) (cases_lt (g - length m) (length tolls)))
        where
          past : (k : ℕ) → toll_of tolls k <ℤ pos 0 → (k < length tolls) ⊎ (length tolls ≤ k) → (j : ℕ) × (j < length tolls) × (toll_of tolls j <ℤ pos 0)
          past k is (inl l) = (k, l, is)
          past k is (inr l) = absurd (omega (arith, ints, is, get_or_past tolls k (pos 0) l))

  -- and the other way round, where there are no more tolls than derived goods
  pub leaf_has_sign : length tolls ≤ length ds → HasWrongSigns exact m tolls → HasWrongSign (flags_of (with_derived ds) exact) (m ++ tolls)
  leaf_has_sign few (inl (g, there, plain, below)) =
      let same = get_or-append m tolls (pos 0) g (omega (arith, size, there)) in
      (g, omega (arith, there, length-append exact (replicate (length ds) false)), get_or-append exact (replicate (length ds) false) false g there ∙ plain, omega (arith, ints, same, below))
  leaf_has_sign few (inr (k, there, below)) =
      let same : get_or (m ++ tolls) (length exact + k) (pos 0) ≡ toll_of tolls k = ap (λ n. get_or (m ++ tolls) (n + k) (pos 0)) (sym size) ∙ get_or-append-add m tolls k (pos 0) in
      let inside : k < length ds = omega (arith, few, there) in (
        length exact + k,
        omega (arith, inside, length-append exact (replicate (length ds) false), length-replicate (length ds) false),
        get_or-append-add exact (replicate (length ds) false) k false ∙ get_or-replicate (length ds) k false false inside,
        omega (arith, ints, same, below),
      )

-- a derived good follows where a leaf passes with all nodes free
pub leaf_follows : (ts : List Tree) (exact : List Bool) (ds : List Derived) (d : Derived) (m : Multipliers)
    → PassesAtBy (with_derived ds) ts exact d.amounts d.limit (free_side ts) (leaf m) → Follows ts exact ds d
leaf_follows ts exact ds d m (signs, inl dead) = (leaf m ∷ [], is_dead_leaf signs dead)
leaf_follows ts exact ds d m (signs, inr (v, is, low)) = (leaf m ∷ [], closes signs is low)
