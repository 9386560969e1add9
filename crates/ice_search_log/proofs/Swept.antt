-- A swept part, and the value of sets by their nets.
use Rattle.std.proofs.Common.{ℕ, zero, suc, ◌<◌, ◌≡◌, Bool, true, false, List, [], ◌∷◌, length, get_or, set, ℤ, pos, ◌+ℤ◌, ◌*ℤ◌, ◌≤ℤ◌, arith, ap, sym, ◌∙◌, subst, ◌⊎◌, inl, inr, get_or-set_same, get_or-set_other}
use Rattle.std.proofs.lemmas.Int.{ints}
use Rattle.std.proofs.lemmas.Bool.{cases_eq}
use Rattle.std.proofs.lemmas.List.{length-set, length-map, length-replicate, get_or-replicate}
use Rattle.ice_defs.specs.Sum.{sum_below}
use Rattle.ice_defs.proofs.Sums.{sum_below-same, sum_below-add, sum_below-swap}
use Rattle.ice_defs.proofs.Products.{sum_below-times}
use Rattle.ice_defs.specs.Tree.{Tree}
use Rattle.ice_defs.specs.Set.{Weights, value, units}
use Rattle.ice_defs.specs.Trade.{tree_of, set_of, weights_of, total_units, is_exact}
use Rattle.ice_defs.specs.Bound.{Multipliers, cost, net, IsBound}
use Rattle.ice_defs.specs.Derived.{Means, goods_alone, with_derived, flags_of}
use Rattle.ice_defs.specs.Steps.{leaf, Side}
use Rattle.ice_defs.specs.Log.{HasWrongSign, is_dead_leaf, closes, PassesBy}
use Rattle.ice_defs.specs.Sweep.{SweepsBelow, Sweeps, idle, moves, all_zero, IsSweptBound}
use Rattle.ice_bound.specs.Laws.{in_4096ths}
use Rattle.ice_bound.proofs.Derived.{plain_bound_is_bound}
use Rattle.ice_refute.proofs.Derived.{plain_passes}
use Rattle.ice_search_log.specs.Parts.{Part}
use Rattle.ice_search_log.specs.Searching.{leaf_numbers, IsPart}
use Rattle.ice_search_log.specs.Laws.{NetsGiveValue, SweepIsLawful, SweptIsPart}

pub nets_give_value : NetsGiveValue
nets_give_value ts ws m a size =
    let nets = λ (b : ℕ). net (tree_of ts b) (weights_of ws b) m (set_of a b) in
    let costs = λ (b : ℕ). cost (tree_of ts b) (set_of a b) m in
    let values = λ (b : ℕ). value (set_of a b) (weights_of ws b) in
    let swapped = sum_below-swap (λ b g. get_or m g (pos 0) *ℤ units (tree_of ts b) (set_of a b) g) (length ts) (length m) in
    let each = sum_below-same (λ g. sum_below (λ b. get_or m g (pos 0) *ℤ units (tree_of ts b) (set_of a b) g) (length ts)) (λ g. get_or m g (pos 0) *ℤ total_units ts a g) (length m)
    (λ g h. sum_below-times (get_or m g (pos 0)) (λ b. units (tree_of ts b) (set_of a b) g) (length ts)) in
    let parts = sum_below-same (λ b. nets b +ℤ costs b) (λ b. pos 64 *ℤ values b) (length ts) (λ b h. omega (arith, ints)) in
    let added = sum_below-add nets costs (length ts) in
    let times = sum_below-times (pos 64) values (length ts) in
    let same = ap (sum_below values) size in
    omega (arith, ints, swapped, each, parts, added, times, same)

module _ (ts : List Tree) (exact : List Bool) (ws : List Weights) (side : Side) where
  -- one multiplier per good, and a negative one for exact goods alone
  abbrev AreLawful : Multipliers → Type 0
  AreLawful m = (length m ≡ length exact) × ((g : ℕ) → g < length exact → is_exact exact g ≡ false → pos 0 ≤ℤ get_or m g (pos 0))

  zeros_are : AreLawful (all_zero ts exact ws)
  zeros_are = (length-replicate (length exact) (pos 0), λ g l plain. let e = get_or-replicate (length exact) g (pos 0) (pos 0) l in omega (arith, ints, e))

  sweeps_are : (n : ℕ) (from to : Multipliers) → AreLawful from → SweepsBelow ts exact ws side n from to → AreLawful to
  sweeps_are zero from to are is = subst AreLawful (sym is) are
  sweeps_are (suc n) from to are (before, z, total, below, lowest, is) = subst AreLawful (sym is) (by (sweeps_are n from before are below))
    where
      by : AreLawful before → AreLawful (set before n z)
      by (size, signs) = (length-set before n z ∙ size, λ g l plain. at g l plain (cases_eq g n))
        where
          at : (g : ℕ) → g < length exact → is_exact exact g ≡ false → (g ≡ n) ⊎ (g ≡ n → ⊥) → pos 0 ≤ℤ get_or (set before n z) g (pos 0)
          at g l plain (inl e) =
              let here = ap (λ k. get_or (set before n z) k (pos 0)) e ∙ get_or-set_same before n z (pos 0) (omega (arith, l, e, size)) in
              let sign = lowest.lawful.sign (ap (is_exact exact) (sym e) ∙ plain) in
              omega (arith, ints, here, sign)
          at g l plain (inr ne) = let here = get_or-set_other before n g z (pos 0) ne in let sign = signs g l plain in omega (arith, ints, here, sign)

  sweep_is : {from to : Multipliers} → AreLawful from → Sweeps ts exact ws side from to → AreLawful to
  sweep_is are (idle dead) = are
  sweep_is are (moves {from = from} {to = to} live below) = sweeps_are (length exact) from to are below

pub sweep_is_lawful : SweepIsLawful
sweep_is_lawful ts exact ws side m sweeps =
    let are = sweep_is ts exact ws side (zeros_are ts exact ws side) sweeps in
    (are.0, λ wrong. absurd (omega (arith, ints, are.1 wrong.0 wrong.1 wrong.2, wrong.3)))

-- a leaf that passes has no wrong sign
right_signs : (means : Means) (ts : List Tree) (exact : List Bool) (ws : List Weights) (side : Side) (m : Multipliers) (v : ℤ)
    → PassesBy means ts exact ws v side (leaf m ∷ []) → ¬ HasWrongSign (flags_of means exact) m
right_signs means ts exact ws side m v (is_dead_leaf signs is) = signs
right_signs means ts exact ws side m v (closes signs is small) = signs

-- a part takes multipliers of the goods
moved : (means : Means) (ts : List Tree) (exact : List Bool) (ws : List Weights) (side : Side) (p : Part) (m : Multipliers) (v : ℤ)
    → length m ≡ length exact → ¬ HasWrongSign exact m → IsBound ts ws m side v → (true ≡ true → (low : ℤ) × IsSweptBound ts exact ws side low × (v ≤ℤ low))
    → IsPart means ts exact ws side (record p { m = leaf_numbers means m; key = v; swept = true })
moved goods_alone ts exact ws side p m v size signs is swept = record { counts = size; signs = signs; bound = is; swept = swept }
moved (with_derived ds) ts exact ws side p m v size signs is swept = record {
  counts = omega (arith, size, length-map m (λ z. pos 64 *ℤ z));
  signs = right_signs (with_derived ds) ts exact ws side (in_4096ths m) v ((plain_passes ds ts exact ws v side (leaf m ∷ []) (size, tt)).0 (closes {v = v} signs is (omega (arith, ints))));
  bound = (plain_bound_is_bound ds ts exact ws m side v (omega (arith, size))).0 is;
  swept = swept;
}

pub swept_is_part : SweptIsPart
swept_is_part means ts exact ws side p m v part sweeps is =
    let lawful = sweep_is_lawful ts exact ws side m sweeps in (
      moved means ts exact ws side p m v lawful.0 lawful.1 is (λ _. (v, (m, sweeps, is), omega (arith, ints))),
      λ low. record { counts = part.counts; signs = part.signs; bound = part.bound; swept = λ _. (v, (m, sweeps, is), low) },
    )
