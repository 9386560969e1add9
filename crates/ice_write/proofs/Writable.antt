-- What searches give may be written.
use Rattle.std.proofs.Common.{◌≡◌, ℕ, zero, suc, ◌<◌, ◌≤◌, Bool, List, [], ◌∷◌, length, map, ℤ, pos, Result, Ok, refl, subst, arith}
use Rattle.std.specs.List.{AllByRecursion}
use Rattle.std.proofs.lemmas.List.{length-map}
use Rattle.ice_defs.specs.Tree.{Tree}
use Rattle.ice_defs.specs.Set.{Weights}
use Rattle.ice_defs.specs.Trade.{Assignment, tree_of, IsFeasible}
use Rattle.ice_defs.specs.Steps.{Step, branch, leaf, dead, Side}
use Rattle.ice_defs.specs.Log.{Fault, Reads, ends, branches, stops, is_fixed, has_sign, is_dead_leaf, closes, is_above, is_dead, is_alive, Passes}
use Rattle.ice_defs.specs.Exchange.{Good, Bidder, Exchange, trees_of, exact_of}
use Rattle.ice_defs.specs.Lawful.{IsBidder, IsExchange}
use Rattle.ice_defs.proofs.Lists.{all-from}
use Rattle.ice_bound.specs.Multipliers.{AreInRange}
use Rattle.ice_refute.specs.Code.{CountsGoods}
use Rattle.ice_search_log.specs.Code.{IsRangedStep}
use Rattle.ice_journal.specs.Ranges.{IsBits, IsMultiplier, IsStepRecord}
use Rattle.ice_write.specs.Writable.{AreWritable}

-- trees of 1 to 200 nodes
abbrev AreSmall : List Tree → Type 0
AreSmall ts = (b : ℕ) → b < length ts → (0 < length (tree_of ts b)) × (length (tree_of ts b) ≤ 200)

small_trees : (goods : ℕ) (bidders : List Bidder) → AllByRecursion (IsBidder goods) bidders → AreSmall (map (λ x. x.tree) bidders)
small_trees goods [] are b there = absurd (omega (arith, there))
small_trees goods (x ∷ bidders) are zero there = (are.0.tree.tree.rooted, are.0.tree.count)
small_trees goods (x ∷ bidders) are (suc b) there = small_trees goods bidders are.1 b (omega (arith, there))

-- ---- sets

sets_are_bits : (ts : List Tree) (exact : List Bool) (sets : Assignment) → AreSmall ts → IsFeasible ts exact sets → AllByRecursion IsBits sets
sets_are_bits ts exact sets small feasible = all-from IsBits sets [] (λ b l.
    let there : b < length ts = omega (arith, l, feasible.same_length) in
    let same = (feasible.satisfied b there).same_length in
    let size = small b there in
    (omega (arith, same, size.0), omega (arith, same, size.1)))

-- ---- logs

multipliers_from : (m : List ℤ) → AreInRange m → AllByRecursion IsMultiplier m
multipliers_from m range = all-from IsMultiplier m (pos 0) (λ g l. let is = range g l in (is.low, is.high))

module _ (ts : List Tree) (exact : List Bool) (ws : List Weights) (target : ℤ) (few : length ts ≤ 40) (small : AreSmall ts) (some_goods : 1 ≤ length exact) (few_goods : length exact ≤ 32) where
  abbrev Written : List Step → Type 0
  Written log = AllByRecursion (CountsGoods (length exact)) log × AllByRecursion IsRangedStep log

  leaf_is : (m : List ℤ) → length m ≡ length exact → AreInRange m → IsStepRecord (leaf m)
  leaf_is m counts range = ((omega (arith, counts, some_goods), omega (arith, counts, few_goods)), multipliers_from m range)

  branch_is : (b n : ℕ) → b < length ts → n < length (tree_of ts b) → IsStepRecord (branch b n)
  branch_is b n there inside = (omega (arith, there, few), omega (arith, inside, (small b there).1))

  dead_is : (b : ℕ) → b < length ts → IsStepRecord (dead b)
  dead_is b there = omega (arith, there, few)

  left_same : (rest left : List Step) → (let o : Result (List Step) Fault = Ok rest in o) ≡ Ok left → left ≡ rest
  left_same rest left e = cc

  abbrev Closes : List Step → Type 0
  Closes left = Written left → AllByRecursion IsStepRecord left

  -- where the steps behind a side may be written, so may the steps from it on
  read_is : {side : Side} {log : List Step} {end : Result (List Step) Fault} → Reads ts exact ws target side log end → (left : List Step) → end ≡ Ok left → Closes left → Closes log
  read_is ends left e on written = absurd cc
  read_is (branches {side = side} {b = b} {n = n} {rest = rest} {left = mid} free must never) left e on (counts, ranged) =
      (branch_is b n free.0 free.1, read_is must mid refl (λ w. read_is never left e on w) (counts.1, ranged.1))
  read_is (stops free must) left e on written = absurd cc
  read_is (is_fixed none) left e on written = absurd cc
  read_is (has_sign wrong) left e on written = absurd cc
  read_is (is_dead_leaf {side = side} {m = m} {rest = rest} signs none) left e on (counts, ranged) =
      (leaf_is m counts.0 ranged.0, subst Closes (left_same rest left e) on (counts.1, ranged.1))
  read_is (closes {side = side} {m = m} {rest = rest} {v = v} signs bound low) left e on (counts, ranged) =
      (leaf_is m counts.0 ranged.0, subst Closes (left_same rest left e) on (counts.1, ranged.1))
  read_is (is_above signs bound high) left e on written = absurd cc
  read_is (is_dead {side = side} {b = b} {rest = rest} is) left e on (counts, ranged) = (dead_is b is.0, subst Closes (left_same rest left e) on (counts.1, ranged.1))
  read_is (is_alive none) left e on written = absurd cc

  log_is : (start : Side) (log : List Step) → Passes ts exact ws target start log → Written log → AllByRecursion IsStepRecord log
  log_is start log passes written = read_is passes [] refl (λ w. tt) written

-- ---- what a search of an exchange gives

pub writable : (ex : Exchange) (ws : List Weights) (target : ℤ) (start : Side) (sets : Assignment) (log : List Step) → IsExchange ex → IsFeasible (trees_of ex) (exact_of ex) sets
    → Passes (trees_of ex) (exact_of ex) ws target start log → AllByRecursion (CountsGoods (length (exact_of ex))) log → AllByRecursion IsRangedStep log → AreWritable (length (exact_of ex)) sets log
writable ex ws target start sets log lawful feasible passes counts ranged =
    let goods = length-map ex.goods (λ (g : Good). g.exact) in
    let trees = length-map ex.bidders (λ (b : Bidder). b.tree) in
    let small = small_trees (length ex.goods) ex.bidders lawful.bidders in
    record {
      few_bidders = omega (arith, feasible.same_length, trees, lawful.bidders_count.1);
      few_goods = omega (arith, goods, lawful.goods_count.1);
      bits = sets_are_bits (trees_of ex) (exact_of ex) sets small feasible;
      counts = counts;
      steps = log_is (trees_of ex) (exact_of ex) ws target (omega (arith, trees, lawful.bidders_count.1)) small (omega (arith, goods, lawful.goods_count.0)) (omega (arith, goods, lawful.goods_count.1)) start log passes (counts, ranged);
    }
