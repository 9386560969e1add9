-- Amounts of the nodes of trees.
use Rattle.std.proofs.Common.{ℕ, arith, get_or, ◌+◌, ◌<◌, ◌≡◌, ◌≢◌, below_more, sym, subst, List, [], length, set, ℤ, pos, ap, ◌∙◌}
use Rattle.std.proofs.lemmas.List.{length-set, get_or_default}
use Rattle.std.proofs.Math.Seq.{map-set_same}
use Rattle.ice_defs.specs.Tree.{Tree}
use Rattle.ice_defs.specs.Set.{Weights, weight_of}
use Rattle.ice_defs.specs.Trade.{tree_of, weights_of}
use Rattle.ice_refute.specs.Waiting.{nodes_of}
use Rattle.ice_refute.proofs.NodeCounts.{same_nodes}
use Rattle.ice_derived.specs.Ranges.{AreAmounts}
use Rattle.ice_separation.specs.Derivations.{HasAmount}

-- another amount of a node
pub put_nodes : (ws new : List Weights) (b n : ℕ) (z : ℤ) → new ≡ set ws b (set (weights_of ws b) n z) → nodes_of new ≡ nodes_of ws
put_nodes ws new b n z is =
    ap nodes_of is ∙ map-set_same (λ (w : Weights). length w) ws b (set (weights_of ws b) n z) [] (length-set (weights_of ws b) n z)

-- one row more is in range
pub range_more : (ws : List Weights) (b : ℕ) → ((k : ℕ) → k < b → AreAmounts (weights_of ws k)) → AreAmounts (weights_of ws b) → (k : ℕ) → k < b + 1 → AreAmounts (weights_of ws k)
range_more ws b before here k h = below_more (λ j. AreAmounts (weights_of ws j)) b before here k h

-- a row has an amount
pub row_some : (ws : List Weights) (b nodes : ℕ) (w : Weights) → w ≡ weights_of ws b → b < length ws → length w ≡ nodes
    → (n : ℕ) × (n < nodes) × (weight_of w n ≢ pos 0) → HasAmount ws
row_some ws b nodes w is there size (n, inside, not) =
    (b, n, there, subst (λ (r : Weights). n < length r) is (subst (λ k. n < k) (sym size) inside), subst (λ (r : Weights). weight_of r n ≢ pos 0) is not)

-- there is an amount for each node of the tree
pub row_size : (ts : List Tree) (ws : List Weights) (b i n : ℕ) (t : Tree) (w : Weights) → nodes_of ws ≡ nodes_of ts → w ≡ weights_of ws b → i ≡ b → i < length ts → t ≡ get_or ts i t → n ≡ length t → length w ≡ n
row_size ts ws b i n t w nodes row at there is count =
    omega (arith, ap length row, same_nodes ws ts b nodes, ap (λ k. length (tree_of ts k)) at, ap length (is ∙ get_or_default ts i t [] there), count)
