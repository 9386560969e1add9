-- Amounts of trees, as weights of them.
use Rattle.std.proofs.Common.{ℕ, ◌<◌, ◌≡◌, ◌≢◌, List, [], length, map, set, replicate, ℤ, pos, arith, ap, sym, ◌∙◌, subst, ◌⊎◌, inl, inr}
use Rattle.std.proofs.lemmas.Bool.{cases_eq}
use Rattle.std.proofs.lemmas.List.{get_or-set_same, get_or-set_other, length-set, get_or-replicate, length-replicate, get_or-map, length-map}
use Rattle.std.proofs.lemmas.Int.{ints}
use Rattle.ice_defs.specs.Tree.{Tree}
use Rattle.ice_defs.specs.Set.{Weights, weight_of}
use Rattle.ice_defs.specs.Trade.{tree_of, weights_of}
use Rattle.ice_defs.specs.Conditions.{AreWeightsOf}
use Rattle.ice_refute.specs.Waiting.{nodes_of}
use Rattle.ice_refute.proofs.NodeCounts.{same_count, same_nodes}
use Rattle.ice_derived.specs.Ranges.{IsAmount, AreAmounts, AreAllAmounts}

pub amounts_are_weights : (ts : List Tree) (ws : List Weights) → nodes_of ws ≡ nodes_of ts → AreAllAmounts ws → AreWeightsOf ts ws
amounts_are_weights ts ws same range = record {
  same_length = same_count ws ts same;
  nodes = λ b h. same_nodes ws ts b same;
  modest = λ b h. record {
    low = λ n l. let is = range b (omega (arith, same_count ws ts same, h)) n l in omega (arith, ints, is.low);
    high = λ n l. let is = range b (omega (arith, same_count ws ts same, h)) n l in omega (arith, ints, is.high);
  };
}

-- ---- amounts stay in range

pub zero_amounts : (n : ℕ) → AreAmounts (replicate n (pos 0))
zero_amounts n k h =
    let none = get_or-replicate n k (pos 0) (pos 0) (omega (arith, h, length-replicate n (pos 0))) in
    record { low = omega (arith, ints, none); high = omega (arith, ints, none) }

pub put_amount : (w : Weights) (n : ℕ) (z : ℤ) → AreAmounts w → IsAmount z → AreAmounts (set w n z)
put_amount w n z are is k h = by (cases_eq k n)
  where
    inside : k < length w
    inside = omega (arith, h, length-set w n z)

    by : (k ≡ n) ⊎ (k ≢ n) → IsAmount (weight_of (set w n z) k)
    by (inl e) = subst IsAmount (sym (ap (weight_of (set w n z)) e ∙ get_or-set_same w n z (pos 0) (omega (arith, e, inside)))) is
    by (inr ne) = subst IsAmount (sym (get_or-set_other w n k z (pos 0) ne)) (are k inside)

pub put_amounts : (ws : List Weights) (b : ℕ) (w : Weights) → AreAllAmounts ws → AreAmounts w → AreAllAmounts (set ws b w)
put_amounts ws b w are is k h = by (cases_eq k b)
  where
    inside : k < length ws
    inside = omega (arith, h, length-set ws b w)

    by : (k ≡ b) ⊎ (k ≢ b) → AreAmounts (weights_of (set ws b w) k)
    by (inl e) = subst AreAmounts (sym (ap (weights_of (set ws b w)) e ∙ get_or-set_same ws b w [] (omega (arith, e, inside)))) is
    by (inr ne) = subst AreAmounts (sym (get_or-set_other ws b k w [] ne)) (are k inside)

pub none_amounts : (ts : List Tree) → AreAllAmounts (map (λ t. replicate (length t) (pos 0)) ts)
none_amounts ts b h =
    let there : b < length ts = omega (arith, h, length-map ts (λ (t : Tree). replicate (length t) (pos 0))) in
    subst AreAmounts (sym (get_or-map (λ (t : Tree). replicate (length t) (pos 0)) ts b [] [] there)) (zero_amounts (length (tree_of ts b)))
