-- Amounts of bidders, row by row.
use Rattle.std.proofs.Common.{ℕ, ◌<◌, ◌≤◌, ◌≡◌, ◌+◌, List, [], length, map, set, get_or, replicate, pos, arith, sym, ◌∙◌, ap, ◌⊎◌, inl, inr, below_more}
use Rattle.std.proofs.lemmas.Bool.{cases_lt}
use Rattle.std.proofs.lemmas.List.{length-replicate, length-map, get_or-map, get_or-set_same, get_or-set_other, get_or_default, ext_get_or}
use Rattle.std.proofs.Math.Seq.{map-set_same}
use Rattle.ice_defs.specs.Tree.{Tree}
use Rattle.ice_defs.specs.Set.{Weights}
use Rattle.ice_defs.specs.Trade.{tree_of, weights_of}
use Rattle.ice_refute.specs.Waiting.{nodes_of}
use Rattle.ice_refute.proofs.NodeCounts.{same_count, same_nodes}
use Rattle.ice_journal.specs.declared.line.Numbered.{Numbered}
use Rattle.ice_derivation.specs.Numbers.{NamesNone}

-- another row of the same length
pub nodes_of-set : (ws : List Weights) (b : ℕ) (row : Weights) → length row ≡ length (weights_of ws b) → nodes_of (set ws b row) ≡ nodes_of ws
nodes_of-set ws b row e = map-set_same (λ (w : Weights). length w) ws b row [] e

-- the rows before this one are 0, and now this one too
pub cleared_more : (ts : List Tree) (ws : List Weights) (b n : ℕ) → nodes_of ws ≡ nodes_of ts → b < length ts → n ≡ length (tree_of ts b)
    → ((k : ℕ) → k < b → weights_of ws k ≡ replicate (length (tree_of ts k)) (pos 0))
    → (k : ℕ) → k < b + 1 → weights_of (set ws b (replicate n (pos 0))) k ≡ replicate (length (tree_of ts k)) (pos 0)
cleared_more ts ws b n same h e before =
    below_more (λ k. weights_of (set ws b (replicate n (pos 0))) k ≡ replicate (length (tree_of ts k)) (pos 0)) b
    (λ k l. get_or-set_other ws b k (replicate n (pos 0)) [] (λ q. omega (arith, l, q)) ∙ before k l)
    (get_or-set_same ws b (replicate n (pos 0)) [] (omega (arith, h, same_count ws ts same)) ∙ ap (λ (m : ℕ). replicate m (pos 0)) e)

pub cleared_nodes : (ts : List Tree) (ws : List Weights) (b n : ℕ) → nodes_of ws ≡ nodes_of ts → n ≡ length (tree_of ts b)
    → nodes_of (set ws b (replicate n (pos 0))) ≡ nodes_of ts
cleared_nodes ts ws b n same e = nodes_of-set ws b (replicate n (pos 0)) (length-replicate n (pos 0) ∙ e ∙ sym (same_nodes ws ts b same)) ∙ same

pub all_cleared : (ts : List Tree) (ws : List Weights) → nodes_of ws ≡ nodes_of ts
    → ((k : ℕ) → k < length ts → weights_of ws k ≡ replicate (length (tree_of ts k)) (pos 0))
    → ws ≡ map (λ (t : Tree). replicate (length t) (pos 0)) ts
all_cleared ts ws same each =
    ext_get_or [] ws (map (λ (t : Tree). replicate (length t) (pos 0)) ts) (same_count ws ts same ∙ sym (length-map ts (λ (t : Tree). replicate (length t) (pos 0))))
    (λ k h. let there : k < length ts = omega (arith, h, same_count ws ts same) in each k there ∙ sym (get_or-map (λ (t : Tree). replicate (length t) (pos 0)) ts k [] [] there))

-- a number that is stated is of a node
pub is_there : (count : ℕ) (numbers : List Numbered) → ¬ NamesNone count numbers → (i : ℕ) → i < length numbers
    → (get_or numbers i (record { number = 0; amount = pos 0 })).number < count
is_there count numbers none i h = by (cases_lt (get_or numbers i (record { number = 0; amount = pos 0 })).number count)
  where
    by : ((get_or numbers i (record { number = 0; amount = pos 0 })).number < count) ⊎ (count ≤ (get_or numbers i (record { number = 0; amount = pos 0 })).number)
        → (get_or numbers i (record { number = 0; amount = pos 0 })).number < count
    by (inl l) = l
    by (inr l) =
        let x : Numbered = get_or numbers i (record { number = 0; amount = pos 0 }) in
        absurd (none (i, x, h, get_or_default numbers i x (record { number = 0; amount = pos 0 }) h, l))
