-- The tables of trees at their net weights, made anew one after another.
use Rattle.std.proofs.Common.{ℕ, ◌+◌, ◌*◌, ◌^◌, ◌<◌, ◌≤◌, ◌≡◌, ◌≢◌, false, List, length, length-set, replicate, get_or, set, get_or-set_same, get_or-set_other, Option, Some, None, ℤ, pos, ◌-ℤ◌, ◌*ℤ◌, neg_ℤ, ◌≤ℤ◌, refl, arith, ap, sym, ◌∙◌, ◌⊎◌, inl, inr, subst, below_more}
use Rattle.std.specs.Prelude.{IfSome, IfNone}
use Rattle.std.proofs.lemmas.Bool.{cases_eq, cases_lt, eqb-false}
use Rattle.std.proofs.lemmas.List.{length-replicate}
use Rattle.ice_defs.specs.declared.NodeKind.{NodeKind}
use Rattle.ice_defs.specs.declared.NodeKind.TheVariants.{Choose, Buy, Sell}
use Rattle.ice_defs.specs.Tree.{Tree, kind_of}
use Rattle.ice_defs.specs.Set.{NodeSet, Weights, weight_of, value}
use Rattle.ice_defs.specs.Fixing.{Fixing}
use Rattle.ice_defs.specs.Greatest.{IsGreatest}
use Rattle.ice_defs.specs.Trade.{tree_of, weights_of, fixing_of}
use Rattle.ice_defs.specs.Bound.{Multipliers, net, IsOpen}
use Rattle.ice_best.specs.Nets.{node_cost, node_net, IsNet, AllNets, AreNetWeights}
use Rattle.ice_best.specs.Entries.{IsTableOf}
use Rattle.ice_bound.specs.declared.net_table.NetTable.{NetTable}
use Rattle.ice_bound.specs.Kept.{IsFound, IsNetOf, IsSmallNet}
use Rattle.ice_bound.specs.Leaves.{is_leaf_of, IsWithout}
use Rattle.ice_bound.specs.Tables.{IsNetTable, AreTables, IsTableRenewed, DifferOnlyIn}
use Rattle.ice_bound.proofs.Nets.{value-nets, greatest-net, greatest-small}

-- ---- what a table tells

module _ (t : Tree) (w : Weights) (m : Multipliers) (x : Fixing) (table : NetTable) (is : IsNetTable t w m x table) where
  pub net_of_table : (o : Option ℤ) → IfSome o (IsGreatest (IsOpen t x) (λ s. value s table.nets.weights)) → IfNone o ((s : NodeSet) → IsOpen t x s → ⊥) → IsNetOf t w m x o
  net_of_table None some none = none
  net_of_table (Some v) some none = greatest-net t w m table.nets.weights x v is.nets some

  pub small_of_table : (o : Option ℤ) → IfSome o (IsGreatest (IsOpen t x) (λ s. value s table.nets.weights)) → IsSmallNet o
  small_of_table None some = tt
  small_of_table (Some v) some = greatest-small t table.nets.weights x v is.few is.nets.nodes is.nets.small some

  -- and the set of it
  pub found_by_table : (o : Option ℤ) (s : NodeSet) → IfSome o (IsGreatest (IsOpen t x) (λ r. value r table.nets.weights)) → IfNone o ((r : NodeSet) → IsOpen t x r → ⊥)
      → ((v : ℤ) → IsGreatest (IsOpen t x) (λ r. value r table.nets.weights) v → IsOpen t x s × (value s table.nets.weights ≡ v)) → IsFound t w m x o s
  found_by_table None s some none set_is = none
  found_by_table (Some v) s some none set_is =
      let (ok, same) = set_is v some in
      (greatest-net t w m table.nets.weights x v is.nets some, (ok, sym (value-nets t w m table.nets.weights s is.nets (ok.0).same_length) ∙ same))

  pub nodes_by_table : (o : Option ℤ) (s : NodeSet) → IfSome o (IsGreatest (IsOpen t x) (λ r. value r table.nets.weights))
      → ((v : ℤ) → IsGreatest (IsOpen t x) (λ r. value r table.nets.weights) v → IsOpen t x s × (value s table.nets.weights ≡ v))
      → IfNone o ((r : NodeSet) → IsOpen t x r → ⊥) → (((r : NodeSet) → IsOpen t x r → ⊥) → s ≡ replicate (length t) false) → length s ≡ length t
  nodes_by_table None s some set_is none empty = ap length (empty none) ∙ length-replicate (length t) false
  nodes_by_table (Some v) s some set_is none empty = ((set_is v some).0.0).same_length

-- a net with a set, and one alone
pub found_net : (t : Tree) (w : Weights) (m : Multipliers) (x : Fixing) (o : Option ℤ) (s : NodeSet) → IsFound t w m x o s → IsNetOf t w m x o
found_net t w m x None s none = none
found_net t w m x (Some v) s (is, (ok, same)) = is

-- the same of the same things
pub net_at_same : (t t2 : Tree) (w w2 : Weights) (m : Multipliers) (x x2 : Fixing) (o : Option ℤ) → t ≡ t2 → w ≡ w2 → x ≡ x2 → IsNetOf t w m x o → IsNetOf t2 w2 m x2 o
net_at_same t t2 w w2 m x x2 o tree weights fixing is =
    subst (λ u. IsNetOf u w2 m x2 o) tree (subst (λ u. IsNetOf t u m x2 o) weights (subst (λ u. IsNetOf t w m u o) fixing is))

-- what such a net is, where there is one and where there is none
pub net_some : (t : Tree) (w : Weights) (m : Multipliers) (x : Fixing) (o : Option ℤ) → IsNetOf t w m x o → IfSome o (IsGreatest (IsOpen t x) (net t w m))
net_some t w m x None is = tt
net_some t w m x (Some v) is = is

pub net_none : (t : Tree) (w : Weights) (m : Multipliers) (x : Fixing) (o : Option ℤ) → IsNetOf t w m x o → IfNone o ((s : NodeSet) → IsOpen t x s → ⊥)
net_none t w m x None is = is
net_none t w m x (Some v) is = tt

pub small_low : (o : Option ℤ) → IsSmallNet o → IfSome o (λ v. neg_ℤ (pos (200 * 2 ^ 90)) ≤ℤ v)
small_low None is = tt
small_low (Some v) is = is.0

pub small_high : (o : Option ℤ) → IsSmallNet o → IfSome o (λ v. v ≤ℤ pos (200 * 2 ^ 90))
small_high None is = tt
small_high (Some v) is = is.1

-- ---- one node with another mark

pub marked_table : (t : Tree) (w : Weights) (m : Multipliers) (x y : Fixing) (table marked : NetTable) → marked.nets.weights ≡ table.nets.weights
    → IsTableOf t marked.nets.weights y marked.table → IsNetTable t w m x table → IsNetTable t w m y marked
marked_table t w m x y table marked nets entries is = record {
  few = is.few;
  nets = subst (AreNetWeights t w 64 m 1) (sym nets) is.nets;
  entries = entries;
}

-- ---- one good with another multiplier

node_cost-other : (kind : NodeKind) (good : ℕ) (before m : Multipliers) → DifferOnlyIn good before m → is_leaf_of kind good ≡ false → node_cost kind before ≡ node_cost kind m
node_cost-other (Choose least most) good before m differ other = refl
node_cost-other (Buy g units) good before m differ other = ap (λ v. v *ℤ pos units) (differ g (eqb-false g good other))
node_cost-other (Sell g units) good before m differ other = ap (λ v. neg_ℤ (v *ℤ pos units)) (differ g (eqb-false g good other))

pub node_net-other : (t : Tree) (w : Weights) (good : ℕ) (before m : Multipliers) (n : ℕ) → DifferOnlyIn good before m → is_leaf_of (kind_of t n) good ≡ false
    → node_net t w 64 before 1 n ≡ node_net t w 64 m 1 n
node_net-other t w good before m n differ other =
    ap (λ c. (pos 64 *ℤ weight_of w n) -ℤ (pos 1 *ℤ c)) (node_cost-other (kind_of t n) good before m differ other)

pub set_differs : (m : Multipliers) (good : ℕ) (z : ℤ) → DifferOnlyIn good m (set m good z)
set_differs m good z g ne = sym (get_or-set_other m good g z (pos 0) ne)

-- a tree without a leaf of the good keeps its table
pub without_table : (t : Tree) (w : Weights) (good : ℕ) (before m : Multipliers) (x : Fixing) (table : NetTable) → DifferOnlyIn good before m → IsWithout t good 0 (length t)
    → IsNetTable t w before x table → IsNetTable t w m x table
without_table t w good before m x table differ without is = record {
  few = is.few;
  nets = record {
    nodes = is.nets.nodes;
    each = λ n h. is.nets.each n h ∙ node_net-other t w good before m n differ (without n (omega arith) h);
    small = is.nets.small;
  };
  entries = is.entries;
}

-- the net weights of the first n nodes are at m, and those of the others at the multipliers before
pub record IsMoving (t : Tree) (w : Weights) (before m : Multipliers) (x : Fixing) (table : NetTable) (n : ℕ) : Type 0 where
  pub few : length t ≤ 200
  pub nodes : length table.nets.weights ≡ length t
  pub small : AllNets table.nets.weights
  pub moved : (k : ℕ) → k < n → weight_of table.nets.weights k ≡ node_net t w 64 m 1 k
  pub waiting : (k : ℕ) → n ≤ k → k < length t → weight_of table.nets.weights k ≡ node_net t w 64 before 1 k
  pub entries : IsTableOf t table.nets.weights x table.table

module _ (t : Tree) (w : Weights) (before m : Multipliers) (x : Fixing) (table : NetTable) where
  pub none_moved : IsNetTable t w before x table → IsMoving t w before m x table 0
  none_moved is = record {
    few = is.few;
    nodes = is.nets.nodes;
    small = is.nets.small;
    moved = λ k h. absurd (omega (arith, h));
    waiting = λ k _ h. is.nets.each k h;
    entries = is.entries;
  }

  pub all_moved : (n : ℕ) → length t ≤ n → IsMoving t w before m x table n → IsNetTable t w m x table
  all_moved n all is = record {
    few = is.few;
    nets = record { nodes = is.nodes; each = λ k h. is.moved k (omega (arith, h, all)); small = is.small };
    entries = is.entries;
  }

  -- the nodes up to the next leaf of the good
  pub others_stay : (good n k : ℕ) → n ≤ k → k ≤ length t → DifferOnlyIn good before m → IsWithout t good n k → IsMoving t w before m x table n → IsMoving t w before m x table k
  others_stay good n k le inside differ without is = record {
    few = is.few;
    nodes = is.nodes;
    small = is.small;
    moved = λ j h. by j (cases_lt j n) h;
    waiting = λ j h l. is.waiting j (omega (arith, h, le)) l;
    entries = is.entries;
  }
    where
      by : (j : ℕ) → (j < n) ⊎ (n ≤ j) → j < k → weight_of table.nets.weights j ≡ node_net t w 64 m 1 j
      by j (inl l) h = is.moved j l
      by j (inr l) h = is.waiting j l (omega (arith, h, inside)) ∙ node_net-other t w good before m j differ (without j l h)

-- and the leaf itself
pub one_moves : (t : Tree) (w : Weights) (before m : Multipliers) (x : Fixing) (table table2 : NetTable) (n : ℕ) → n < length t
    → table2.nets.weights ≡ set table.nets.weights n (node_net t w 64 m 1 n) → IsNet (node_net t w 64 m 1 n) → IsTableOf t table2.nets.weights x table2.table
    → IsMoving t w before m x table n → IsMoving t w before m x table2 (n + 1)
one_moves t w before m x table table2 n there nets small entries is = record {
  few = is.few;
  nodes = ap length nets ∙ length-set table.nets.weights n v ∙ is.nodes;
  small = λ k h. small_at k (cases_eq k n) (omega (arith, h, ap length nets, length-set table.nets.weights n v));
  moved = below_more (λ k. weight_of table2.nets.weights k ≡ node_net t w 64 m 1 k) n (λ k h. other k (omega (arith, h)) ∙ is.moved k h) here;
  waiting = λ k h l. other k (omega (arith, h)) ∙ is.waiting k (omega (arith, h)) l;
  entries = entries;
}
  where
    v : ℤ
    v = node_net t w 64 m 1 n

    here : weight_of table2.nets.weights n ≡ v
    here = ap (λ ws. weight_of ws n) nets ∙ get_or-set_same table.nets.weights n v (pos 0) (omega (arith, there, is.nodes))

    other : (k : ℕ) → k ≢ n → weight_of table2.nets.weights k ≡ weight_of table.nets.weights k
    other k ne = ap (λ ws. weight_of ws k) nets ∙ get_or-set_other table.nets.weights n k v (pos 0) ne

    small_at : (k : ℕ) → (k ≡ n) ⊎ (k ≡ n → ⊥) → k < length table.nets.weights → IsNet (weight_of table2.nets.weights k)
    small_at k (inl e) h = subst (λ j. IsNet (weight_of table2.nets.weights j)) (sym e) (subst IsNet (sym here) small)
    small_at k (inr ne) h = subst IsNet (sym (other k ne)) (is.small k h)

-- ---- one bidder after another

-- the code's tree, weights and fixing are those of the bidder
pub table_renewed_at : (ts : List Tree) (ws : List Weights) (m : Multipliers) (xs : List Fixing) (old new : List NetTable) (b : ℕ) (t : Tree) (w : Weights) (x : Fixing)
    → t ≡ tree_of ts b → w ≡ weights_of ws b → x ≡ fixing_of xs b → IsTableRenewed old new b t w m x → IsTableRenewed old new b (tree_of ts b) (weights_of ws b) m (fixing_of xs b)
table_renewed_at ts ws m xs old new b t w x tree weights fixing is =
    subst (λ u. IsTableRenewed old new b u (weights_of ws b) m (fixing_of xs b)) tree
    (subst (λ u. IsTableRenewed old new b t u m (fixing_of xs b)) weights
    (subst (λ u. IsTableRenewed old new b t w m u) fixing is))

pub table_at : (ts : List Tree) (ws : List Weights) (m : Multipliers) (xs : List Fixing) (table : NetTable) (b : ℕ) (t : Tree) (w : Weights) (x : Fixing)
    → t ≡ tree_of ts b → w ≡ weights_of ws b → x ≡ fixing_of xs b → IsNetTable (tree_of ts b) (weights_of ws b) m (fixing_of xs b) table → IsNetTable t w m x table
table_at ts ws m xs table b t w x tree weights fixing is =
    subst (λ u. IsNetTable u w m x table) (sym tree)
    (subst (λ u. IsNetTable (tree_of ts b) u m x table) (sym weights)
    (subst (λ u. IsNetTable (tree_of ts b) (weights_of ws b) m u table) (sym fixing) is))

pub other_table : (t : Tree) (w : Weights) (m : Multipliers) (x : Fixing) (one other : NetTable) → one ≡ other → IsNetTable t w m x other → IsNetTable t w m x one
other_table t w m x one other same is = subst (IsNetTable t w m x) (sym same) is

module _ (ts : List Tree) (ws : List Weights) (m : Multipliers) (xs : List Fixing) (old new : List NetTable) (b : ℕ)
    (is : IsTableRenewed old new b (tree_of ts b) (weights_of ws b) m (fixing_of xs b)) where
  abbrev At : Multipliers → ℕ → NetTable → Type 0
  At rates c table = IsNetTable (tree_of ts c) (weights_of ws c) rates (fixing_of xs c) table

  here_or_other : (c : ℕ) (d : NetTable) → (c ≡ b) ⊎ (c ≡ b → ⊥) → (c ≢ b → At m c (get_or old c d)) → At m c (get_or new c d)
  here_or_other c d (inl e) before = subst (λ k. At m k (get_or new k d)) (sym e) (is.here d)
  here_or_other c d (inr ne) before = other_table _ _ m _ _ _ (is.others c d ne) (before ne)

  -- the next one too
  pub one_table_more : AreTables ts ws m xs old b → AreTables ts ws m xs new (b + 1)
  one_table_more before c d h = here_or_other c d (cases_eq c b) (λ ne. before c d (omega (arith, h, ne)))

  -- all of them, where all others were
  pub one_table_anew : ((c : ℕ) (d : NetTable) → c < length ts → c ≢ b → At m c (get_or old c d)) → AreTables ts ws m xs new (length ts)
  one_table_anew others c d h = here_or_other c d (cases_eq c b) (λ ne. others c d h ne)

  -- those of the bidders behind it wait
  pub table_waits : (rates : Multipliers) (c : ℕ) (d : NetTable) → b < c → At rates c (get_or old c d) → At rates c (get_or new c d)
  table_waits rates c d h before = other_table _ _ rates _ _ _ (is.others c d (omega (arith, h))) before

-- one table that is put
pub table_put : (old : List NetTable) (b : ℕ) (t : Tree) (w : Weights) (m : Multipliers) (x : Fixing) (table : NetTable) → b < length old → IsNetTable t w m x table
    → IsTableRenewed old (set old b table) b t w m x
table_put old b t w m x table there is = record {
  tables_there = length-set old b table;
  here = λ d. other_table t w m x _ table (get_or-set_same old b table d there) is;
  others = λ c d ne. get_or-set_other old b c table d ne;
}

-- one that needs no new table
pub one_table_skipped : (ts : List Tree) (ws : List Weights) (m : Multipliers) (xs : List Fixing) (tables : List NetTable) (b : ℕ) → AreTables ts ws m xs tables b
    → ((d : NetTable) → IsNetTable (tree_of ts b) (weights_of ws b) m (fixing_of xs b) (get_or tables b d)) → AreTables ts ws m xs tables (b + 1)
one_table_skipped ts ws m xs tables b before here c d h = by (cases_eq c b)
  where
    by : (c ≡ b) ⊎ (c ≡ b → ⊥) → IsNetTable (tree_of ts c) (weights_of ws c) m (fixing_of xs c) (get_or tables c d)
    by (inl e) = subst (λ k. IsNetTable (tree_of ts k) (weights_of ws k) m (fixing_of xs k) (get_or tables k d)) (sym e) (here d)
    by (inr ne) = before c d (omega (arith, h, ne))
