-- The tree that is written for a lawful bidder is read again, node by node in preorder.
use Rattle.std.proofs.Common.{◌≡◌, ℕ, zero, suc, ◌+◌, ◌-◌, ◌<◌, ◌≤◌, false, List, [], ◌∷◌, ◌++◌, length, map, take, get_or, ℤ, pos, neg_ℤ, Some, None, Ok, refl, sym, ap, ◌∙◌, ◌⊎◌, inl, inr, subst, arith}
use Rattle.std.specs.Prelude.{codes}
use Rattle.std.specs.List.{filter, IsDistinct, position}
use Rattle.std.specs.Str.{bytes_eq}
use Rattle.std.proofs.lemmas.Bool.{cases_lt}
use Rattle.std.proofs.lemmas.Int.{ints}
use Rattle.std.proofs.lemmas.List.{length-map, length-take-le, get_or-map, take_more, take_all}
use Rattle.std.proofs.Math.Numerals.{add-one}
use Rattle.serde_json.specs.Data.{Data, string}
use Rattle.serde_json.specs.Events.{items_len}
use Rattle.ice_defs.specs.declared.NodeKind.{NodeKind}
use Rattle.ice_defs.specs.declared.NodeKind.TheVariants.{Choose, Buy, Sell}
use Rattle.ice_defs.specs.Tree.{IsInterval, kind_of, parent_of, is_child, children_of, no_node}
use Rattle.ice_defs.specs.Set.{weight_of}
use Rattle.ice_defs.specs.Making.{node_refusal, close_refusal}
use Rattle.ice_defs.specs.Lawful.{IsLimitedKind, IsBidder}
use Rattle.ice_defs.specs.Exchange.{Good, Bidder}
use Rattle.ice_defs.specs.FileFault.{Path, Read, ◌>>=◌}
use Rattle.ice_trade.proofs.Passing.{node_passes, interval_closes}
use Rattle.ice_read.specs.Values.{at_member, at_index}
use Rattle.ice_read.specs.TreeFile.{Draft, no_draft, with_node, good_at, make, children_at, closed_at, Opened, node_of, node_at, tree_at}
use Rattle.ice_read.specs.Written.{items_of, good_name, kind_data, node_data}
use Rattle.ice_read.proofs.NamePlaces.{place_of_name}
use Rattle.ice_read.proofs.PartsAgain.{whole_again}
use Rattle.ice_read.proofs.Levels.{from, few_pass, IsUnder, Ends, next_child, next_depth, under_next, leaf_ends, children_from, no_later_child, next_children, under_more, root_ends}

pub items_len-items_of : (ds : List Data) → items_len (items_of ds) ≡ length ds
items_len-items_of [] = refl
items_len-items_of (d ∷ ds) = ap suc (items_len-items_of ds)

module _ (goods : List Good) (distinct : IsDistinct bytes_eq (map (λ good. good.name) goods)) (b : Bidder) (is : IsBidder (length goods) b) where
  abbrev names : List (List ℕ)
  names = map (λ good. good.name) goods

  abbrev depth : ℕ → ℕ
  depth = is.tree.depth.0

  abbrev lo_at : ℕ → ℤ
  lo_at n = weight_of b.bounds.lo n

  abbrev hi_at : ℕ → ℤ
  hi_at n = weight_of b.bounds.hi n

  -- the first nodes
  front : ℕ → Draft
  front k = record { tree = take k b.tree; bounds = record { lo = take k b.bounds.lo; hi = take k b.bounds.hi } }

  front_more : (k : ℕ) → k < length b.tree → with_node (front k) (kind_of b.tree k) (parent_of b.tree k) (lo_at k) (hi_at k) ≡ front (suc k)
  unfolding front
  front_more k l =
      let tree : take k b.tree ++ record { kind = kind_of b.tree k; parent = parent_of b.tree k } ∷ [] ≡ take (suc k) b.tree =
      sym (take_more b.tree k no_node l) ∙ ap (λ n. take n b.tree) (add-one k) in
      let lo : take k b.bounds.lo ++ weight_of b.bounds.lo k ∷ [] ≡ take (suc k) b.bounds.lo =
      sym (take_more b.bounds.lo k (pos 0) (omega (arith, is.bounds.lo_count))) ∙ ap (λ n. take n b.bounds.lo) (add-one k) in
      let hi : take k b.bounds.hi ++ weight_of b.bounds.hi k ∷ [] ≡ take (suc k) b.bounds.hi =
      sym (take_more b.bounds.hi k (pos 0) (omega (arith, is.bounds.hi_count))) ∙ ap (λ n. take n b.bounds.hi) (add-one k) in
      λ i. record { tree = tree i; bounds = record { lo = lo i; hi = hi i } }

  front_size : (k : ℕ) → k ≤ length b.tree → length (front k).tree ≡ k
  unfolding front
  front_size k l = length-take-le k b.tree l

  good_again : (path : Path) (g : ℕ) → g < length goods → good_at names path (string (good_name goods g)) ≡ Ok g
  good_again path g l =
      let named : get_or names g [] ≡ good_name goods g = get_or-map (λ (good : Good). good.name) goods g (record { name = []; exact = false }) [] l in
      let found : position (bytes_eq (good_name goods g)) names ≡ Some g =
      ap (λ name. position (bytes_eq name) names) (sym named) ∙ place_of_name names g distinct (omega (arith, length-map goods (λ (good : Good). good.name))) in
      rw found

  made : (levels n : ℕ) (path : Path) → n < length b.tree → depth n + levels ≡ 17 → make names levels (parent_of b.tree n) path (front n) (kind_of b.tree n) (lo_at n) (hi_at n) ≡ Ok (front (suc n))
  made levels n path l e =
      let passes : node_refusal (length names) (length (front n).tree) (17 - levels) (kind_of b.tree n) (lo_at n) (hi_at n) ≡ None =
      node_passes (length names) (length (front n).tree) (17 - levels) (kind_of b.tree n) (lo_at n) (hi_at n)
      (omega (arith, front_size n (omega arith), is.tree.count)) (omega (arith, is.tree.depth.2 n l))
      (subst (λ count. IsLimitedKind count (kind_of b.tree n)) (sym (length-map goods (λ (good : Good). good.name))) (is.tree.kinds n l)) (is.bounds.low n l) (is.bounds.ordered n l) (is.bounds.high n l) in
      rw passes (ap Ok (front_more n l))

  buy_again : (levels n g u : ℕ) (path : Path) (read_child : ℕ → Path → Draft → Data → Read Draft) (children : List Data) → n < length b.tree → depth n + levels ≡ 17 → kind_of b.tree n ≡ Buy g u
      → node_of names levels read_child (parent_of b.tree n) path (front n) (kind_data goods (Buy g u) (lo_at n) (hi_at n) children) ≡ Ok (front (suc n))
  buy_again levels n g u path read_child children l e kind =
      let fits : IsLimitedKind (length goods) (Buy g u) = subst (IsLimitedKind (length goods)) kind (is.tree.kinds n l) in
      rw (good_again (at_member path (codes "buy")) g fits.0)
      (rw (whole_again (at_member path (codes "units")) (pos 1) (pos 1000) (pos u) (omega (arith, ints, fits.1)) (omega (arith, ints, fits.2)))
      (rw (whole_again (at_member path (codes "lo")) (neg_ℤ (pos 1000000000)) (pos 1000000000) (lo_at n) (is.bounds.low n l) (omega (arith, ints, is.bounds.ordered n l, is.bounds.high n l)))
      (rw (whole_again (at_member path (codes "hi")) (neg_ℤ (pos 1000000000)) (pos 1000000000) (hi_at n) (omega (arith, ints, is.bounds.low n l, is.bounds.ordered n l)) (is.bounds.high n l))
      (ap (λ k. make names levels (parent_of b.tree n) path (front n) k (lo_at n) (hi_at n)) (sym kind) ∙ made levels n path l e))))

  sell_again : (levels n g u : ℕ) (path : Path) (read_child : ℕ → Path → Draft → Data → Read Draft) (children : List Data) → n < length b.tree → depth n + levels ≡ 17 → kind_of b.tree n ≡ Sell g u
      → node_of names levels read_child (parent_of b.tree n) path (front n) (kind_data goods (Sell g u) (lo_at n) (hi_at n) children) ≡ Ok (front (suc n))
  sell_again levels n g u path read_child children l e kind =
      let fits : IsLimitedKind (length goods) (Sell g u) = subst (IsLimitedKind (length goods)) kind (is.tree.kinds n l) in
      rw (good_again (at_member path (codes "sell")) g fits.0)
      (rw (whole_again (at_member path (codes "units")) (pos 1) (pos 1000) (pos u) (omega (arith, ints, fits.1)) (omega (arith, ints, fits.2)))
      (rw (whole_again (at_member path (codes "lo")) (neg_ℤ (pos 1000000000)) (pos 1000000000) (lo_at n) (is.bounds.low n l) (omega (arith, ints, is.bounds.ordered n l, is.bounds.high n l)))
      (rw (whole_again (at_member path (codes "hi")) (neg_ℤ (pos 1000000000)) (pos 1000000000) (hi_at n) (omega (arith, ints, is.bounds.low n l, is.bounds.ordered n l)) (is.bounds.high n l))
      (ap (λ k. make names levels (parent_of b.tree n) path (front n) k (lo_at n) (hi_at n)) (sym kind) ∙ made levels n path l e))))

  closed : (path : Path) (least most : ℕ) (children : List Data) (draft : Draft) → IsInterval (Choose least most) (length children) → closed_at path (record { least = least; most = most }) (items_len (items_of children)) draft ≡ Ok draft
  closed path least most children draft fits =
      let closes : close_refusal least most (items_len (items_of children)) ≡ None = ap (close_refusal least most) (items_len-items_of children) ∙ interval_closes least most (length children) fits in
      rw closes

  few_children : (n : ℕ) → n < length b.tree → length (children_of b.tree n) ≤ 199
  few_children n l =
      omega (arith, ap length (children_from b.tree is.tree.tree depth is.tree.depth.1 n (length b.tree - suc n) (omega arith)), few_pass (is_child b.tree n) (suc n) (length b.tree - suc n), is.tree.count)

  choose_again : (levels n least most m : ℕ) (path : Path) (read_child : ℕ → Path → Draft → Data → Read Draft) (children : List Data) → n < length b.tree → depth n + levels ≡ 17 → kind_of b.tree n ≡ Choose least most
      → IsInterval (Choose least most) (length children) → length children ≤ 199
      → children_at (read_child n) (at_member path (codes "of")) 0 (items_of children) (front (suc n)) ≡ Ok (front m)
      → node_of names levels read_child (parent_of b.tree n) path (front n) (kind_data goods (Choose least most) (lo_at n) (hi_at n) children) ≡ Ok (front m)
  choose_again levels n least most m path read_child children l e kind fits few below =
      rw (whole_again (at_index (at_member path (codes "choose")) 0) (pos 0) (pos 199) (pos least) (omega (arith, ints)) (omega (arith, ints, fits.0, fits.1)))
      (rw (whole_again (at_index (at_member path (codes "choose")) 1) (pos 0) (pos 199) (pos most) (omega (arith, ints)) (omega (arith, ints, fits.1)))
      (rw (whole_again (at_member path (codes "lo")) (neg_ℤ (pos 1000000000)) (pos 1000000000) (lo_at n) (is.bounds.low n l) (omega (arith, ints, is.bounds.ordered n l, is.bounds.high n l)))
      (rw (whole_again (at_member path (codes "hi")) (neg_ℤ (pos 1000000000)) (pos 1000000000) (hi_at n) (omega (arith, ints, is.bounds.low n l, is.bounds.ordered n l)) (is.bounds.high n l))
      ((ap
      (λ (r : Read Draft). (r >>= λ made. Ok (record { interval = record { least = least; most = most }; items = items_of children; made = made }))
      >>= λ (o : Opened). children_at (read_child (length (front n).tree)) (at_member path (codes "of")) 0 o.items o.made >>= λ full. closed_at path o.interval (items_len o.items) full)
      (ap (λ k. make names levels (parent_of b.tree n) path (front n) k (lo_at n) (hi_at n)) (sym kind) ∙ made levels n path l e)
      ∙ ap (λ k. children_at (read_child k) (at_member path (codes "of")) 0 (items_of children) (front (suc n)) >>= λ full. closed_at path (record { least = least; most = most }) (items_len (items_of children)) full) (front_size n (omega arith))
      ∙ ap (λ r. r >>= λ full. closed_at path (record { least = least; most = most }) (items_len (items_of children)) full) below
      ∙ closed path least most children (front m) fits)))))

  -- the node and all below it, where so many levels are left
  record IsReread (levels n : ℕ) (path : Path) : Type 0 where
    next : ℕ
    end : Ends b.tree depth n next
    same : node_at names levels (parent_of b.tree n) path (front n) (node_data goods b levels n) ≡ Ok (front next)

  record AreReread (levels n m j i : ℕ) (path : Path) : Type 0 where
    next : ℕ
    end : Ends b.tree depth n next
    same : children_at (node_at names levels n) path i (items_of (map (node_data goods b levels) (filter (is_child b.tree n) (from m j)))) (front m) ≡ Ok (front next)

  children_again : (levels n : ℕ) → ((c : ℕ) → c < length b.tree → depth c + levels ≡ 17 → (path : Path) → IsReread levels c path) → n < length b.tree → depth n + suc levels ≡ 17
      → (fuel m j i : ℕ) (path : Path) → j ≤ fuel → m + j ≡ length b.tree → IsUnder b.tree depth n m → (m < length b.tree → depth m ≤ suc (depth n)) → AreReread levels n m j i path
  children_again levels n node l e zero m zero i path few sum under near =
      record { next = m; end = record { under = under; ends = λ more. absurd (omega arith) }; same = refl }
  children_again levels n node l e zero m (suc j) i path few sum under near = absurd (omega arith)
  children_again levels n node l e (suc fuel) m zero i path few sum under near =
      record { next = m; end = record { under = under; ends = λ more. absurd (omega arith) }; same = refl }
  children_again levels n node l e (suc fuel) m (suc j) i path few sum under near =
      by (cases_lt (depth n) (depth m)) (λ k rest step low total inside close. children_again levels n node l e fuel k rest step path low total inside close)
    where
      by : (depth n < depth m) ⊎ (depth m ≤ depth n)
          → ((k rest step : ℕ) → rest ≤ fuel → k + rest ≡ length b.tree → IsUnder b.tree depth n k → (k < length b.tree → depth k ≤ suc (depth n)) → AreReread levels n k rest step path)
          → AreReread levels n m (suc j) i path
      by (inr level) go = record {
        next = m;
        end = record { under = under; ends = λ more. level };
        same = ap (λ cs. children_at (node_at names levels n) path i (items_of (map (node_data goods b levels) cs)) (front m)) (no_later_child b.tree is.tree.tree depth is.tree.depth.1 n m (suc j) under sum (λ more. level));
      }
      by (inl below) go =
          let there : m < length b.tree = omega arith in
          let one : depth m ≡ suc (depth n) = omega (arith, near there) in
          let parent = next_child b.tree is.tree.tree depth is.tree.depth.1 n m under there one in
          let first = node m there (omega arith) (at_index path i) in
          let rest : ℕ = length b.tree - first.next in
          let sum_rest : first.next + rest ≡ length b.tree = omega (arith, first.end.under.there) in
          let later = go first.next rest (suc i) (omega (arith, first.end.under.later)) sum_rest (under_more b.tree is.tree.tree depth is.tree.depth.1 n m first.next under below first.end) (λ more. omega (arith, first.end.ends more)) in
          record {
            next = later.next;
            end = later.end;
            same = ap (λ cs. children_at (node_at names levels n) path i (items_of (map (node_data goods b levels) cs)) (front m))
                (next_children b.tree is.tree.tree depth is.tree.depth.1 n m first.next j rest parent (omega (arith, under.later)) first.end sum sum_rest)
                ∙ ap (λ r. r >>= λ after. children_at (node_at names levels n) path (suc i) (items_of (map (node_data goods b levels) (filter (is_child b.tree n) (from first.next rest)))) after)
                (ap (λ p. node_at names levels p (at_index path i) (front m) (node_data goods b levels m)) (sym parent) ∙ first.same)
                ∙ later.same;
          }

  node_again : (levels n : ℕ) → n < length b.tree → depth n + levels ≡ 17 → (path : Path) → IsReread levels n path
  node_again zero n l e path = absurd (omega (arith, is.tree.depth.2 n l))
  node_again (suc levels) n l e path = by (kind_of b.tree n) refl (λ c there sum place. node_again levels c there sum place)
    where
      children : List Data
      children = map (node_data goods b levels) (children_of b.tree n)

      count : length children ≡ length (children_of b.tree n)
      count = length-map (children_of b.tree n) (node_data goods b levels)

      opened : (kind : NodeKind) → kind_of b.tree n ≡ kind → node_data goods b (suc levels) n ≡ kind_data goods kind (lo_at n) (hi_at n) children
      opened kind same = ap (λ k. kind_data goods k (lo_at n) (hi_at n) children) same

      by : (kind : NodeKind) → kind_of b.tree n ≡ kind → ((c : ℕ) → c < length b.tree → depth c + levels ≡ 17 → (place : Path) → IsReread levels c place) → IsReread (suc levels) n path
      by (Buy g u) kind node = record {
        next = suc n;
        end = leaf_ends b.tree is.tree.tree depth is.tree.depth.1 n l (subst (λ k. IsInterval k (length (children_of b.tree n))) kind (is.tree.tree.interval n l));
        same = ap (node_of names (suc levels) (node_at names levels) (parent_of b.tree n) path (front n)) (opened (Buy g u) kind) ∙ buy_again (suc levels) n g u path (node_at names levels) children l e kind;
      }
      by (Sell g u) kind node = record {
        next = suc n;
        end = leaf_ends b.tree is.tree.tree depth is.tree.depth.1 n l (subst (λ k. IsInterval k (length (children_of b.tree n))) kind (is.tree.tree.interval n l));
        same = ap (node_of names (suc levels) (node_at names levels) (parent_of b.tree n) path (front n)) (opened (Sell g u) kind) ∙ sell_again (suc levels) n g u path (node_at names levels) children l e kind;
      }
      by (Choose least most) kind node =
          let fits : IsInterval (Choose least most) (length (children_of b.tree n)) = subst (λ k. IsInterval k (length (children_of b.tree n))) kind (is.tree.tree.interval n l) in
          let rest : ℕ = length b.tree - suc n in
          let sum : suc n + rest ≡ length b.tree = omega arith in
          let r : AreReread levels n (suc n) rest 0 (at_member path (codes "of")) =
          children_again levels n node l e rest (suc n) rest 0 (at_member path (codes "of")) (omega arith) sum (under_next b.tree is.tree.tree depth is.tree.depth.1 n l) (next_depth b.tree is.tree.tree depth is.tree.depth.1 n) in
          let below : children_at (node_at names levels n) (at_member path (codes "of")) 0 (items_of children) (front (suc n)) ≡ Ok (front r.next) =
          ap (λ cs. children_at (node_at names levels n) (at_member path (codes "of")) 0 (items_of (map (node_data goods b levels) cs)) (front (suc n))) (children_from b.tree is.tree.tree depth is.tree.depth.1 n rest sum) ∙ r.same in
          record {
            next = r.next;
            end = r.end;
            same = ap (node_of names (suc levels) (node_at names levels) (parent_of b.tree n) path (front n)) (opened (Choose least most) kind)
                ∙ choose_again (suc levels) n least most r.next path (node_at names levels) children l e kind (subst (IsInterval (Choose least most)) (sym count) fits) (omega (arith, count, few_children n l)) below;
          }

  whole_front : front (length b.tree) ≡ record { tree = b.tree; bounds = b.bounds }
  unfolding front
  whole_front =
      let tree = take_all (length b.tree) b.tree (omega arith) in
      let lo = take_all (length b.tree) b.bounds.lo (omega (arith, is.bounds.lo_count)) in
      let hi = take_all (length b.tree) b.bounds.hi (omega (arith, is.bounds.hi_count)) in
      λ i. record { tree = tree i; bounds = record { lo = lo i; hi = hi i } }

  root_again : (levels : ℕ) → levels ≡ 16 → (path : Path) → node_at names levels 0 path no_draft (node_data goods b levels 0) ≡ Ok (record { tree = b.tree; bounds = b.bounds })
  unfolding front
  root_again levels e path =
      let r : IsReread levels 0 path = node_again levels 0 is.tree.tree.rooted (omega (arith, is.tree.depth.1.0, e)) path in
      ap (λ p. node_at names levels p path no_draft (node_data goods b levels 0)) (sym is.tree.tree.root_parent) ∙ r.same ∙ ap (λ k. Ok (front k)) (root_ends b.tree is.tree.tree depth is.tree.depth.1 r.next r.end) ∙ ap Ok whole_front

  pub tree_again : (path : Path) → tree_at names path (node_data goods b 16 0) ≡ Ok (record { tree = b.tree; bounds = b.bounds })
  unfolding tree_at
  tree_again path = root_again 16 refl path
