-- Lists that count the same things, as one list of records.
use Rattle.std.proofs.Common.{ℕ, suc, ◌+◌, ◌≡◌, Bool, List, [], ◌∷◌, ◌++◌, map, length, refl, arith, ap}
use Rattle.std.proofs.lemmas.List.Sums.{sum_by_push}
use Rattle.ice_defs.specs.Tree.{Tree}
use Rattle.ice_defs.specs.Bounds.{Bounds}
use Rattle.ice_defs.specs.Exchange.{Good, Bidder}
use Rattle.ice_defs.specs.Making.{node_count}
use Rattle.ice_trade.specs.Parts.{goods_from, bidders_from}

-- ---- goods

pub goods_names : (names : List (List ℕ)) (exact : List Bool) → length exact ≡ length names → map (λ good. good.name) (goods_from names exact) ≡ names
goods_names [] exact same = refl
goods_names (name ∷ names) [] same = absurd (omega arith)
goods_names (name ∷ names) (flag ∷ exact) same = ap (λ l. name ∷ l) (goods_names names exact (omega arith))

pub goods_exact : (names : List (List ℕ)) (exact : List Bool) → length exact ≡ length names → map (λ good. good.exact) (goods_from names exact) ≡ exact
goods_exact [] [] same = refl
goods_exact [] (flag ∷ exact) same = absurd (omega arith)
goods_exact (name ∷ names) [] same = absurd (omega arith)
goods_exact (name ∷ names) (flag ∷ exact) same = ap (λ l. flag ∷ l) (goods_exact names exact (omega arith))

pub goods_count : (names : List (List ℕ)) (exact : List Bool) → length exact ≡ length names → length (goods_from names exact) ≡ length names
goods_count [] exact same = refl
goods_count (name ∷ names) [] same = absurd (omega arith)
goods_count (name ∷ names) (flag ∷ exact) same = ap suc (goods_count names exact (omega arith))

pub goods_push : (names : List (List ℕ)) (exact : List Bool) (name : List ℕ) (flag : Bool) → length exact ≡ length names
    → goods_from (names ++ name ∷ []) (exact ++ flag ∷ []) ≡ goods_from names exact ++ record { name = name; exact = flag } ∷ []
goods_push [] [] name flag same = refl
goods_push [] (f ∷ exact) name flag same = absurd (omega arith)
goods_push (n ∷ names) [] name flag same = absurd (omega arith)
goods_push (n ∷ names) (f ∷ exact) name flag same =
    ap (λ l. let first : Good = record { name = n; exact = f } in first ∷ l) (goods_push names exact name flag (omega arith))

pub ruleset goods = (goods_names, goods_exact, goods_count, goods_push)

-- ---- bidders

pub bidders_names : (names owned : List (List ℕ)) (trees : List Tree) (bounds : List Bounds) → length owned ≡ length names → length trees ≡ length names → length bounds ≡ length names
    → map (λ bidder. bidder.name) (bidders_from names owned trees bounds) ≡ names
bidders_names [] owned trees bounds p q r = refl
bidders_names (name ∷ names) [] trees bounds p q r = absurd (omega arith)
bidders_names (name ∷ names) (own ∷ owned) [] bounds p q r = absurd (omega arith)
bidders_names (name ∷ names) (own ∷ owned) (tree ∷ trees) [] p q r = absurd (omega arith)
bidders_names (name ∷ names) (own ∷ owned) (tree ∷ trees) (b ∷ bounds) p q r = ap (λ l. name ∷ l) (bidders_names names owned trees bounds (omega arith) (omega arith) (omega arith))

pub bidders_owned : (names owned : List (List ℕ)) (trees : List Tree) (bounds : List Bounds) → length owned ≡ length names → length trees ≡ length names → length bounds ≡ length names
    → map (λ bidder. bidder.own) (bidders_from names owned trees bounds) ≡ owned
bidders_owned [] [] trees bounds p q r = refl
bidders_owned [] (own ∷ owned) trees bounds p q r = absurd (omega arith)
bidders_owned (name ∷ names) [] trees bounds p q r = absurd (omega arith)
bidders_owned (name ∷ names) (own ∷ owned) [] bounds p q r = absurd (omega arith)
bidders_owned (name ∷ names) (own ∷ owned) (tree ∷ trees) [] p q r = absurd (omega arith)
bidders_owned (name ∷ names) (own ∷ owned) (tree ∷ trees) (b ∷ bounds) p q r = ap (λ l. own ∷ l) (bidders_owned names owned trees bounds (omega arith) (omega arith) (omega arith))

pub bidders_trees : (names owned : List (List ℕ)) (trees : List Tree) (bounds : List Bounds) → length owned ≡ length names → length trees ≡ length names → length bounds ≡ length names
    → map (λ bidder. bidder.tree) (bidders_from names owned trees bounds) ≡ trees
bidders_trees [] owned [] bounds p q r = refl
bidders_trees [] owned (tree ∷ trees) bounds p q r = absurd (omega arith)
bidders_trees (name ∷ names) [] trees bounds p q r = absurd (omega arith)
bidders_trees (name ∷ names) (own ∷ owned) [] bounds p q r = absurd (omega arith)
bidders_trees (name ∷ names) (own ∷ owned) (tree ∷ trees) [] p q r = absurd (omega arith)
bidders_trees (name ∷ names) (own ∷ owned) (tree ∷ trees) (b ∷ bounds) p q r = ap (λ l. tree ∷ l) (bidders_trees names owned trees bounds (omega arith) (omega arith) (omega arith))

pub bidders_bounds : (names owned : List (List ℕ)) (trees : List Tree) (bounds : List Bounds) → length owned ≡ length names → length trees ≡ length names → length bounds ≡ length names
    → map (λ bidder. bidder.bounds) (bidders_from names owned trees bounds) ≡ bounds
bidders_bounds [] owned trees [] p q r = refl
bidders_bounds [] owned trees (b ∷ bounds) p q r = absurd (omega arith)
bidders_bounds (name ∷ names) [] trees bounds p q r = absurd (omega arith)
bidders_bounds (name ∷ names) (own ∷ owned) [] bounds p q r = absurd (omega arith)
bidders_bounds (name ∷ names) (own ∷ owned) (tree ∷ trees) [] p q r = absurd (omega arith)
bidders_bounds (name ∷ names) (own ∷ owned) (tree ∷ trees) (b ∷ bounds) p q r = ap (λ l. b ∷ l) (bidders_bounds names owned trees bounds (omega arith) (omega arith) (omega arith))

pub bidders_count : (names owned : List (List ℕ)) (trees : List Tree) (bounds : List Bounds) → length owned ≡ length names → length trees ≡ length names → length bounds ≡ length names
    → length (bidders_from names owned trees bounds) ≡ length names
bidders_count [] owned trees bounds p q r = refl
bidders_count (name ∷ names) [] trees bounds p q r = absurd (omega arith)
bidders_count (name ∷ names) (own ∷ owned) [] bounds p q r = absurd (omega arith)
bidders_count (name ∷ names) (own ∷ owned) (tree ∷ trees) [] p q r = absurd (omega arith)
bidders_count (name ∷ names) (own ∷ owned) (tree ∷ trees) (b ∷ bounds) p q r = ap suc (bidders_count names owned trees bounds (omega arith) (omega arith) (omega arith))

pub bidders_push : (names owned : List (List ℕ)) (trees : List Tree) (bounds : List Bounds) (name own : List ℕ) (tree : Tree) (last : Bounds)
    → length owned ≡ length names → length trees ≡ length names → length bounds ≡ length names
    → bidders_from (names ++ name ∷ []) (owned ++ own ∷ []) (trees ++ tree ∷ []) (bounds ++ last ∷ [])
    ≡ bidders_from names owned trees bounds ++ record { name = name; own = own; tree = tree; bounds = last } ∷ []
bidders_push [] [] [] [] name own tree last p q r = refl
bidders_push [] (x ∷ owned) trees bounds name own tree last p q r = absurd (omega arith)
bidders_push [] [] (x ∷ trees) bounds name own tree last p q r = absurd (omega arith)
bidders_push [] [] [] (x ∷ bounds) name own tree last p q r = absurd (omega arith)
bidders_push (n ∷ names) [] trees bounds name own tree last p q r = absurd (omega arith)
bidders_push (n ∷ names) (o ∷ owned) [] bounds name own tree last p q r = absurd (omega arith)
bidders_push (n ∷ names) (o ∷ owned) (t ∷ trees) [] name own tree last p q r = absurd (omega arith)
bidders_push (n ∷ names) (o ∷ owned) (t ∷ trees) (b ∷ bounds) name own tree last p q r =
    ap (λ l. let first : Bidder = record { name = n; own = o; tree = t; bounds = b } in first ∷ l)
    (bidders_push names owned trees bounds name own tree last (omega arith) (omega arith) (omega arith))

pub nodes_push : (bidders : List Bidder) (b : Bidder) → node_count (bidders ++ b ∷ []) ≡ node_count bidders + length b.tree
nodes_push bidders b = sum_by_push (λ x. length x.tree) bidders b

pub ruleset bidders = (bidders_names, bidders_owned, bidders_trees, bidders_bounds, bidders_count, bidders_push, nodes_push)
