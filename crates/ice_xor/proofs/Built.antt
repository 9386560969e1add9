-- A tree of packages that is built node by node.
use Rattle.std.proofs.Common.{ℕ, suc, ◌+◌, ◌<◌, ◌≤◌, ◌≡◌, Bool, true, false, cond, ◌&&◌, leb, ltb, min, List, [], ◌∷◌, ◌++◌, length, map, replicate, Option, Some, None, ℤ, pos, refl, sym, ap, ◌∙◌, arith, length-append}
use Rattle.std.proofs.lemmas.Bool.{ne_eqb}
use Rattle.std.proofs.lemmas.Bool.Decides.{nat_tests}
use Rattle.std.proofs.lemmas.List.{append_assoc, append-nil, length-replicate, replicate-append-replicate, map-append}
use Rattle.std.proofs.Math.Seq.{get_or-append_seam}
use Rattle.ice_defs.specs.declared.Node.{Node}
use Rattle.ice_defs.specs.declared.NodeKind.TheVariants.{Choose}
use Rattle.ice_defs.specs.Tree.{Tree, no_node, kind_of, children_of}
use Rattle.ice_defs.specs.Making.{TreeDraft, with_node, with_open, innermost, node_refusal, draft_refusal, close_refusal}
use Rattle.ice_defs.proofs.Lists.{all-append}
use Rattle.ice_tree.specs.Making.{draft_close_refusal, kind_close_refusal, with_closed}
use Rattle.ice_xor.specs.declared.units.GoodUnits.{GoodUnits}
use Rattle.ice_xor.specs.FlatBids.{Package, FlatBidder, leaf_kind, package_nodes, packages_nodes, spread_over, flat_tree, flat_bounds}
use Rattle.ice_xor.specs.Translating.{depth_of, or_later, nodes_refusal, tree_refusal}
use Rattle.ice_xor.specs.Building.{IsUnderRoot, package_values, package_refusal, with_package}
use Rattle.ice_xor.proofs.PackageNodes.{leaf, leaves, length-leaves, length-packages}
use Rattle.ice_xor.proofs.Spreading.{AreBefore, before_leaves, not_at}
use Rattle.ice_xor.proofs.Children.{children-under, under-append, under-none, under-leaves, under-root}
use Rattle.ice_xor.proofs.NodesRefused.{nodes_refusal-append, nodes-few, depth-package, depth-leaf, open-refusal}

abbrev pub zeros : List GoodUnits → List ℤ
zeros us = replicate (length us) (pos 0)

-- ---- one package, leaf by leaf

-- a package that chooses so many, with these leaves so far
abbrev pub packed : TreeDraft → ℕ → Package → List GoodUnits → TreeDraft
packed d most p us = record {
  tree = d.tree ++ record { kind = Choose most most; parent = 0 } ∷ leaves (length d.tree) us;
  bounds = record { lo = d.bounds.lo ++ p.lo ∷ zeros us; hi = d.bounds.hi ++ p.hi ∷ zeros us };
  opened = length d.tree ∷ 0 ∷ [];
}

-- what is left to be refused of the leaves below this node, from this number on
abbrev pub left : ℕ → ℕ → ℕ → List GoodUnits → Option ℕ
left goods number parent us = nodes_refusal goods number (leaves parent us) (zeros us) (zeros us)

module _ (goods : ℕ) (d : TreeDraft) (most : ℕ) (p : Package) (root : IsUnderRoot d) where
  pub opened-first : with_open d (Choose most most) p.lo p.hi ≡ packed d most p []
  opened-first = ap (λ (o : List ℕ). record { tree = d.tree ++ record { kind = Choose most most; parent = innermost o } ∷ []; bounds = record { lo = d.bounds.lo ++ p.lo ∷ []; hi = d.bounds.hi ++ p.hi ∷ [] }; opened = length d.tree ∷ o }) root.root

  -- the node of the package is refused as that of the definitions
  pub refused-first : draft_refusal goods d (Choose most most) p.lo p.hi ≡ node_refusal goods (length d.tree) (depth_of (length d.tree) 0) (Choose (length p.units) (length p.units)) p.lo p.hi
  refused-first =
      open-refusal goods d (Choose most most) p.lo p.hi (omega (arith, ap length root.root))
      ∙ ap (λ n. node_refusal goods (length d.tree) (suc n) (Choose (length p.units) (length p.units)) p.lo p.hi) (ap length root.root)
      ∙ ap (λ n. node_refusal goods (length d.tree) n (Choose (length p.units) (length p.units)) p.lo p.hi) (sym (depth-package (length d.tree) root.begun))

  -- one leaf more
  pub packed-more : (us : List GoodUnits) (u : GoodUnits) → with_node (packed d most p us) (leaf_kind u) (pos 0) (pos 0) ≡ packed d most p (us ++ u ∷ [])
  packed-more us u =
      let x : Node = record { kind = Choose most most; parent = 0 } in
      let m = length d.tree in
      let grown : (d.tree ++ x ∷ leaves m us) ++ leaf m u ∷ [] ≡ d.tree ++ x ∷ leaves m (us ++ u ∷ []) = append_assoc d.tree (x ∷ leaves m us) (leaf m u ∷ []) ∙ ap (λ l. d.tree ++ x ∷ l) (sym (map-append (leaf m) us (u ∷ []))) in
      let zero_more : zeros us ++ pos 0 ∷ [] ≡ zeros (us ++ u ∷ []) = replicate-append-replicate (length us) 1 (pos 0) ∙ ap (λ n. replicate n (pos 0)) (sym (length-append us (u ∷ []))) in
      let low : (d.bounds.lo ++ p.lo ∷ zeros us) ++ pos 0 ∷ [] ≡ d.bounds.lo ++ p.lo ∷ zeros (us ++ u ∷ []) = append_assoc d.bounds.lo (p.lo ∷ zeros us) (pos 0 ∷ []) ∙ ap (λ l. d.bounds.lo ++ p.lo ∷ l) zero_more in
      let high : (d.bounds.hi ++ p.hi ∷ zeros us) ++ pos 0 ∷ [] ≡ d.bounds.hi ++ p.hi ∷ zeros (us ++ u ∷ []) = append_assoc d.bounds.hi (p.hi ∷ zeros us) (pos 0 ∷ []) ∙ ap (λ l. d.bounds.hi ++ p.hi ∷ l) zero_more in
      ap (λ t. let r : TreeDraft = record { tree = t; bounds = record { lo = (d.bounds.lo ++ p.lo ∷ zeros us) ++ pos 0 ∷ []; hi = (d.bounds.hi ++ p.hi ∷ zeros us) ++ pos 0 ∷ [] }; opened = m ∷ 0 ∷ [] } in r) grown
      ∙ ap (λ l. let r : TreeDraft = record { tree = d.tree ++ x ∷ leaves m (us ++ u ∷ []); bounds = record { lo = l; hi = (d.bounds.hi ++ p.hi ∷ zeros us) ++ pos 0 ∷ [] }; opened = m ∷ 0 ∷ [] } in r) low
      ∙ ap (λ h. let r : TreeDraft = record { tree = d.tree ++ x ∷ leaves m (us ++ u ∷ []); bounds = record { lo = d.bounds.lo ++ p.lo ∷ zeros (us ++ u ∷ []); hi = h }; opened = m ∷ 0 ∷ [] } in r) high

  pub length-packed : (us : List GoodUnits) → length (packed d most p us).tree ≡ suc (length d.tree + length us)
  length-packed us = omega (arith, length-append d.tree (record { kind = Choose most most; parent = 0 } ∷ leaves (length d.tree) us), length-leaves (length d.tree) us)

  -- a leaf is refused as that of the definitions
  pub refused-leaf : (us : List GoodUnits) (u : GoodUnits)
      → draft_refusal goods (packed d most p us) (leaf_kind u) (pos 0) (pos 0) ≡ node_refusal goods (suc (length d.tree + length us)) (depth_of (suc (length d.tree + length us)) (length d.tree)) (leaf_kind u) (pos 0) (pos 0)
  refused-leaf us u =
      open-refusal goods (packed d most p us) (leaf_kind u) (pos 0) (pos 0) (omega arith)
      ∙ ap (λ n. node_refusal goods n 3 (leaf_kind u) (pos 0) (pos 0)) (length-packed us)
      ∙ ap (λ n. node_refusal goods (suc (length d.tree + length us)) n (leaf_kind u) (pos 0) (pos 0)) (sym (depth-leaf (suc (length d.tree + length us)) (length d.tree) (omega arith) root.begun))

  -- the children of the package are its leaves
  children-packed : (us : List GoodUnits) → length (children_of (packed d most p us).tree (length d.tree)) ≡ length us
  children-packed us = by d.tree refl root.begun root.parents
    where
      by : (t : Tree) → d.tree ≡ t → 0 < length t → AreBefore (length t) t → length (children_of (d.tree ++ record { kind = Choose most most; parent = 0 } ∷ leaves (length d.tree) us) (length d.tree)) ≡ length us
      by [] e some before = absurd (omega arith)
      by (x ∷ t) e some before =
          let m = suc (length t) in
          ap (λ w. length (children_of (w ++ record { kind = Choose most most; parent = 0 } ∷ leaves (length w) us) (length w))) e
          ∙ children-under x (t ++ record { kind = Choose most most; parent = 0 } ∷ leaves m us) m
          ∙ under-append m t (record { kind = Choose most most; parent = 0 } ∷ leaves m us)
          ∙ omega (arith, under-none m t (not_at m t before.1), ap (λ c. let k : ℕ = cond c 1 0 in k) (ne_eqb 0 m (λ e. absurd (omega (arith, e)))), under-leaves m us)

  kind-packed : (us : List GoodUnits) → kind_of (packed d most p us).tree (length d.tree) ≡ Choose most most
  kind-packed us = ap (λ (x : Node). x.kind) (get_or-append_seam d.tree (record { kind = Choose most most; parent = 0 }) (leaves (length d.tree) us) no_node)

  pub closes : (us : List GoodUnits) → 0 < length us → most ≤ length us → draft_close_refusal (packed d most p us) ≡ None
  closes us some le =
      ap (λ kind. kind_close_refusal kind (length (children_of (packed d most p us).tree (length d.tree)))) (kind-packed us)
      ∙ ap (close_refusal most most) (children-packed us)
      ∙ fits (length us) some le
    where
      fits : (n : ℕ) → 0 < n → most ≤ n → close_refusal most most n ≡ None
      fits n some le =
          let a : ltb 0 n ≡ true = grind (arith, nat_tests) in
          let b : leb most most ≡ true = grind (arith, nat_tests) in
          let c : leb most n ≡ true = grind (arith, nat_tests) in
          ap (λ t. let o : Option ℕ = cond (t && leb most most && leb most n) None (Some 20) in o) a ∙ ap (λ t. let o : Option ℕ = cond (t && leb most n) None (Some 20) in o) b ∙ ap (λ t. let o : Option ℕ = cond t None (Some 20) in o) c

  -- the whole package, closed
  pub packed-whole : most ≡ length p.units → with_closed (packed d most p p.units) ≡ with_package d p
  packed-whole is =
      ap (λ n. record (packed d n p p.units) { opened = 0 ∷ [] }) is
      ∙ ap (λ (o : List ℕ). let r : TreeDraft = record (packed d (length p.units) p p.units) { opened = o } in r) (sym root.root)

-- so many leaves of a package that is not refused
pub few-leaves : (goods m : ℕ) (p : Package) → package_refusal goods m p ≡ None → m + suc (length p.units) ≤ 200
few-leaves goods m p none =
    let e = nodes-few goods m (package_nodes m p) (package_values p).lo (package_values p).hi (size p.lo) (size p.hi) (omega arith) none in
    omega (arith, e, length-leaves m p.units)
  where
    size : (z : ℤ) → length (z ∷ zeros p.units) ≡ length (package_nodes m p)
    size z = omega (arith, length-leaves m p.units, length-replicate (length p.units) (pos 0))

-- ---- package by package

-- a number of each package at its node
abbrev pub values_of : (Package → ℤ) → List Package → List ℤ
values_of f ps = spread_over ps (map f ps)

abbrev pub lows : List Package → List ℤ
lows = values_of (λ p. p.lo)

abbrev pub highs : List Package → List ℤ
highs = values_of (λ p. p.hi)

-- a tree of these packages, of which so many may be taken, with its root open
abbrev pub built : ℕ → List Package → TreeDraft
built most ps = record {
  tree = record { kind = Choose 0 most; parent = 0 } ∷ packages_nodes 1 ps;
  bounds = record { lo = pos 0 ∷ lows ps; hi = pos 0 ∷ highs ps };
  opened = 0 ∷ [];
}

-- what is left to be refused
abbrev pub packages_left : ℕ → ℕ → List Package → Option ℕ
packages_left goods number ps = nodes_refusal goods number (packages_nodes number ps) (lows ps) (highs ps)

length-values : (f : Package → ℤ) (number : ℕ) (ps : List Package) → length (values_of f ps) ≡ length (packages_nodes number ps)
length-values f number [] = refl
length-values f number (p ∷ later) =
    omega (arith, length-append (zeros p.units) (values_of f later), length-replicate (length p.units) (pos 0), length-packages number p later, length-values f (suc (number + length p.units)) later)

packages_nodes-push : (number : ℕ) (ps : List Package) (p : Package) → packages_nodes number (ps ++ p ∷ []) ≡ packages_nodes number ps ++ package_nodes (number + length (packages_nodes number ps)) p
packages_nodes-push number [] p = append-nil (package_nodes number p) ∙ ap (λ n. package_nodes n p) here
  where
    here : number ≡ number + 0
    here = omega arith
packages_nodes-push number (q ∷ ps) p =
    let next = suc (number + length q.units) in
    let e : next + length (packages_nodes next ps) ≡ number + length (packages_nodes number (q ∷ ps)) = omega (arith, length-packages number q ps) in
    ap (λ t. package_nodes number q ++ t) (packages_nodes-push next ps p)
    ∙ sym (append_assoc (package_nodes number q) (packages_nodes next ps) (package_nodes (next + length (packages_nodes next ps)) p))
    ∙ ap (λ n. packages_nodes number (q ∷ ps) ++ package_nodes n p) e

values_of-push : (f : Package → ℤ) (ps : List Package) (p : Package) → values_of f (ps ++ p ∷ []) ≡ values_of f ps ++ f p ∷ zeros p.units
values_of-push f [] p = append-nil (f p ∷ zeros p.units)
values_of-push f (q ∷ ps) p = ap (λ l. f q ∷ zeros q.units ++ l) (values_of-push f ps p) ∙ sym (append_assoc (f q ∷ zeros q.units) (values_of f ps) (f p ∷ zeros p.units))

pub built-more : (most : ℕ) (ps : List Package) (p : Package) → with_package (built most ps) p ≡ built most (ps ++ p ∷ [])
built-more most ps p =
    let x : Node = record { kind = Choose 0 most; parent = 0 } in
    let e : suc (length (packages_nodes 1 ps)) ≡ 1 + length (packages_nodes 1 ps) = omega arith in
    let tree : packages_nodes 1 ps ++ package_nodes (suc (length (packages_nodes 1 ps))) p ≡ packages_nodes 1 (ps ++ p ∷ []) = ap (λ n. packages_nodes 1 ps ++ package_nodes n p) e ∙ sym (packages_nodes-push 1 ps p) in
    ap (λ t. let r : TreeDraft = record { tree = x ∷ t; bounds = record { lo = pos 0 ∷ (lows ps ++ p.lo ∷ zeros p.units); hi = pos 0 ∷ (highs ps ++ p.hi ∷ zeros p.units) }; opened = 0 ∷ [] } in r) tree
    ∙ ap (λ l. let r : TreeDraft = record { tree = x ∷ packages_nodes 1 (ps ++ p ∷ []); bounds = record { lo = pos 0 ∷ l; hi = pos 0 ∷ (highs ps ++ p.hi ∷ zeros p.units) }; opened = 0 ∷ [] } in r) (sym (values_of-push (λ q. q.lo) ps p))
    ∙ ap (λ h. let r : TreeDraft = record { tree = x ∷ packages_nodes 1 (ps ++ p ∷ []); bounds = record { lo = pos 0 ∷ lows (ps ++ p ∷ []); hi = pos 0 ∷ h }; opened = 0 ∷ [] } in r) (sym (values_of-push (λ q. q.hi) ps p))

before-packages : (number m : ℕ) (ps : List Package) → 0 < m → number + length (packages_nodes number ps) ≤ m → AreBefore m (packages_nodes number ps)
before-packages number m [] some le = tt
before-packages number m (p ∷ later) some le =
    all-append (λ n. n.parent < m) (package_nodes number p) (packages_nodes (suc (number + length p.units)) later)
    (some, before_leaves number m p.units (omega (arith, length-packages number p later)))
    (before-packages (suc (number + length p.units)) m later some (omega (arith, length-packages number p later)))

pub under_root : (most : ℕ) (ps : List Package) → IsUnderRoot (built most ps)
under_root most ps = record {
  begun = omega arith;
  root = refl;
  parents = (omega arith, before-packages 1 (suc (length (packages_nodes 1 ps))) ps (omega arith) (omega arith));
}

-- the next package, and those behind it
pub left-more : (goods number : ℕ) (p : Package) (later : List Package) → packages_left goods number (p ∷ later) ≡ or_later (package_refusal goods number p) (packages_left goods (suc (number + length p.units)) later)
left-more goods number p later =
    let next = suc (number + length p.units) in
    let size : (z : ℤ) → length (z ∷ zeros p.units) ≡ length (package_nodes number p) = λ z. omega (arith, length-leaves number p.units, length-replicate (length p.units) (pos 0)) in
    let e : number + length (package_nodes number p) ≡ next = omega (arith, length-leaves number p.units) in
    nodes_refusal-append goods number (package_nodes number p) (packages_nodes next later) (p.lo ∷ zeros p.units) (lows later) (p.hi ∷ zeros p.units) (highs later) (size p.lo) (size p.hi)
    ∙ ap (λ n. or_later (package_refusal goods number p) (nodes_refusal goods n (packages_nodes next later) (lows later) (highs later))) e

pub length-built : (most : ℕ) (ps : List Package) (p : Package) → length (built most (ps ++ p ∷ [])).tree ≡ suc (length (built most ps).tree + length p.units)
length-built most ps p =
    let n = 1 + length (packages_nodes 1 ps) in
    omega (arith, ap length (packages_nodes-push 1 ps p), length-append (packages_nodes 1 ps) (package_nodes n p), length-leaves n p.units)

-- a root with packages closes
pub closes-root : (most : ℕ) (ps : List Package) → 0 < length ps → most ≤ length ps → draft_close_refusal (built most ps) ≡ None
closes-root most ps some le =
    ap (close_refusal 0 most) (children-under (record { kind = Choose 0 most; parent = 0 }) (packages_nodes 1 ps) 0 ∙ under-root 1 ps (omega arith))
    ∙ fits (length ps) some le
  where
    fits : (n : ℕ) → 0 < n → most ≤ n → close_refusal 0 most n ≡ None
    fits n some le =
        let a : ltb 0 n ≡ true = grind (arith, nat_tests) in
        let b : leb 0 most ≡ true = grind (arith, nat_tests) in
        let c : leb most n ≡ true = grind (arith, nat_tests) in
        ap (λ t. let o : Option ℕ = cond (t && leb 0 most && leb most n) None (Some 20) in o) a ∙ ap (λ t. let o : Option ℕ = cond (t && leb most n) None (Some 20) in o) b ∙ ap (λ t. let o : Option ℕ = cond t None (Some 20) in o) c

packages-few : (number : ℕ) (ps : List Package) → length ps ≤ length (packages_nodes number ps)
packages-few number [] = omega arith
packages-few number (p ∷ later) = omega (arith, length-packages number p later, packages-few (suc (number + length p.units)) later)

-- a tree that is not refused has at most 199 packages
pub few-packages : (goods : ℕ) (b : FlatBidder) → tree_refusal goods b ≡ None → length b.packages ≤ 199
few-packages goods b none =
    let e = nodes-few goods 0 (flat_tree b) (flat_bounds b).lo (flat_bounds b).hi (omega (arith, length-values (λ p. p.lo) 1 b.packages)) (omega (arith, length-values (λ p. p.hi) 1 b.packages)) (omega arith) none in
    omega (arith, e, packages-few 1 b.packages)

-- the root of the definition
pub most-same : (b : FlatBidder) (most : ℕ) → most ≡ cond b.any (min (length b.packages) 199) 1 → length b.packages ≤ 199 → (built most b.packages).tree ≡ flat_tree b
most-same b most is few =
    let e : min (length b.packages) 199 ≡ length b.packages = omega arith in
    ap (λ n. record { kind = Choose 0 n; parent = 0 } ∷ packages_nodes 1 b.packages) (is ∙ ap (λ n. let m : ℕ = cond b.any n 1 in m) e)

-- it is no greater than the number of packages
pub most-few : (b : FlatBidder) (most : ℕ) → most ≡ cond b.any (min (length b.packages) 199) 1 → 0 < length b.packages → most ≤ length b.packages
most-few b most is some = omega (arith, is, by b.any)
  where
    by : (any : Bool) → let m : ℕ = cond any (min (length b.packages) 199) 1 in m ≤ length b.packages
    by true = omega arith
    by false = omega arith
