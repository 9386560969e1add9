-- How far a package, and a tree of packages, is built: the state of each loop.
use Rattle.std.proofs.Common.{ℕ, suc, ◌+◌, ◌<◌, ◌≤◌, ◌≡◌, min, [], ◌∷◌, ◌++◌, length, take, drop, get_or, Some, None, pos, sym, ap, ◌∙◌, subst, arith, add-one, drop-cons}
use Rattle.std.proofs.lemmas.List.{take_more, drop_all, take_all, length-take-le}
use Rattle.ice_defs.specs.declared.NodeKind.TheVariants.{Choose}
use Rattle.ice_defs.specs.Making.{TreeDraft, with_node, with_open, node_refusal, draft_refusal}
use Rattle.ice_tree.specs.Making.{draft_close_refusal, with_closed}
use Rattle.ice_xor.specs.declared.units.GoodUnits.{GoodUnits}
use Rattle.ice_xor.specs.FlatBids.{Package, FlatBidder, leaf_kind}
use Rattle.ice_xor.specs.Translating.{depth_of, or_later, tree_refusal}
use Rattle.ice_xor.specs.Building.{IsUnderRoot, package_refusal, with_package}
use Rattle.ice_xor.proofs.Built.{packed, left, opened-first, refused-first, packed-more, refused-leaf, closes, packed-whole, few-leaves, built, packages_left, built-more, under_root, left-more, length-built, closes-root}

-- ---- a package, leaf by leaf

-- what stands past the last units
abbrev pub no_units : GoodUnits
no_units = record { good = 0; amount = pos 0 }

-- so many leaves stand, and what is left decides
pub record IsPacking (goods : ℕ) (d : TreeDraft) (most : ℕ) (p : Package) (now : TreeDraft) (i : ℕ) : Type 0 where
  pub is : now ≡ packed d most p (take i p.units)
  pub rest : package_refusal goods (length d.tree) p ≡ left goods (suc (length d.tree + i)) (length d.tree) (drop i p.units)

module _ (goods : ℕ) (d : TreeDraft) (most : ℕ) (p : Package) (root : IsUnderRoot d) where
  pub packing-unopened : (number : ℕ) → draft_refusal goods d (Choose most most) p.lo p.hi ≡ Some number → package_refusal goods (length d.tree) p ≡ Some number
  packing-unopened number refused = ap (λ o. or_later o (left goods (suc (length d.tree)) (length d.tree) p.units)) (sym (refused-first goods d most p root) ∙ refused)

  pub packing-begun : draft_refusal goods d (Choose most most) p.lo p.hi ≡ None → IsPacking goods d most p (with_open d (Choose most most) p.lo p.hi) 0
  packing-begun opened =
      let e : suc (length d.tree) ≡ suc (length d.tree + 0) = omega arith in
      record {
        is = opened-first goods d most p root;
        rest = ap (λ o. or_later o (left goods (suc (length d.tree)) (length d.tree) p.units)) (sym (refused-first goods d most p root) ∙ opened) ∙ ap (λ n. left goods n (length d.tree) p.units) e;
      }

  -- the next leaf, and those behind it
  next : (now : TreeDraft) (i : ℕ) (u : GoodUnits) → IsPacking goods d most p now i → i < length p.units → u ≡ get_or p.units i no_units
      → package_refusal goods (length d.tree) p ≡ or_later (draft_refusal goods now (leaf_kind u) (pos 0) (pos 0)) (left goods (suc (suc (length d.tree + i))) (length d.tree) (drop (suc i) p.units))
  next now i u packing l item =
      let m = length d.tree in
      let here : drop i p.units ≡ u ∷ drop (suc i) p.units = drop-cons p.units i no_units l ∙ ap (λ v. v ∷ drop (suc i) p.units) (sym item) in
      let count : length (take i p.units) ≡ i = length-take-le i p.units (omega arith) in
      let refused : draft_refusal goods now (leaf_kind u) (pos 0) (pos 0) ≡ node_refusal goods (suc (m + i)) (depth_of (suc (m + i)) m) (leaf_kind u) (pos 0) (pos 0) =
      ap (λ e. draft_refusal goods e (leaf_kind u) (pos 0) (pos 0)) packing.is
      ∙ refused-leaf goods d most p root (take i p.units) u
      ∙ ap (λ n. node_refusal goods (suc (m + n)) (depth_of (suc (m + n)) m) (leaf_kind u) (pos 0) (pos 0)) count in
      packing.rest ∙ ap (left goods (suc (m + i)) m) here ∙ ap (λ o. or_later o (left goods (suc (suc (m + i))) m (drop (suc i) p.units))) (sym refused)

  pub packing-refused : (now : TreeDraft) (i : ℕ) (u : GoodUnits) (number : ℕ) → IsPacking goods d most p now i → i < length p.units → u ≡ get_or p.units i no_units
      → draft_refusal goods now (leaf_kind u) (pos 0) (pos 0) ≡ Some number → package_refusal goods (length d.tree) p ≡ Some number
  packing-refused now i u number packing l item refused = next now i u packing l item ∙ ap (λ o. or_later o (left goods (suc (suc (length d.tree + i))) (length d.tree) (drop (suc i) p.units))) refused

  pub packing-more : (now : TreeDraft) (i : ℕ) (u : GoodUnits) → IsPacking goods d most p now i → i < length p.units → u ≡ get_or p.units i no_units
      → draft_refusal goods now (leaf_kind u) (pos 0) (pos 0) ≡ None → IsPacking goods d most p (with_node now (leaf_kind u) (pos 0) (pos 0)) (i + 1)
  packing-more now i u packing l item taken =
      let m = length d.tree in
      let more : take (i + 1) p.units ≡ take i p.units ++ u ∷ [] = take_more p.units i no_units l ∙ ap (λ v. take i p.units ++ v ∷ []) (sym item) in
      let e : suc (suc (m + i)) ≡ suc (m + (i + 1)) = omega arith in
      record {
        is = ap (λ x. with_node x (leaf_kind u) (pos 0) (pos 0)) packing.is ∙ packed-more goods d most p root (take i p.units) u ∙ ap (packed d most p) (sym more);
        rest = next now i u packing l item
            ∙ ap (λ o. or_later o (left goods (suc (suc (m + i))) m (drop (suc i) p.units))) taken
            ∙ ap (λ n. left goods n m (drop (suc i) p.units)) e
            ∙ ap (λ n. left goods (suc (m + (i + 1))) m (drop n p.units)) (sym (add-one i));
      }

  module _ (now : TreeDraft) (packing : IsPacking goods d most p now (length p.units)) where
    whole : now ≡ packed d most p p.units
    whole = packing.is ∙ ap (packed d most p) (take_all (length p.units) p.units (omega arith))

    pub packing-closes : 0 < length p.units → most ≤ length p.units → draft_close_refusal now ≡ None
    packing-closes some le = ap draft_close_refusal whole ∙ closes goods d most p root p.units some le

    pub packing-allowed : package_refusal goods (length d.tree) p ≡ None
    packing-allowed = packing.rest ∙ ap (left goods (suc (length d.tree + length p.units)) (length d.tree)) (drop_all (length p.units) p.units (omega arith))

    pub packing-done : most ≡ min (length p.units) 199 → with_closed now ≡ with_package d p
    packing-done is =
        let few = few-leaves goods (length d.tree) p packing-allowed in
        ap with_closed whole ∙ packed-whole goods d most p root (omega (arith, is, few))

-- ---- a tree, package by package

-- so many packages stand, and what is left decides
pub record IsBuilding (goods : ℕ) (b : FlatBidder) (most : ℕ) (now : TreeDraft) (i : ℕ) : Type 0 where
  pub is : now ≡ built most (take i b.packages)
  pub rest : tree_refusal goods b ≡ packages_left goods (length now.tree) (drop i b.packages)

module _ (goods : ℕ) (b : FlatBidder) (most : ℕ) where
  pub building-root : (now : TreeDraft) (i : ℕ) → IsBuilding goods b most now i → IsUnderRoot now
  building-root now i building = subst IsUnderRoot (sym building.is) (under_root most (take i b.packages))

  next_package : (now : TreeDraft) (i : ℕ) (p : Package) → IsBuilding goods b most now i → i < length b.packages → p ≡ get_or b.packages i p
      → tree_refusal goods b ≡ or_later (package_refusal goods (length now.tree) p) (packages_left goods (suc (length now.tree + length p.units)) (drop (suc i) b.packages))
  next_package now i p building l item =
      let here : drop i b.packages ≡ p ∷ drop (suc i) b.packages = drop-cons b.packages i p l ∙ ap (λ q. q ∷ drop (suc i) b.packages) (sym item) in
      building.rest ∙ ap (packages_left goods (length now.tree)) here ∙ left-more goods (length now.tree) p (drop (suc i) b.packages)

  pub building-refused : (now : TreeDraft) (i : ℕ) (p : Package) (number : ℕ) → IsBuilding goods b most now i → i < length b.packages → p ≡ get_or b.packages i p
      → package_refusal goods (length now.tree) p ≡ Some number → tree_refusal goods b ≡ Some number
  building-refused now i p number building l item refused =
      next_package now i p building l item ∙ ap (λ o. or_later o (packages_left goods (suc (length now.tree + length p.units)) (drop (suc i) b.packages))) refused

  pub building-more : (now after : TreeDraft) (i : ℕ) (p : Package) → IsBuilding goods b most now i → i < length b.packages → p ≡ get_or b.packages i p
      → package_refusal goods (length now.tree) p ≡ None → after ≡ with_package now p → IsBuilding goods b most after (i + 1)
  building-more now after i p building l item taken made =
      let more : take (i + 1) b.packages ≡ take i b.packages ++ p ∷ [] = take_more b.packages i p l ∙ ap (λ q. take i b.packages ++ q ∷ []) (sym item) in
      let is : after ≡ built most (take i b.packages ++ p ∷ []) = made ∙ ap (λ x. with_package x p) building.is ∙ built-more most (take i b.packages) p in
      let size : suc (length now.tree + length p.units) ≡ length after.tree =
      ap (λ (x : TreeDraft). suc (length x.tree + length p.units)) building.is ∙ sym (length-built most (take i b.packages) p) ∙ ap (λ (x : TreeDraft). length x.tree) (sym is) in
      record {
        is = is ∙ ap (built most) (sym more);
        rest = next_package now i p building l item
            ∙ ap (λ o. or_later o (packages_left goods (suc (length now.tree + length p.units)) (drop (suc i) b.packages))) taken
            ∙ ap (λ n. packages_left goods n (drop (suc i) b.packages)) size
            ∙ ap (λ n. packages_left goods (length after.tree) (drop n b.packages)) (sym (add-one i));
      }

  module _ (now : TreeDraft) (building : IsBuilding goods b most now (length b.packages)) where
    all : now ≡ built most b.packages
    all = building.is ∙ ap (built most) (take_all (length b.packages) b.packages (omega arith))

    pub building-closes : 0 < length b.packages → most ≤ length b.packages → draft_close_refusal now ≡ None
    building-closes some le = ap draft_close_refusal all ∙ closes-root most b.packages some le

    pub building-allowed : tree_refusal goods b ≡ None
    building-allowed = building.rest ∙ ap (packages_left goods (length now.tree)) (drop_all (length b.packages) b.packages (omega arith))

    pub building-done : with_closed now ≡ record (built most b.packages) { opened = [] }
    building-done = ap with_closed all
