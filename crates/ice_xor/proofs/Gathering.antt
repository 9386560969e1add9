-- What a satisfied set takes of each package: all of it or nothing.
use Rattle.std.proofs.Common.{ℕ, suc, ◌+◌, ◌<◌, ◌≤◌, ◌≡◌, Bool, true, false, List, [], ◌∷◌, ◌++◌, length, replicate, take, drop, IsTrue, refl, sym, ap, ◌∙◌, subst, arith, length-append}
use Rattle.std.specs.List.{AllByRecursion}
use Rattle.std.proofs.lemmas.List.{append_assoc, take-append-drop, length-take-le, length-drop}
use Rattle.ice_defs.specs.declared.Node.{Node}
use Rattle.ice_defs.specs.Tree.{Tree}
use Rattle.ice_defs.specs.Set.{NodeSet, has, children_inside, IsWithin, IsSatisfied}
use Rattle.ice_xor.specs.FlatBids.{Package, package_nodes, packages_nodes}
use Rattle.ice_xor.proofs.Paired.{inside}
use Rattle.ice_xor.proofs.PackageNodes.{spread_set, length-packages}
use Rattle.ice_xor.proofs.Spreading.{AreBefore, under_package, longer, before-package, moved, at_head, at_leaf, has-head, has-leaf}

-- ---- sets that are all or nothing

inside-le : (s : NodeSet) → inside s ≤ length s
inside-le [] = omega arith
inside-le (true ∷ s) = omega (arith, inside-le s)
inside-le (false ∷ s) = omega (arith, inside-le s)

full : (s : NodeSet) → length s ≤ inside s → s ≡ replicate (length s) true
full [] all = refl
full (true ∷ s) all = ap (λ x. true ∷ x) (full s (omega arith))
full (false ∷ s) all = absurd (omega (arith, inside-le s))

empty : (s : NodeSet) → ((i : ℕ) → i < length s → IsTrue (has s i) → ⊥) → s ≡ replicate (length s) false
empty [] none = refl
empty (true ∷ s) none = absurd (none 0 (omega arith) refl)
empty (false ∷ s) none = ap (λ x. false ∷ x) (empty s (λ i l is. none (suc i) (omega arith) is))

-- ---- one package after another

-- the packages that are taken, which are so only where the root is inside
pub record IsGathered (r : Bool) (ps : List Package) (s : NodeSet) : Type 0 where
  pub chosen : NodeSet
  pub same_length : length chosen ≡ length ps
  pub is : s ≡ spread_set ps chosen
  pub rooted : AllByRecursion (λ b. IsTrue b → IsTrue r) chosen

module _ (root : Node) (t : Tree) (r : Bool) (s : NodeSet) (p : Package) (later : List Package) (b : Bool) (ls rest : NodeSet) (same : length s ≡ length t) (before : AreBefore (suc (length t)) t) (all_leaves : length ls ≡ length p.units)
    (others : length rest ≡ length (packages_nodes (suc (suc (length t) + length p.units)) later))
    (satisfied : IsSatisfied (root ∷ t ++ packages_nodes (suc (length t)) (p ∷ later)) (r ∷ s ++ (b ∷ ls ++ rest))) where
  size : length (root ∷ t ++ packages_nodes (suc (length t)) (p ∷ later)) ≡ suc (length t) + suc (length p.units) + length rest
  size = omega (arith, length-append t (packages_nodes (suc (length t)) (p ∷ later)), length-packages (suc (length t)) p later, others)

  -- all leaves of a package that is taken
  all_of : b ≡ true → ls ≡ replicate (length p.units) b
  all_of taken =
      let m = suc (length t) in
      let here : has (r ∷ s ++ (b ∷ ls ++ rest)) m ≡ true = has-head r s b (ls ++ rest) (length t) same ∙ taken in
      let within = satisfied.count_inside m (omega (arith, size)) here in
      let counted = subst (λ (x : Node). IsWithin x.kind (children_inside (root ∷ t ++ packages_nodes m (p ∷ later)) (r ∷ s ++ (b ∷ ls ++ rest)) m)) (at_head root t p later) within in
      let count = under_package root t r s p b ls later rest same all_leaves before others in
      full ls (omega (arith, counted.0, count, all_leaves)) ∙ ap (λ k. replicate k true) all_leaves ∙ ap (replicate (length p.units)) (sym taken)

  -- no leaf of another
  none_of : b ≡ false → ls ≡ replicate (length p.units) b
  none_of left = empty ls none ∙ ap (λ k. replicate k false) all_leaves ∙ ap (replicate (length p.units)) (sym left)
    where
      none : (i : ℕ) → i < length ls → IsTrue (has ls i) → ⊥
      none i l is =
          let n = suc (length t + suc i) in
          let found = at_leaf root t p later i (omega (arith, all_leaves)) in
          let inside_leaf : has (r ∷ s ++ (b ∷ ls ++ rest)) n ≡ true = has-leaf r s b ls rest (length t) i same l ∙ is in
          let parent = satisfied.parent_inside n (omega arith) (omega (arith, size, all_leaves)) inside_leaf in
          let inside_head : has (r ∷ s ++ (b ∷ ls ++ rest)) (suc (length t)) ≡ true = subst (λ (x : Node). IsTrue (has (r ∷ s ++ (b ∷ ls ++ rest)) x.parent)) found.1 parent in
          let outside : has (r ∷ s ++ (b ∷ ls ++ rest)) (suc (length t)) ≡ false = has-head r s b (ls ++ rest) (length t) same ∙ left in
          absurd cc

  pub whole : ls ≡ replicate (length p.units) b
  whole = by b refl
    where
      by : (c : Bool) → b ≡ c → ls ≡ replicate (length p.units) b
      by true e = all_of e
      by false e = none_of e

  pub under_root : IsTrue b → IsTrue r
  under_root taken =
      let m = suc (length t) in
      let here : has (r ∷ s ++ (b ∷ ls ++ rest)) m ≡ true = has-head r s b (ls ++ rest) (length t) same ∙ taken in
      let parent = satisfied.parent_inside m (omega arith) (omega (arith, size)) here in
      subst (λ (x : Node). IsTrue (has (r ∷ s ++ (b ∷ ls ++ rest)) x.parent)) (at_head root t p later) parent

pub gather : (root : Node) (t : Tree) (r : Bool) (s : NodeSet) (ps : List Package) (u : NodeSet) → length s ≡ length t → AreBefore (suc (length t)) t → length u ≡ length (packages_nodes (suc (length t)) ps)
    → IsSatisfied (root ∷ t ++ packages_nodes (suc (length t)) ps) (r ∷ s ++ u) → IsGathered r ps u
gather root t r s [] [] same before count satisfied = record { chosen = []; same_length = refl; is = refl; rooted = tt }
gather root t r s [] (b ∷ u) same before count satisfied = absurd (omega arith)
gather root t r s (p ∷ later) [] same before count satisfied = absurd (omega (arith, length-packages (suc (length t)) p later))
gather root t r s (p ∷ later) (b ∷ u) same before count satisfied =
    let m = suc (length t) in
    let k = length p.units in
    let ls = take k u in
    let rest = drop k u in
    let split : ls ++ rest ≡ u = take-append-drop k u in
    let sizes = length-packages m p later in
    let all_leaves : length ls ≡ k = length-take-le k u (omega (arith, sizes)) in
    let others : length rest ≡ length (packages_nodes (suc (m + k)) later) = omega (arith, sizes, length-drop k u) in
    let here : IsSatisfied (root ∷ t ++ packages_nodes m (p ∷ later)) (r ∷ s ++ (b ∷ ls ++ rest)) = subst (λ x. IsSatisfied (root ∷ t ++ packages_nodes m (p ∷ later)) (r ∷ s ++ (b ∷ x))) (sym split) satisfied in
    let moved_set : r ∷ s ++ (b ∷ ls ++ rest) ≡ r ∷ (s ++ (b ∷ ls)) ++ rest = ap (λ x. r ∷ x) (sym (append_assoc s (b ∷ ls) rest)) in
    let there : IsSatisfied (root ∷ (t ++ package_nodes m p) ++ packages_nodes (suc (length (t ++ package_nodes m p))) later) (r ∷ (s ++ (b ∷ ls)) ++ rest) =
    subst (IsSatisfied (root ∷ (t ++ package_nodes m p) ++ packages_nodes (suc (length (t ++ package_nodes m p))) later)) moved_set (subst (λ x. IsSatisfied x (r ∷ s ++ (b ∷ ls ++ rest))) (sym (moved root t p later)) here) in
    let end : suc (length (t ++ package_nodes m p)) ≡ suc (m + k) = omega (arith, longer t p) in
    let g = gather root (t ++ package_nodes m p) r (s ++ (b ∷ ls)) later rest (omega (arith, length-append s (b ∷ ls), all_leaves, longer t p)) (before-package t p before) (others ∙ ap (λ n. length (packages_nodes n later)) (sym end)) there in
    record {
      chosen = b ∷ g.chosen;
      same_length = omega (arith, g.same_length);
      is = ap (λ x. b ∷ x) (sym split ∙ ap (λ x. x ++ rest) (whole root t r s p later b ls rest same before all_leaves others here) ∙ ap (λ x. replicate k b ++ x) g.is);
      rooted = (under_root root t r s p later b ls rest same before all_leaves others here, g.rooted);
    }
