-- How many children a node has, counted over the nodes behind the root.
use Rattle.std.proofs.Common.{ℕ, suc, ◌+◌, ◌<◌, ◌≡◌, ◌≢◌, Bool, true, false, cond, ◌&&◌, eqb, List, [], ◌∷◌, ◌++◌, length, replicate, get_or, refl, sym, ap, ◌∙◌, arith}
use Rattle.std.specs.List.{AllByRecursion, filter}
use Rattle.std.proofs.lemmas.Bool.{eq-eqb, ne_eqb}
use Rattle.std.proofs.lemmas.List.{length-replicate, get_or-replicate}
use Rattle.std.proofs.lemmas.List.Sums.{length-filter}
use Rattle.std.proofs.lemmas.List.Elements.{All-get_or}
use Rattle.ice_defs.specs.declared.Node.{Node}
use Rattle.ice_defs.specs.Tree.{Tree, children_of}
use Rattle.ice_defs.specs.Set.{has}
use Rattle.ice_tree.proofs.Children.{children_of-inside, count_by-children_of}
use Rattle.ice_xor.specs.declared.units.GoodUnits.{GoodUnits}
use Rattle.ice_xor.specs.FlatBids.{Package, packages_nodes}
use Rattle.ice_xor.proofs.Paired.{inside_under, children-counted}
use Rattle.ice_xor.proofs.PackageNodes.{leaves}

-- ---- nodes with a parent

-- how many nodes have this parent
abbrev pub under : ℕ → Tree → ℕ
under p [] = 0
under p (n ∷ t) = cond (eqb n.parent p) 1 0 + under p t

filter_all : (q : ℕ → Bool) (xs : List ℕ) → ((i : ℕ) → i < length xs → q (get_or xs i 0) ≡ true) → filter q xs ≡ xs
filter_all q [] all = refl
filter_all q (x ∷ xs) all = ap (λ b. cond b (x ∷ filter q xs) (filter q xs)) (all 0 (omega arith)) ∙ ap (λ ys. x ∷ ys) (filter_all q xs (λ i l. all (suc i) (omega arith)))

of_full : (p : ℕ) (t : Tree) → inside_under p t (replicate (length t) true) ≡ under p t
of_full p [] = refl
of_full p (n ∷ t) = omega (arith, and_true (eqb n.parent p), of_full p t)
  where
    and_true : (b : Bool) → ◌≡◌ {A = ℕ} (cond (b && true) 1 0) (cond b 1 0)
    and_true true = refl
    and_true false = refl

pub children-under : (root : Node) (t : Tree) (p : ℕ) → length (children_of (root ∷ t) p) ≡ under p t
children-under root t p =
    let whole : List Bool = replicate (suc (length t)) true in
    let all = filter_all (has whole) (children_of (root ∷ t) p) (λ i l. get_or-replicate (suc (length t)) (get_or (children_of (root ∷ t) p) i 0) true false (All-get_or (λ c. c < suc (length t)) (children_of (root ∷ t) p) i 0 l (children_of-inside (root ∷ t) p))) in
    sym (ap length all)
    ∙ length-filter (has whole) (children_of (root ∷ t) p)
    ∙ count_by-children_of (root ∷ t) whole p
    ∙ children-counted p root t true (replicate (length t) true) (length-replicate (length t) true)
    ∙ of_full p t

pub under-append : (p : ℕ) (t u : Tree) → under p (t ++ u) ≡ under p t + under p u
under-append p [] u = omega arith
under-append p (n ∷ t) u = omega (arith, under-append p t u)

pub under-none : (p : ℕ) (t : Tree) → AllByRecursion (λ n. n.parent ≢ p) t → under p t ≡ 0
under-none p [] other = refl
under-none p (n ∷ t) other = omega (arith, ap (λ c. let k : ℕ = cond c 1 0 in k) (ne_eqb n.parent p other.0), under-none p t other.1)

pub under-leaves : (m : ℕ) (us : List GoodUnits) → under m (leaves m us) ≡ length us
under-leaves m [] = refl
under-leaves m (u ∷ us) = omega (arith, ap (λ c. let k : ℕ = cond c 1 0 in k) (eq-eqb m m refl), under-leaves m us)

no_root : (m : ℕ) (us : List GoodUnits) → 0 < m → under 0 (leaves m us) ≡ 0
no_root m us some = under-none 0 (leaves m us) (other us)
  where
    other : (us : List GoodUnits) → AllByRecursion (λ n. n.parent ≢ 0) (leaves m us)
    other [] = tt
    other (u ∷ us) = (λ e. absurd (omega (arith, e, some)), other us)

-- the packages are the children of the root
pub under-root : (m : ℕ) (ps : List Package) → 0 < m → under 0 (packages_nodes m ps) ≡ length ps
under-root m [] some = refl
under-root m (p ∷ later) some =
    omega (arith, under-append 0 (leaves m p.units) (packages_nodes (suc (m + length p.units)) later), no_root m p.units some, under-root (suc (m + length p.units)) later (omega arith))
