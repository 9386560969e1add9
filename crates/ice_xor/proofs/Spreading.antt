-- A set of packages, as a set of the tree's nodes: it is
-- satisfied, and has the same value and units.
use Rattle.std.proofs.Common.{ℕ, zero, suc, ◌+◌, ◌-◌, ◌<◌, ◌≤◌, ◌≡◌, ◌≢◌, Bool, true, false, cond, ◌&&◌, List, [], ◌∷◌, ◌++◌, length, replicate, get_or, pos, IsTrue, refl, sym, ap, ◌∙◌, ◌⊎◌, inl, inr, subst, arith, length-append}
use Rattle.std.specs.Prelude.{int_lt, unsigned_abs}
use Rattle.std.specs.List.{AllByRecursion}
use Rattle.std.proofs.lemmas.Bool.{cases_lt, eq-eqb, ne_eqb}
use Rattle.std.proofs.lemmas.List.{append_assoc, get_or_append_left, get_or-append-add}
use Rattle.std.proofs.Math.Seq.{get_or-append_seam}
use Rattle.ice_defs.specs.declared.Node.{Node}
use Rattle.ice_defs.specs.declared.NodeKind.TheVariants.{Buy, Sell}
use Rattle.ice_defs.specs.Tree.{Tree, no_node, kind_of, parent_of}
use Rattle.ice_defs.specs.Set.{NodeSet, has, children_inside, IsWithin}
use Rattle.ice_defs.proofs.Lists.{all-append}
use Rattle.ice_xor.specs.declared.units.GoodUnits.{GoodUnits}
use Rattle.ice_xor.specs.FlatBids.{Package, leaf_kind, package_nodes, packages_nodes}
use Rattle.ice_xor.proofs.Paired.{inside, inside_under, inside_under-append, inside_under-none, children-counted}
use Rattle.ice_xor.proofs.PackageNodes.{leaf, leaves, head, length-leaves, length-whole, spread_set, length-spread_set}

-- ---- parents

-- each parent stands before this number
abbrev pub AreBefore : ℕ → Tree → Type 0
AreBefore m t = AllByRecursion (λ n. n.parent < m) t

-- none is this number, where each is 0 or behind it
pub far : (m p : ℕ) (ps : List Package) → 0 < p → p < m → AllByRecursion (λ n. n.parent ≢ p) (packages_nodes m ps)
far m p [] some before = tt
far m p (q ∷ later) some before =
    all-append (λ n. n.parent ≢ p) (package_nodes m q) (packages_nodes (suc (m + length q.units)) later) (λ e. absurd (omega (arith, e)), of_leaves q.units)
    (far (suc (m + length q.units)) p later some (omega arith))
  where
    of_leaves : (us : List GoodUnits) → AllByRecursion (λ n. n.parent ≢ p) (leaves m us)
    of_leaves [] = tt
    of_leaves (u ∷ us) = (λ e. absurd (omega (arith, e)), of_leaves us)

pub not_at : (m : ℕ) (t : Tree) → AreBefore m t → AllByRecursion (λ n. n.parent ≢ m) t
not_at m [] before = tt
not_at m (n ∷ t) before = (λ e. absurd (omega (arith, e, before.0)), not_at m t before.1)

pub before_more : (m k : ℕ) (t : Tree) → m ≤ k → AreBefore m t → AreBefore k t
before_more m k [] le before = tt
before_more m k (n ∷ t) le before = (omega (arith, before.0), before_more m k t le before.1)

pub before_leaves : (m k : ℕ) (us : List GoodUnits) → m < k → AreBefore k (leaves m us)
before_leaves m k [] less = tt
before_leaves m k (u ∷ us) less = (less, before_leaves m k us less)

-- ---- counts

-- the leaves of a package that are inside
pub under_leaves : (m : ℕ) (us : List GoodUnits) (s : NodeSet) → length s ≡ length us → inside_under m (leaves m us) s ≡ inside s
under_leaves m [] [] e = refl
under_leaves m [] (b ∷ s) e = absurd (omega arith)
under_leaves m (u ∷ us) [] e = absurd (omega arith)
under_leaves m (u ∷ us) (b ∷ s) e = omega (arith, ap (λ c. let k : ℕ = cond (c && b) 1 0 in k) (eq-eqb m m refl), under_leaves m us s (omega arith))

pub inside-whole : (k : ℕ) → inside (replicate k true) ≡ k
inside-whole zero = refl
inside-whole (suc k) = omega (arith, inside-whole k)

-- the packages that are inside are the children of the root
pub under_root : (m : ℕ) (ps : List Package) (chosen : NodeSet) → 0 < m → length chosen ≡ length ps → inside_under 0 (packages_nodes m ps) (spread_set ps chosen) ≡ inside chosen
under_root m [] [] some e = refl
under_root m [] (b ∷ chosen) some e = absurd (omega arith)
under_root m (p ∷ later) [] some e = absurd (omega arith)
under_root m (p ∷ later) (b ∷ chosen) some e =
    let k = length p.units in
    let none : inside_under 0 (leaves m p.units) (replicate k b) ≡ 0 = inside_under-none 0 (leaves m p.units) (replicate k b) (of_leaves p.units) in
    omega (
      arith,
      inside_under-append 0 (leaves m p.units) (packages_nodes (suc (m + k)) later) (replicate k b) (spread_set later chosen) (length-whole k b ∙ sym (length-leaves m p.units)),
      none,
      under_root (suc (m + k)) later chosen (omega arith) (omega arith),
    )
  where
    of_leaves : (us : List GoodUnits) → AllByRecursion (λ n. n.parent ≢ 0) (leaves m us)
    of_leaves [] = tt
    of_leaves (u ∷ us) = (λ e. absurd (omega (arith, e)), of_leaves us)

-- the children of a package, wherever it stands
pub under_package : (root : Node) (t : Tree) (r : Bool) (s : NodeSet) (p : Package) (b : Bool) (ls : NodeSet) (later : List Package) (rest : NodeSet) → length s ≡ length t → length ls ≡ length p.units
    → AreBefore (suc (length t)) t → length rest ≡ length (packages_nodes (suc (suc (length t) + length p.units)) later)
    → children_inside (root ∷ t ++ (package_nodes (suc (length t)) p ++ packages_nodes (suc (suc (length t) + length p.units)) later)) (r ∷ s ++ (b ∷ ls ++ rest)) (suc (length t)) ≡ inside ls
under_package root t r s p b ls later rest same whole before count =
    let m = suc (length t) in
    let k = length p.units in
    let tail = packages_nodes (suc (m + k)) later in
    let same_leaves : length ls ≡ length (leaves m p.units) = whole ∙ sym (length-leaves m p.units) in
    let all : length (s ++ (b ∷ ls ++ rest)) ≡ length (t ++ (package_nodes m p ++ tail)) =
    omega (arith, length-append s (b ∷ ls ++ rest), length-append t (package_nodes m p ++ tail), length-append ls rest, length-append (leaves m p.units) tail, same, same_leaves, count) in
    omega (
      arith,
      children-counted m root (t ++ (package_nodes m p ++ tail)) r (s ++ (b ∷ ls ++ rest)) all,
      inside_under-append m t (package_nodes m p ++ tail) s (b ∷ ls ++ rest) same,
      inside_under-none m t s (not_at m t before),
      ap (λ c. let n : ℕ = cond (c && b) 1 0 in n) (ne_eqb 0 m (λ e. absurd (omega (arith, e)))),
      inside_under-append m (leaves m p.units) tail ls rest same_leaves,
      under_leaves m p.units ls whole,
      inside_under-none m tail rest (far (suc (m + k)) m later (omega arith) (omega arith)),
    )

-- ---- a set of packages is satisfied

-- what a satisfied set needs at a node
pub record IsSound (t : Tree) (s : NodeSet) (n : ℕ) : Type 0 where
  pub parent_inside : IsTrue (has s n) → IsTrue (has s (parent_of t n))
  pub count_inside : IsTrue (has s n) → IsWithin (kind_of t n) (children_inside t s n)

-- a leaf needs no children
no_count : (u : GoodUnits) (n : ℕ) → IsWithin (leaf_kind u) n
no_count u n = by (int_lt u.amount (pos 0))
  where
    by : (b : Bool) → IsWithin (cond b (Sell u.good (unsigned_abs u.amount)) (Buy u.good (unsigned_abs u.amount))) n
    by true = tt
    by false = tt

whole_count : (k : ℕ) (b : Bool) (n : ℕ) → IsTrue b → n ≡ inside (replicate k b) → (k ≤ n) × (n ≤ k)
whole_count k true n is e = (omega (arith, e, inside-whole k), omega (arith, e, inside-whole k))
whole_count k false n is e = absurd cc

get_or_leaves : (m : ℕ) (us : List GoodUnits) (i : ℕ) → i < length us → (u : GoodUnits) × (get_or (leaves m us) i no_node ≡ leaf m u)
get_or_leaves m [] i l = absurd (omega arith)
get_or_leaves m (u ∷ us) zero l = (u, refl)
get_or_leaves m (u ∷ us) (suc i) l = get_or_leaves m us i (omega arith)

has-whole : (k : ℕ) (b : Bool) (i : ℕ) → i < k → has (replicate k b) i ≡ b
has-whole zero b i l = absurd (omega arith)
has-whole (suc k) b zero l = refl
has-whole (suc k) b (suc i) l = has-whole k b i (omega arith)

-- ---- the nodes of the first of some packages

-- one package more before the others
pub longer : (t : Tree) (p : Package) → length (t ++ package_nodes (suc (length t)) p) ≡ length t + suc (length p.units)
longer t p = omega (arith, length-append t (package_nodes (suc (length t)) p), length-leaves (suc (length t)) p.units)

pub before-package : (t : Tree) (p : Package) → AreBefore (suc (length t)) t → AreBefore (suc (length (t ++ package_nodes (suc (length t)) p))) (t ++ package_nodes (suc (length t)) p)
before-package t p before =
    let m = suc (length t) in
    let end = suc (length (t ++ package_nodes m p)) in
    all-append (λ n. n.parent < end) t (package_nodes m p) (before_more m end t (omega (arith, longer t p)) before) (omega (arith, longer t p), before_leaves m end p.units (omega (arith, longer t p)))

-- the other packages follow
pub moved : (root : Node) (t : Tree) (p : Package) (later : List Package)
    → root ∷ (t ++ package_nodes (suc (length t)) p) ++ packages_nodes (suc (length (t ++ package_nodes (suc (length t)) p))) later ≡ root ∷ t ++ packages_nodes (suc (length t)) (p ∷ later)
moved root t p later =
    let m = suc (length t) in
    let e : suc (length (t ++ package_nodes m p)) ≡ suc (m + length p.units) = omega (arith, longer t p) in
    ap (λ n. root ∷ (t ++ package_nodes m p) ++ packages_nodes n later) e
    ∙ ap (λ x. root ∷ x) (append_assoc t (package_nodes m p) (packages_nodes (suc (m + length p.units)) later))

pub at_head : (root : Node) (t : Tree) (p : Package) (later : List Package) → get_or (root ∷ t ++ packages_nodes (suc (length t)) (p ∷ later)) (suc (length t)) no_node ≡ head p
at_head root t p later = get_or-append_seam t (head p) (leaves (suc (length t)) p.units ++ packages_nodes (suc (suc (length t) + length p.units)) later) no_node

pub at_leaf : (root : Node) (t : Tree) (p : Package) (later : List Package) (i : ℕ) → i < length p.units
    → (u : GoodUnits) × (get_or (root ∷ t ++ packages_nodes (suc (length t)) (p ∷ later)) (suc (length t + suc i)) no_node ≡ leaf (suc (length t)) u)
at_leaf root t p later i l =
    let m = suc (length t) in
    let tail = packages_nodes (suc (m + length p.units)) later in
    let found = get_or_leaves m p.units i l in (
      found.0,
      get_or-append-add t (head p ∷ leaves m p.units ++ tail) (suc i) no_node
          ∙ get_or_append_left (leaves m p.units) tail no_node i (omega (arith, length-leaves m p.units))
          ∙ found.1,
    )

pub has-head : (r : Bool) (s : NodeSet) (b : Bool) (x : NodeSet) (m : ℕ) → length s ≡ m → has (r ∷ s ++ (b ∷ x)) (suc m) ≡ b
has-head r s b x m e = ap (has (s ++ (b ∷ x))) (sym e) ∙ get_or-append_seam s b x false

pub has-leaf : (r : Bool) (s : NodeSet) (b : Bool) (ls x : NodeSet) (m i : ℕ) → length s ≡ m → i < length ls → has (r ∷ s ++ (b ∷ ls ++ x)) (suc (m + suc i)) ≡ has ls i
has-leaf r s b ls x m i e l =
    ap (λ n. has (s ++ (b ∷ ls ++ x)) (n + suc i)) (sym e)
    ∙ get_or-append-add s (b ∷ ls ++ x) (suc i) false
    ∙ get_or_append_left ls x false i l

-- ---- each node behind the root

pub sound : (root : Node) (t : Tree) (s : NodeSet) (ps : List Package) (chosen : NodeSet) → length s ≡ length t → AreBefore (suc (length t)) t → length chosen ≡ length ps
    → (n : ℕ) → length t < n → n < length (root ∷ t ++ packages_nodes (suc (length t)) ps) → IsSound (root ∷ t ++ packages_nodes (suc (length t)) ps) (true ∷ s ++ spread_set ps chosen) n
sound root t s [] chosen same before count n low high = absurd (omega (arith, length-append t []))
sound root t s (p ∷ later) [] same before count n low high = absurd (omega arith)
sound root t s (p ∷ later) (b ∷ chosen) same before count n low high =
    by_head (λ l. sound root (t ++ block) (s ++ (b ∷ whole)) later chosen size (before-package t p before) (omega arith) n (omega (arith, longer t p, l)) (omega (arith, high, ap length (moved root t p later)))) (cases_lt m n)
  where
    m : ℕ
    m = suc (length t)

    k : ℕ
    k = length p.units

    block : Tree
    block = package_nodes m p

    whole : NodeSet
    whole = replicate k b

    tail : NodeSet
    tail = spread_set later chosen

    T : Tree
    T = root ∷ t ++ packages_nodes m (p ∷ later)

    S : NodeSet
    S = true ∷ s ++ (b ∷ whole ++ tail)

    here : has S m ≡ b
    here = has-head true s b (whole ++ tail) (length t) same

    of_head : IsSound T S m
    of_head = record {
      parent_inside = λ is. subst (λ (x : Node). IsTrue (has S x.parent)) (sym (at_head root t p later)) refl;
      count_inside = λ is. subst (λ (x : Node). IsWithin x.kind (children_inside T S m)) (sym (at_head root t p later))
          (whole_count k b (children_inside T S m) (sym here ∙ is)
          (under_package root t true s p b whole later tail same (length-whole k b) before (length-spread_set (suc (m + k)) later chosen (omega arith))));
    }

    of_leaf : (i : ℕ) → i < k → IsSound T S (suc (length t + suc i))
    of_leaf i l =
        let found = at_leaf root t p later i l in
        let own : has S (suc (length t + suc i)) ≡ b = has-leaf true s b whole tail (length t) i same (omega (arith, length-whole k b)) ∙ has-whole k b i l in
        record {
          parent_inside = λ is. subst (λ (x : Node). IsTrue (has S x.parent)) (sym found.1) (here ∙ sym own ∙ is);
          count_inside = λ is. subst (λ (x : Node). IsWithin x.kind (children_inside T S (suc (length t + suc i)))) (sym found.1) (no_count found.0 _);
        }

    later_set : true ∷ (s ++ (b ∷ whole)) ++ tail ≡ S
    later_set = ap (λ x. true ∷ x) (append_assoc s (b ∷ whole) tail)

    size : length (s ++ (b ∷ whole)) ≡ length (t ++ block)
    size = omega (arith, length-append s (b ∷ whole), length-whole k b, longer t p, same)

    Later : Type 0
    Later = m + k < n → IsSound (root ∷ (t ++ block) ++ packages_nodes (suc (length (t ++ block))) later) (true ∷ (s ++ (b ∷ whole)) ++ tail) n

    of_later : Later → m + k < n → IsSound T S n
    of_later sound_later l = subst (λ x. IsSound T x n) later_set (subst (λ x. IsSound x (true ∷ (s ++ (b ∷ whole)) ++ tail) n) (moved root t p later) (sound_later l))

    by_leaf : Later → m < n → (m + k < n) ⊎ (n ≤ m + k) → IsSound T S n
    by_leaf sound_later l (inl far) = of_later sound_later far
    by_leaf sound_later l (inr near) = let e : suc (length t + suc (n - suc m)) ≡ n = omega arith in subst (IsSound T S) e (of_leaf (n - suc m) (omega arith))

    by_head : Later → (m < n) ⊎ (n ≤ m) → IsSound T S n
    by_head sound_later (inl l) = by_leaf sound_later l (cases_lt (m + k) n)
    by_head sound_later (inr l) = let e : m ≡ n = omega arith in subst (IsSound T S) e of_head
