-- The nodes of packages, and the sets that take each package whole.
use Rattle.std.proofs.Common.{ℕ, zero, suc, ◌+◌, ◌≡◌, Bool, true, false, cond, eqb, List, [], ◌∷◌, ◌++◌, length, map, replicate, ℤ, pos, negsuc, ◌+ℤ◌, refl, sym, ap, ◌∙◌, arith, length-append}
use Rattle.std.specs.Prelude.{slice_index_or, int_lt, unsigned_abs, neg_ℤ}
use Rattle.std.proofs.lemmas.Int.{ints}
use Rattle.std.proofs.lemmas.List.{length-map, length-replicate}
use Rattle.ice_defs.specs.declared.Node.{Node}
use Rattle.ice_defs.specs.declared.NodeKind.TheVariants.{Choose, Buy, Sell}
use Rattle.ice_defs.specs.Sum.{sum_over}
use Rattle.ice_defs.specs.Tree.{Tree}
use Rattle.ice_defs.specs.Set.{NodeSet, has, value, leaf_units, units}
use Rattle.ice_defs.proofs.Integers.{int_lt-not}
use Rattle.ice_defs.proofs.Sums.{sum_below-front}
use Rattle.ice_xor.specs.declared.units.GoodUnits.{GoodUnits}
use Rattle.ice_xor.specs.FlatBids.{Package, package_units, no_package, taken_units, leaf_kind, package_nodes, packages_nodes, spread_over}
use Rattle.ice_xor.proofs.Paired.{value_more, value-append, units_more, units-append}

-- ---- their leaves

abbrev pub leaf : ℕ → GoodUnits → Node
leaf number u = record { kind = leaf_kind u; parent = number }

abbrev pub leaves : ℕ → List GoodUnits → Tree
leaves number us = map (leaf number) us

abbrev pub head : Package → Node
head p = record { kind = Choose (length p.units) (length p.units); parent = 0 }

pub length-leaves : (number : ℕ) (us : List GoodUnits) → length (leaves number us) ≡ length us
length-leaves number us = length-map us (leaf number)

pub length-whole : (k : ℕ) (b : Bool) → length (replicate k b) ≡ k
length-whole k b = length-replicate k b

-- the bought units of a leaf, by the sign of its amount
leaf_amount : (u : GoodUnits) (g : ℕ) → leaf_units (leaf_kind u) g ≡ cond (eqb u.good g) u.amount (pos 0)
leaf_amount u g = by u.amount refl
  where
    by : (z : ℤ) → u.amount ≡ z → leaf_units (leaf_kind u) g ≡ cond (eqb u.good g) u.amount (pos 0)
    by (pos n) e =
        let bought : int_lt u.amount (pos 0) ≡ false = int_lt-not u.amount (pos 0) (omega (arith, ints, e)) in
        ap (λ b. leaf_units (cond b (Sell u.good (unsigned_abs u.amount)) (Buy u.good (unsigned_abs u.amount))) g) bought ∙ ap (λ z. cond (eqb u.good g) (pos (unsigned_abs z)) (pos 0)) e ∙ ap (λ z. cond (eqb u.good g) z (pos 0)) (sym e)
    by (negsuc n) e =
        let sold : int_lt u.amount (pos 0) ≡ true = ap (λ z. int_lt z (pos 0)) e in
        ap (λ b. leaf_units (cond b (Sell u.good (unsigned_abs u.amount)) (Buy u.good (unsigned_abs u.amount))) g) sold ∙ ap (λ z. cond (eqb u.good g) (neg_ℤ (pos (unsigned_abs z))) (pos 0)) e ∙ ap (λ z. cond (eqb u.good g) z (pos 0)) (sym e)

-- ---- sets that take each package whole

abbrev pub spread_set : List Package → NodeSet → NodeSet
spread_set [] chosen = []
spread_set (p ∷ later) [] = []
spread_set (p ∷ later) (b ∷ chosen) = b ∷ replicate (length p.units) b ++ spread_set later chosen

pub length-packages : (number : ℕ) (p : Package) (later : List Package) → length (packages_nodes number (p ∷ later)) ≡ suc (length p.units) + length (packages_nodes (suc (number + length p.units)) later)
length-packages number p later =
    length-append (package_nodes number p) (packages_nodes (suc (number + length p.units)) later)
    ∙ omega (arith, length-leaves number p.units)

pub length-spread_set : (number : ℕ) (ps : List Package) (chosen : NodeSet) → length chosen ≡ length ps → length (spread_set ps chosen) ≡ length (packages_nodes number ps)
length-spread_set number [] chosen e = refl
length-spread_set number (p ∷ later) [] e = absurd (omega arith)
length-spread_set number (p ∷ later) (b ∷ chosen) e =
    omega (
      arith,
      length-append (replicate (length p.units) b) (spread_set later chosen),
      length-whole (length p.units) b,
      length-packages number p later,
      length-spread_set (suc (number + length p.units)) later chosen (omega arith),
    )

-- ---- values and units

none_of_leaves : (k : ℕ) (b : Bool) → value (replicate k b) (replicate k (pos 0)) ≡ pos 0
none_of_leaves zero b = refl
none_of_leaves (suc k) true = omega (arith, ints, value_more true (replicate k true) (pos 0) (replicate k (pos 0)), none_of_leaves k true)
none_of_leaves (suc k) false = omega (arith, ints, value_more false (replicate k false) (pos 0) (replicate k (pos 0)), none_of_leaves k false)

pub value-spread : (ps : List Package) (chosen : NodeSet) (v : List ℤ) → length chosen ≡ length ps → length v ≡ length ps → value (spread_set ps chosen) (spread_over ps v) ≡ value chosen v
value-spread [] [] [] e l = refl
value-spread [] (b ∷ chosen) v e l = absurd (omega arith)
value-spread [] [] (z ∷ v) e l = absurd (omega arith)
value-spread (p ∷ later) [] v e l = absurd (omega arith)
value-spread (p ∷ later) (b ∷ chosen) [] e l = absurd (omega arith)
value-spread (p ∷ later) (b ∷ chosen) (z ∷ v) e l =
    let k = length p.units in
    let same : length (replicate k b) ≡ length (replicate k (pos 0)) = length-replicate k b ∙ sym (length-replicate k (pos 0)) in
    omega (
      arith,
      ints,
      value_more b (replicate k b ++ spread_set later chosen) z (replicate k (pos 0) ++ spread_over later v),
      value-append (replicate k b) (spread_set later chosen) (replicate k (pos 0)) (spread_over later v) same,
      none_of_leaves k b,
      value_more b chosen z v,
      value-spread later chosen v (omega arith) (omega arith),
    )

of_leaves : (number : ℕ) (us : List GoodUnits) (b : Bool) (g : ℕ) → units (leaves number us) (replicate (length us) b) g ≡ cond b (sum_over (λ u. cond (eqb u.good g) u.amount (pos 0)) us) (pos 0)
of_leaves number [] true g = refl
of_leaves number [] false g = refl
of_leaves number (u ∷ us) true g =
    omega (arith, ints, units_more (leaf number u) (leaves number us) true (replicate (length us) true) g, leaf_amount u g, of_leaves number us true g)
of_leaves number (u ∷ us) false g =
    omega (arith, ints, units_more (leaf number u) (leaves number us) false (replicate (length us) false) g, of_leaves number us false g)

taken_more : (p : Package) (ps : List Package) (b : Bool) (chosen : NodeSet) (g : ℕ) → taken_units (p ∷ ps) (b ∷ chosen) g ≡ cond b (package_units p g) (pos 0) +ℤ taken_units ps chosen g
taken_more p ps b chosen g = sum_below-front (λ j. cond (has (b ∷ chosen) j) (package_units (slice_index_or (p ∷ ps) j no_package) g) (pos 0)) (length ps)

no_own : (p : Package) (b : Bool) (g : ℕ) → cond b (leaf_units (head p).kind g) (pos 0) ≡ pos 0
no_own p true g = refl
no_own p false g = refl

pub units-spread : (number : ℕ) (ps : List Package) (chosen : NodeSet) (g : ℕ) → length chosen ≡ length ps → units (packages_nodes number ps) (spread_set ps chosen) g ≡ taken_units ps chosen g
units-spread number [] chosen g e = refl
units-spread number (p ∷ later) [] g e = absurd (omega arith)
units-spread number (p ∷ later) (b ∷ chosen) g e =
    let k = length p.units in
    let next = suc (number + k) in
    omega (
      arith,
      ints,
      units_more (head p) (leaves number p.units ++ packages_nodes next later) b (replicate k b ++ spread_set later chosen) g,
      no_own p b g,
      units-append (leaves number p.units) (packages_nodes next later) (replicate k b) (spread_set later chosen) g (length-whole k b ∙ sym (length-leaves number p.units)),
      of_leaves number p.units b g,
      taken_more p later b chosen g,
      units-spread next later chosen g (omega arith),
    )
