-- What is read of packages is lawful.
use Rattle.std.proofs.Common.{◌≡◌, ℕ, zero, suc, ◌+◌, ◌<◌, Bool, true, false, cond, ◌&&◌, eqb, List, [], ◌∷◌, length, ℤ, pos, negsuc, neg_ℤ, Option, Some, None, refl, sym, ◌∙◌, arith}
use Rattle.std.specs.Prelude.{Ok, Err, codes, int_le, nat_lt}
use Rattle.std.specs.List.{AllByRecursion, position}
use Rattle.std.specs.Str.{bytes_eq}
use Rattle.std.proofs.lemmas.Bool.{and_parts}
use Rattle.std.proofs.lemmas.Bool.Decides.{nat_tests}
use Rattle.std.proofs.lemmas.List.Quantifiers.{position-Some}
use Rattle.serde_json.specs.Data.{Data, Num, Items, no_items, item, Members, no_members, member}
use Rattle.serde_json.specs.Find.{as_number, as_integer}
use Rattle.serde_json.specs.Events.{items_len, members_len}
use Rattle.ice_defs.specs.Exchange.{IsBetween}
use Rattle.ice_defs.specs.FileFault.{Path, Read, refuse, ◌>>=◌}
use Rattle.ice_defs.proofs.Integers.{int_le-true}
use Rattle.ice_read.specs.Values.{at_member, at_index, object_of, array_of, in_range, whole_of, has_exactly, member_or_null, of_member, each}
use Rattle.ice_read.specs.TreeFile.{value_at}
use Rattle.ice_read.proofs.NodesAdded.{step}
use Rattle.ice_xor.specs.declared.units.GoodUnits.{GoodUnits}
use Rattle.ice_xor.specs.FlatBids.{Package}
use Rattle.ice_xor.specs.Lawful.{IsAmount, IsFlatPackage}
use Rattle.ice_xor.specs.FlatFile.{with_units, amount_at, units_one, units_from, units_at, package_at, packages_at}

-- ---- numbers

in_range-between : (path : Path) (low high z w : ℤ) → in_range path low high z ≡ Ok w → IsBetween low high w
in_range-between path low high z w e = by (int_le low z && int_le z high) refl
  where
    by : (b : Bool) → (int_le low z && int_le z high) ≡ b → IsBetween low high w
    by true is =
        let read : in_range path low high z ≡ Ok z = rw is in
        let same : z ≡ w = cc in
        let parts = and_parts (int_le low z) (int_le z high) is in
        rw (← same) (int_le-true low z parts.0, int_le-true z high parts.1)
    by false is = let refused : in_range path low high z ≡ refuse 4 path = rw is in cc

pub whole_of-between : (path : Path) (low high : ℤ) (d : Data) (z : ℤ) → whole_of path low high d ≡ Ok z → IsBetween low high z
whole_of-between path low high d z e = by_number (as_number d) refl
  where
    by_integer : (n : Num) → as_number d ≡ Some n → (o : Option ℤ) → as_integer n ≡ o → IsBetween low high z
    by_integer n is None whole = let refused : whole_of path low high d ≡ refuse 3 path = rw (is, whole) in cc
    by_integer n is (Some w) whole = let read : whole_of path low high d ≡ in_range path low high w = rw (is, whole) in in_range-between path low high w z (sym read ∙ e)

    by_number : (o : Option Num) → as_number d ≡ o → IsBetween low high z
    by_number None is = let refused : whole_of path low high d ≡ refuse 2 path = rw is in cc
    by_number (Some n) is = by_integer n is (as_integer n) refl

amount_at-lawful : (path : Path) (d : Data) (z : ℤ) → amount_at path d ≡ Ok z → IsAmount z
amount_at-lawful path d z e = by (whole_of path (neg_ℤ (pos 1000)) (pos 1000) d) refl
  where
    by : (r : Read ℤ) → whole_of path (neg_ℤ (pos 1000)) (pos 1000) d ≡ r → IsAmount z
    by (Err fault) is = let refused : amount_at path d ≡ Err fault = rw is in cc
    by (Ok (pos zero)) is = let refused : amount_at path d ≡ refuse 4 path = rw is in cc
    by (Ok (pos (suc n))) is =
        let read : amount_at path d ≡ Ok (pos (suc n)) = rw is in
        let same : pos (suc n) ≡ z = cc in
        rw (← same) (whole_of-between path (neg_ℤ (pos 1000)) (pos 1000) d (pos (suc n)) is, λ none. absurd cc)
    by (Ok (negsuc n)) is =
        let read : amount_at path d ≡ Ok (negsuc n) = rw is in
        let same : negsuc n ≡ z = cc in
        rw (← same) (whole_of-between path (neg_ℤ (pos 1000)) (pos 1000) d (negsuc n) is, λ none. absurd cc)

-- ---- units

abbrev IsUnits : ℕ → GoodUnits → Type 0
IsUnits goods u = (u.good < goods) × IsAmount u.amount

with_units-all : (goods : ℕ) (u : GoodUnits) (us : List GoodUnits) → IsUnits goods u → AllByRecursion (IsUnits goods) us → AllByRecursion (IsUnits goods) (with_units u us)
with_units-all goods u [] is are = (is, tt)
with_units-all goods u (v ∷ us) is are = by (nat_lt u.good v.good) (with_units-all goods u us is are.1)
  where
    by : (b : Bool) → AllByRecursion (IsUnits goods) (with_units u us) → AllByRecursion (IsUnits goods) (cond b (u ∷ v ∷ us) (v ∷ with_units u us))
    by true later = (is, are)
    by false later = (are.0, later)

length-with_units : (u : GoodUnits) (us : List GoodUnits) → length (with_units u us) ≡ suc (length us)
length-with_units u [] = refl
length-with_units u (v ∷ us) = by (nat_lt u.good v.good) (length-with_units u us)
  where
    by : (b : Bool) → length (with_units u us) ≡ suc (length us) → length (cond b (u ∷ v ∷ us) (v ∷ with_units u us)) ≡ suc (suc (length us))
    by true later = refl
    by false later = omega arith

-- what one member more, or all members, add
record AreMore (goods : ℕ) (us : List GoodUnits) (count : ℕ) (more : List GoodUnits) : Type 0 where
  lawful : AllByRecursion (IsUnits goods) us → AllByRecursion (IsUnits goods) more
  longer : length more ≡ length us + count

one-more : (goods : List (List ℕ)) (path : Path) (us more : List GoodUnits) (name : List ℕ) (d : Data) → units_one goods path us name d ≡ Ok more → AreMore (length goods) us 1 more
one-more goods path us more name d e = by_good (position (bytes_eq name) goods) refl
  where
    by_amount : (g : ℕ) → position (bytes_eq name) goods ≡ Some g → (r : Read ℤ) → amount_at (at_member path name) d ≡ r → AreMore (length goods) us 1 more
    by_amount g is (Err fault) read = let refused : units_one goods path us name d ≡ Err fault = rw (is, read) in cc
    by_amount g is (Ok amount) read =
        let u : GoodUnits = record { good = g; amount = amount } in
        let made : units_one goods path us name d ≡ Ok (with_units u us) = rw (is, read) in
        let same : with_units u us ≡ more = cc in
        let there = position-Some (bytes_eq name) goods g [] is in
        let own : IsUnits (length goods) u = (there.0, amount_at-lawful (at_member path name) d amount read) in
        rw (← same) (record { lawful = λ are. with_units-all (length goods) u us own are; longer = omega (arith, length-with_units u us) })

    by_good : (o : Option ℕ) → position (bytes_eq name) goods ≡ o → AreMore (length goods) us 1 more
    by_good None is = let refused : units_one goods path us name d ≡ refuse 5 path = rw is in cc
    by_good (Some g) is = by_amount g is (amount_at (at_member path name) d) refl

all-more : (goods : List (List ℕ)) (path : Path) (us more : List GoodUnits) (ms : Members) → units_from goods path us ms ≡ Ok more → AreMore (length goods) us (members_len ms) more
all-more goods path us more no_members e = let same : us ≡ more = cc in rw (← same) (record { lawful = λ are. are; longer = omega arith })
all-more goods path us more (member name d rest) e =
    let next = step (units_one goods path us name d) (λ then. units_from goods path then rest) more e in
    let one = one-more goods path us next.0 name d next.1 in
    let later = all-more goods path next.0 more rest next.2 in
    record { lawful = λ are. later.lawful (one.lawful are); longer = omega (arith, one.longer, later.longer) }

units_at-lawful : (goods : List (List ℕ)) (path : Path) (d : Data) (us : List GoodUnits) → units_at goods path d ≡ Ok us → (0 < length us) × AllByRecursion (IsUnits (length goods)) us
units_at-lawful goods path d us e =
    let read = step (object_of path d) (λ members. cond (eqb (members_len members) 0) (refuse 90 path) (units_from goods path [] members)) us e in
    by read.0 (eqb (members_len read.0) 0) refl read.2
  where
    by : (ms : Members) (none : Bool) → eqb (members_len ms) 0 ≡ none → cond none (refuse 90 path) (units_from goods path [] ms) ≡ Ok us → (0 < length us) × AllByRecursion (IsUnits (length goods)) us
    by ms true is read = absurd cc
    by ms false is read =
        let all = all-more goods path [] us ms read in
        let some : 0 < members_len ms = grind (arith, nat_tests) in
        (omega (arith, all.longer, some), all.lawful tt)

-- ---- packages

package_at-lawful : (goods : List (List ℕ)) (path : Path) (d : Data) (p : Package) → package_at goods path d ≡ Ok p → IsFlatPackage (length goods) p
package_at-lawful goods path d p e = by (has_exactly (codes "lo" ∷ codes "hi" ∷ codes "units" ∷ []) d) refl
  where
    read : Read Package
    read = of_member path d (codes "lo") value_at >>= λ lo. of_member path d (codes "hi") value_at >>= λ hi. of_member path d (codes "units") (units_at goods) >>= λ units. Ok (record { lo = lo; hi = hi; units = units })

    by : (b : Bool) → has_exactly (codes "lo" ∷ codes "hi" ∷ codes "units" ∷ []) d ≡ b → IsFlatPackage (length goods) p
    by false is = let refused : package_at goods path d ≡ refuse 2 path = rw is in cc
    by true is =
        let whole : package_at goods path d ≡ read = rw is in
        let first = step (of_member path d (codes "lo") value_at) (λ lo. of_member path d (codes "hi") value_at >>= λ hi. of_member path d (codes "units") (units_at goods) >>= λ units. Ok (record { lo = lo; hi = hi; units = units })) p (sym whole ∙ e) in
        let second = step (of_member path d (codes "hi") value_at) (λ hi. of_member path d (codes "units") (units_at goods) >>= λ units. Ok (record { lo = first.0; hi = hi; units = units })) p first.2 in
        let third = step (of_member path d (codes "units") (units_at goods)) (λ units. Ok (record { lo = first.0; hi = second.0; units = units })) p second.2 in
        let same : record { lo = first.0; hi = second.0; units = third.0 } ≡ p = cc in
        let units = units_at-lawful goods (at_member path (codes "units")) (member_or_null (codes "units") d) third.0 third.1 in
        rw (← same) (record {
          lo = whole_of-between (at_member path (codes "lo")) (neg_ℤ (pos 1000000000)) (pos 1000000000) (member_or_null (codes "lo") d) first.0 first.1;
          hi = whole_of-between (at_member path (codes "hi")) (neg_ℤ (pos 1000000000)) (pos 1000000000) (member_or_null (codes "hi") d) second.0 second.1;
          some = units.0;
          units = units.1;
        })

each-lawful : (goods : List (List ℕ)) (path : Path) (i : ℕ) (items : Items) (ps : List Package) → each (package_at goods) path i items ≡ Ok ps → (length ps ≡ items_len items) × AllByRecursion (IsFlatPackage (length goods)) ps
each-lawful goods path i no_items ps e = let same : [] ≡ ps = cc in rw (← same) (refl, tt)
each-lawful goods path i (item d rest) ps e =
    let first = step (package_at goods (at_index path i) d) (λ p. each (package_at goods) path (suc i) rest >>= λ later. Ok (p ∷ later)) ps e in
    let others = step (each (package_at goods) path (suc i) rest) (λ later. Ok (first.0 ∷ later)) ps first.2 in
    let same : first.0 ∷ others.0 ≡ ps = cc in
    let later = each-lawful goods path (suc i) rest others.0 others.1 in
    rw (← same) (omega (arith, later.0), (package_at-lawful goods (at_index path i) d first.0 first.1, later.1))

pub packages_at-lawful : (goods : List (List ℕ)) (path : Path) (d : Data) (ps : List Package) → packages_at goods path d ≡ Ok ps → (0 < length ps) × AllByRecursion (IsFlatPackage (length goods)) ps
packages_at-lawful goods path d ps e =
    let read = step (array_of path d) (λ items. cond (eqb (items_len items) 0) (refuse 91 path) (each (package_at goods) path 0 items)) ps e in
    by read.0 (eqb (items_len read.0) 0) refl read.2
  where
    by : (items : Items) (none : Bool) → eqb (items_len items) 0 ≡ none → cond none (refuse 91 path) (each (package_at goods) path 0 items) ≡ Ok ps → (0 < length ps) × AllByRecursion (IsFlatPackage (length goods)) ps
    by items true is read = absurd cc
    by items false is read =
        let all = each-lawful goods path 0 items ps read in
        let some : 0 < items_len items = grind (arith, nat_tests) in
        (omega (arith, all.0, some), all.1)
