-- The flat bids of a JSON file, or its first fault.
use Rattle.std.specs.Prelude.{ℕ, zero, suc, ◌==◌, ◌||◌, not, nat_lt, nat_le, Bool, true, false, if◌then◌else◌, List, [], ◌∷◌, ◌++◌, length}
use Rattle.std.specs.Prelude.{map, position, codes, ℤ, pos, neg_ℤ, Option, Some, None, Ok}
use Rattle.std.specs.List.{list_any}
use Rattle.std.specs.Str.{bytes_eq}
use Rattle.serde_json.specs.Data.{Data, Items, no_items, item, Members, no_members, member}
use Rattle.serde_json.specs.Events.{items_len, members_len}
use Rattle.ice_defs.specs.Name.{is_name}
use Rattle.ice_defs.specs.Exchange.{Settings, Good}
use Rattle.ice_defs.specs.FileFault.{Path, Read, refuse, ◌>>=◌}
use Rattle.ice_read.specs.Values.{value_of, at_member, at_index, object_of, array_of, text_of, whole_of, has_exactly, of_member, each}
use Rattle.ice_read.specs.TreeFile.{value_at}
use Rattle.ice_read.specs.ExchangeFile.{settings_at, goods_at, own_at, of_json, unless_refused}
use Rattle.ice_xor.specs.declared.units.GoodUnits.{GoodUnits}
use Rattle.ice_xor.specs.FlatBids.{Package, FlatBidder, FlatExchange}

-- in ascending order of goods
abbrev pub with_units : GoodUnits → List GoodUnits → List GoodUnits
with_units u [] = u ∷ []
with_units u (other ∷ later) = if nat_lt u.good other.good then u ∷ other ∷ later else other ∷ with_units u later

-- a whole number of at most 1,000 in size, and not 0
abbrev pub amount_at : Path → Data → Read ℤ
amount_at path d = whole_of path (neg_ℤ (pos 1000)) (pos 1000) d >>= λ z. not_0 z
  where
    not_0 : ℤ → Read ℤ
    not_0 (pos zero) = refuse 4 path
    not_0 z = Ok z

-- units of one good more, by its name
abbrev pub units_one : List (List ℕ) → Path → List GoodUnits → List ℕ → Data → Read (List GoodUnits)
units_one goods path units name d =
    known (position (bytes_eq name) goods) >>= λ g.
    amount_at (at_member path name) d >>= λ amount.
    Ok (with_units (record { good = g; amount = amount }) units)
  where
    known : Option ℕ → Read ℕ
    known None = refuse 5 path
    known (Some g) = Ok g

abbrev pub units_from : List (List ℕ) → Path → List GoodUnits → Members → Read (List GoodUnits)
units_from goods path units no_members = Ok units
units_from goods path units (member name d rest) = units_one goods path units name d >>= λ more. units_from goods path more rest

abbrev pub units_at : List (List ℕ) → Path → Data → Read (List GoodUnits)
units_at goods path d = object_of path d >>= λ members. if members_len members == 0 then refuse 90 path
    else units_from goods path [] members

-- a package: its shape, its values, its units
abbrev pub package_at : List (List ℕ) → Path → Data → Read Package
package_at goods path d =
    if has_exactly (codes "lo" ∷ codes "hi" ∷ codes "units" ∷ []) d
    then (of_member path d (codes "lo") value_at >>= λ lo.
    of_member path d (codes "hi") value_at >>= λ hi.
    of_member path d (codes "units") (units_at goods) >>= λ units.
    Ok (record { lo = lo; hi = hi; units = units }))
    else refuse 2 path

abbrev pub packages_at : List (List ℕ) → Path → Data → Read (List Package)
packages_at goods path d = array_of path d >>= λ items. if items_len items == 0 then refuse 91 path
    else each (package_at goods) path 0 items

abbrev pub flat_bidder_of : List (List ℕ) → Path → Data → List ℕ → Bool → Read FlatBidder
flat_bidder_of goods path d word any =
    of_member path d (codes "name") text_of >>= λ name.
    of_member path d (codes "own") (own_at goods) >>= λ own.
    of_member path d word (packages_at goods) >>= λ packages.
    Ok (record { name = name; own = own; any = any; packages = packages })

abbrev pub flat_bidder_at : List (List ℕ) → Path → Data → Read FlatBidder
flat_bidder_at goods path d =
    if has_exactly (codes "name" ∷ codes "own" ∷ codes "xor" ∷ []) d then flat_bidder_of goods path d (codes "xor") false
    else if has_exactly (codes "name" ∷ codes "own" ∷ codes "or" ∷ []) d then flat_bidder_of goods path d (codes "or") true
    else refuse 2 path

-- a bad name, a name that is there, or 40 bidders
abbrev pub flat_refusal : List FlatBidder → List ℕ → Option ℕ
flat_refusal bidders name =
    if not (is_name name) then Some 13
    else if list_any (λ other. bytes_eq other.name name) bidders then Some 11
    else if nat_le 40 (length bidders) then Some 12
    else None

abbrev pub flat_bidders_with : List (List ℕ) → Path → List FlatBidder → Data → Read (List FlatBidder)
flat_bidders_with goods path bidders d =
    flat_bidder_at goods path d >>= λ b. unless_refused path (flat_refusal bidders b.name) (bidders ++ b ∷ [])

abbrev pub flat_bidders_from : List (List ℕ) → Path → ℕ → List FlatBidder → Items → Read (List FlatBidder)
flat_bidders_from goods path i bidders no_items = Ok bidders
flat_bidders_from goods path i bidders (item d rest) =
    flat_bidders_with goods (at_index path i) bidders d >>= λ more. flat_bidders_from goods path (suc i) more rest

abbrev pub flat_bidders_at : List Good → Path → Data → Read (List FlatBidder)
flat_bidders_at goods path d = array_of path d >>= λ items. flat_bidders_from (map (λ good. good.name) goods) path 0 [] items

-- there is a good and a bidder
abbrev pub flat_made : Settings → List Good → List FlatBidder → Read FlatExchange
flat_made settings goods bidders =
    if (length goods == 0) || (length bidders == 0) then refuse 16 []
    else Ok (record { settings = settings; goods = goods; bidders = bidders })

abbrev pub flat_of_value : Data → Read FlatExchange
flat_of_value d =
    if has_exactly (codes "settings" ∷ codes "goods" ∷ codes "bidders" ∷ []) d
    then (of_member [] d (codes "settings") settings_at >>= λ settings.
    of_member [] d (codes "goods") goods_at >>= λ goods.
    of_member [] d (codes "bidders") (flat_bidders_at goods) >>= λ bidders.
    flat_made settings goods bidders)
    else refuse 2 []

-- the flat bids of a file's bytes, or the first fault
abbrev pub flat_of : List ℕ → Read FlatExchange
flat_of bytes = of_json flat_of_value (value_of bytes)
