-- Arrays of packages and objects of units, empty or not.
use Rattle.std.proofs.Common.{◌≡◌, ℕ, zero, suc, ◌<◌, cond, eqb, List, [], length, Ok, String, Global, refl, ap, ◌∙◌, arith}
use Rattle.std.proofs.lemmas.Bool.{eq-eqb, ne_eqb}
use Rattle.serde_json.specs.Data.{Data, Items, Members}
use Rattle.serde_json.specs.Events.{items_len, members_len}
use Rattle.serde_json.specs.View.{items_view, members_view}
use Rattle.serde_json.specs.declared.value.Value.{Value}
use Rattle.serde_json.proofs.Views.{members_len-members_view, items_len-items_view}
use Rattle.ice_defs.specs.FileFault.{Path, Read, refuse, ◌>>=◌}
use Rattle.ice_read.specs.Values.{array_of, object_of, each}
use Rattle.ice_xor.specs.FlatBids.{Package}
use Rattle.ice_xor.specs.declared.units.GoodUnits.{GoodUnits}
use Rattle.ice_xor.specs.FlatFile.{units_from, units_at, package_at, packages_at}

abbrev packages_of : List (List ℕ) → Path → Items → Read (List Package)
packages_of goods path items = cond (eqb (items_len items) 0) (refuse 91 path) (each (package_at goods) path 0 items)

pub packages-listed : (goods : List (List ℕ)) (path : Path) (d : Data) (vs : List Value) → array_of path d ≡ Ok (items_view vs) → 0 < length vs → packages_at goods path d ≡ each (package_at goods) path 0 (items_view vs)
packages-listed goods path d vs is some =
    ap (λ r. r >>= packages_of goods path) is
    ∙ ap (λ b. cond b (refuse 91 path) (each (package_at goods) path 0 (items_view vs))) (ne_eqb (items_len (items_view vs)) 0 (λ e. absurd (omega (arith, e, items_len-items_view vs))))

pub no-packages : (goods : List (List ℕ)) (path : Path) (d : Data) (vs : List Value) → array_of path d ≡ Ok (items_view vs) → length vs ≡ 0 → packages_at goods path d ≡ refuse 91 path
no-packages goods path d vs is none =
    ap (λ r. r >>= packages_of goods path) is
    ∙ ap (λ b. cond b (refuse 91 path) (each (package_at goods) path 0 (items_view vs))) (eq-eqb (items_len (items_view vs)) 0 (items_len-items_view vs ∙ none))

abbrev units_of : List (List ℕ) → Path → Members → Read (List GoodUnits)
units_of goods path members = cond (eqb (members_len members) 0) (refuse 90 path) (units_from goods path [] members)

pub units-listed : (goods : List (List ℕ)) (path : Path) (d : Data) (ms : List (String Global × Value)) → object_of path d ≡ Ok (members_view ms) → 0 < length ms → units_at goods path d ≡ units_from goods path [] (members_view ms)
units-listed goods path d ms is some =
    ap (λ r. r >>= units_of goods path) is
    ∙ ap (λ b. cond b (refuse 90 path) (units_from goods path [] (members_view ms))) (ne_eqb (members_len (members_view ms)) 0 (λ e. absurd (omega (arith, e, members_len-members_view ms))))

pub no-units : (goods : List (List ℕ)) (path : Path) (d : Data) (ms : List (String Global × Value)) → object_of path d ≡ Ok (members_view ms) → length ms ≡ 0 → units_at goods path d ≡ refuse 90 path
no-units goods path d ms is none =
    ap (λ r. r >>= units_of goods path) is
    ∙ ap (λ b. cond b (refuse 90 path) (units_from goods path [] (members_view ms))) (eq-eqb (members_len (members_view ms)) 0 (members_len-members_view ms ∙ none))

-- ---- what is not 0 is more

pub positive : (n : ℕ) → (n ≡ 0 → ⊥) → 0 < n
positive zero other = absurd (other refl)
positive (suc n) other = omega arith
