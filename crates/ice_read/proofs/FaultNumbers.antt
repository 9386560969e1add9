-- A fault of a file has a number, and so it is no want of memory; nor is
-- it a sale above what is owned, but where a bidder is added.
use Rattle.std.proofs.Common.{◌≡◌, ◌≢◌, ℕ, suc, Bool, true, false, cond, ltb, ℤ, pos, neg_ℤ, Ok, Err, List, [], ◌∷◌, ap, subst, arith}
use Rattle.std.specs.Prelude.{codes, ◌&&◌, int_le, unwrap_or}
use Rattle.serde_json.specs.Data.{unsigned, negative, float, Data, null, boolean, number, string, array, object, Items, no_items, item}
use Rattle.serde_json.specs.Events.{items_len}
use Rattle.ice_defs.specs.Name.{is_name}
use Rattle.ice_defs.specs.FileFault.{Path, Read, refuse, ◌>>=◌}
use Rattle.ice_read.specs.declared.fault.ReadFault.{ReadFault}
use Rattle.ice_read.specs.declared.cause.ReadCause.TheVariants.{Make, NoMemory}
use Rattle.ice_trade.specs.declared.faults.MakeFault.TheVariants.{OverSale}
use Rattle.ice_read.specs.Cause.{cause_number}
use Rattle.ice_read.specs.Fault.{fault_at}
use Rattle.ice_read.specs.Values.{at_member, at_index, of_member, array_of, text_of, in_range, whole_of, has_exactly, member_or_null, each}
use Rattle.ice_read.specs.TreeFile.{value_at}
use Rattle.ice_read.specs.RoundFile.{values_at, name_at, bid_at}

-- a fault has a number of which this holds
abbrev pub NumberIs : {X : Type 0} → (ℕ → Type 0) → Read X → Type 0
NumberIs P (Ok x) = Unit {0}
NumberIs P (Err fault) = P fault.number

abbrev pub IsNumber : ℕ → Type 0
IsNumber n = n ≢ 0

-- nor the number of a sale above what is owned
abbrev pub IsPlainNumber : ℕ → Type 0
IsPlainNumber n = (n ≢ 0) × (n ≢ 14)

abbrev pub IsNumbered : {X : Type 0} → Read X → Type 0
IsNumbered read = NumberIs IsNumber read

abbrev pub IsPlain : {X : Type 0} → Read X → Type 0
IsPlain read = NumberIs IsPlainNumber read

pub numbered : {X : Type 0} (read : Read X) → IsPlain read → IsNumbered read
numbered (Ok x) plain = tt
numbered (Err fault) plain = plain.0

pub no_memory : {X : Type 0} (read : Read X) (path : Path) (fault : ReadFault) → IsNumbered read → read ≡ Err (fault_at path fault) → fault.cause ≢ NoMemory
no_memory read path fault numbered is memory = subst IsNumbered is numbered (ap (λ cause. unwrap_or (cause_number cause) 0) memory)

-- nor is the fault of a member of the file
pub member_no_memory : {X : Type 0} (name : List ℕ) (read : Path → Data → Read X) → ((path : Path) (d : Data) → IsNumbered (read path d)) → (d : Data) (fault : ReadFault) → of_member [] d name read ≡ Err (fault_at [] fault) → fault.cause ≢ NoMemory
member_no_memory name read numbered d fault is = no_memory (read (at_member [] name) (member_or_null name d)) [] fault (numbered (at_member [] name) (member_or_null name d)) is

pub no_sale : {X : Type 0} (read : Read X) (path : Path) (fault : ReadFault) → IsPlain read → read ≡ Err (fault_at path fault) → (good : ℕ) (amount : ℤ) → fault.cause ≢ Make (OverSale good amount)
no_sale read path fault plain is good amount sale = (subst IsPlain is plain).1 (ap (λ cause. unwrap_or (cause_number cause) 0) sale)

pub then_is : {A B : Type 0} (P : ℕ → Type 0) (r : Read A) (next : A → Read B) → NumberIs P r → ((x : A) → NumberIs P (next x)) → NumberIs P (r >>= next)
then_is P (Ok x) next first later = later x
then_is P (Err fault) next first later = first

pub plain_then : {A B : Type 0} (r : Read A) (next : A → Read B) → IsPlain r → ((x : A) → IsPlain (next x)) → IsPlain (r >>= next)
plain_then r next plain later = then_is IsPlainNumber r next plain later

pub plain_if : {X : Type 0} (b : Bool) (x y : Read X) → IsPlain x → IsPlain y → IsPlain (cond b x y)
plain_if true x y first second = first
plain_if false x y first second = second

plain_each : {X : Type 0} (read : Path → Data → Read X) → ((path : Path) (d : Data) → IsPlain (read path d)) → (path : Path) (i : ℕ) (ds : Items) → IsPlain (each read path i ds)
plain_each read plain path i no_items = tt
plain_each read plain path i (item d ds) = plain_then (read (at_index path i) d) _ (plain (at_index path i) d) (λ x. plain_then (each read path (suc i) ds) _ (plain_each read plain path (suc i) ds) (λ xs. tt))

pub array_plain : (path : Path) (d : Data) → IsPlain (array_of path d)
array_plain path null = (λ e. omega arith, λ e. omega arith)
array_plain path (boolean b) = (λ e. omega arith, λ e. omega arith)
array_plain path (number n) = (λ e. omega arith, λ e. omega arith)
array_plain path (string s) = (λ e. omega arith, λ e. omega arith)
array_plain path (array ds) = tt
array_plain path (object ms) = (λ e. omega arith, λ e. omega arith)

pub text_plain : (path : Path) (d : Data) → IsPlain (text_of path d)
text_plain path null = (λ e. omega arith, λ e. omega arith)
text_plain path (boolean b) = (λ e. omega arith, λ e. omega arith)
text_plain path (number n) = (λ e. omega arith, λ e. omega arith)
text_plain path (string s) = tt
text_plain path (array ds) = (λ e. omega arith, λ e. omega arith)
text_plain path (object ms) = (λ e. omega arith, λ e. omega arith)

range_plain : (path : Path) (low high z : ℤ) → IsPlain (in_range path low high z)
range_plain path low high z = plain_if (int_le low z && int_le z high) (Ok z) (refuse 4 path) tt (λ e. omega arith, λ e. omega arith)

pub whole_plain : (low high : ℤ) (path : Path) (d : Data) → IsPlain (whole_of path low high d)
whole_plain low high path null = (λ e. omega arith, λ e. omega arith)
whole_plain low high path (boolean b) = (λ e. omega arith, λ e. omega arith)
whole_plain low high path (number (unsigned n)) = range_plain path low high (pos n)
whole_plain low high path (number (negative z)) = range_plain path low high z
whole_plain low high path (number (float x)) = (λ e. omega arith, λ e. omega arith)
whole_plain low high path (string s) = (λ e. omega arith, λ e. omega arith)
whole_plain low high path (array ds) = (λ e. omega arith, λ e. omega arith)
whole_plain low high path (object ms) = (λ e. omega arith, λ e. omega arith)

values_plain : (path : Path) (d : Data) → IsPlain (values_at path d)
values_plain path d = plain_then (array_of path d) _ (array_plain path d) (λ items.
    plain_if (ltb 200 (items_len items)) (refuse 4 path) (each value_at path 0 items) (λ e. omega arith, λ e. omega arith) (plain_each value_at (λ p v. whole_plain (neg_ℤ (pos 1000000000)) (pos 1000000000) p v) path 0 items))

name_plain : (path : Path) (d : Data) → IsPlain (name_at path d)
name_plain path d = plain_then (text_of path d) _ (text_plain path d) (λ name. plain_if (is_name name) (Ok name) (refuse 13 path) tt (λ e. omega arith, λ e. omega arith))

pub bid_plain : (path : Path) (d : Data) → IsPlain (bid_at path d)
bid_plain path d = plain_if (has_exactly (codes "bidder" ∷ codes "lo" ∷ codes "hi" ∷ []) d) _ (refuse 2 path) (
    plain_then _ _ (name_plain (at_member path (codes "bidder")) (member_or_null (codes "bidder") d)) (λ name.
    plain_then _ _ (values_plain (at_member path (codes "lo")) (member_or_null (codes "lo") d)) (λ lo.
    plain_then _ _ (values_plain (at_member path (codes "hi")) (member_or_null (codes "hi") d)) (λ hi. tt))))
    (λ e. omega arith, λ e. omega arith)
